-- The modules of proofs/, each after those that it uses.
pub mod Put
pub mod Clip
pub mod Refusal
pub mod Start
pub mod Step
pub mod Turn
pub mod Hand
