-- The modules of proofs/, each after those that it uses.
pub mod Example
pub mod MadeUp
pub mod Demand
