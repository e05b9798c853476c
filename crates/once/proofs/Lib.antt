-- The modules of proofs/, each after those that it uses.
pub mod Once
pub mod Entries
pub mod Inner
pub mod Generic
pub mod Tally
pub mod Sheets
pub mod Walked
pub mod Running
