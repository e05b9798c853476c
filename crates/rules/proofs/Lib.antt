-- The modules of proofs/, each after those that it uses.
pub mod Exact
pub mod FirstFrom
pub mod Runs
