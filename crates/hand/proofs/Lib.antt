-- The modules of proofs/ beside the proofs of the functions, each after those that it uses.
pub mod Stored
