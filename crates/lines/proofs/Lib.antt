-- The module of proofs/ beside the proofs of the functions.
pub mod Glue
