-- The modules of proofs/ beside the proofs of the functions, each after those that it uses.
pub mod Laws
pub mod Most
pub mod Back
