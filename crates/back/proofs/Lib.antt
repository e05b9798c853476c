-- The modules of proofs/, each after those that it uses.
pub mod Handing
pub mod Heading
pub mod Lowest
pub mod Samples
pub mod Values
pub mod Trips
