-- The modules of specs/, each after those that it uses.
pub mod Text
pub mod Put
pub mod Wrote
