-- The modules of specs/, each after those that it uses.
pub mod Patched
pub mod Places
pub mod Broken
