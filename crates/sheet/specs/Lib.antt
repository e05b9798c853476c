-- The modules of specs/, each after those that it uses.
pub mod Layout
