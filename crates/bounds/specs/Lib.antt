-- The module of specs/.
pub mod Bounds
