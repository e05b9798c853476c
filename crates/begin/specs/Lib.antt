-- The module of specs/.
pub mod Begun
