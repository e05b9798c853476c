-- The module of specs/.
pub mod Act
