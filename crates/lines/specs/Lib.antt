-- The module of specs/.
pub mod Lines
