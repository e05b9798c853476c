-- The module of specs/.
pub mod Play
