-- The module of specs/.
pub mod Exported
