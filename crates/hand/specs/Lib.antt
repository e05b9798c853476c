-- The module of specs/.
pub mod Hand
