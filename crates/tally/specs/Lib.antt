-- The module of specs/.
pub mod Count
