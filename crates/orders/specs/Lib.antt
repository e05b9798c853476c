-- The module of specs/.
pub mod Demand
