-- Demand 3 holds.
pub mod Demand
pub mod Run
