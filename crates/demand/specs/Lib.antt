-- Demand 3, as a statement, and what running a list leaves.
pub mod Demand
pub mod Run
