-- The definition that the contract of `capacity` cites.
pub mod Capacity
