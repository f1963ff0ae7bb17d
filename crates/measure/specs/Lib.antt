-- The definitions that the contracts of `measure` cite.
pub mod Filter
pub mod Bound
pub mod Asked
