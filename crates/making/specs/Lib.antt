-- What making asks, and what it leaves.
pub mod Ran
