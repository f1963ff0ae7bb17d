-- The laws of a check, and of what settings say, for the proofs of this crate and of those above it.
pub mod Laws
pub mod Padded
