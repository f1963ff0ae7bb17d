-- The laws of two tests, for the proofs of this crate and of those above it.
pub mod Laws
