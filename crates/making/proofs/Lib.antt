-- The laws that the proofs of `making` cite.
pub mod Rows
