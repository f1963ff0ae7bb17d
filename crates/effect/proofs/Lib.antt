-- The laws that the proofs of `effect` cite.
pub mod Laws
pub mod Rows
pub mod Walk
