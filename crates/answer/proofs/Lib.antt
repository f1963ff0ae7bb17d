-- The laws that the proofs of `answer` cite.
pub mod Laws
