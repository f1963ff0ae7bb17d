-- The laws that the proofs of `carried_list` cite.
pub mod Laws
