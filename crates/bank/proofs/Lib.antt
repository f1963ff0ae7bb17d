-- What is known of an accepted bank, and the laws that the proofs of `bank` cite.
pub mod Walk
pub mod Facts
