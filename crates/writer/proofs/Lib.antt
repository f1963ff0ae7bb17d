-- A law that the proofs of `writer` cite.
pub mod Rows
pub mod Walk
pub mod Judged
pub mod Again
