-- A bank written is read back, an accepted one is written again as it was; the laws that the proofs of `reader` and `writer` cite.
pub mod Views
pub mod Copied
pub mod Taken
pub mod Sizes
pub mod Values
pub mod Answers
pub mod Back
pub mod Found
pub mod Again
pub mod Laid
pub mod Round
