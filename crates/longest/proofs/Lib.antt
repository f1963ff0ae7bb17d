-- The longest accepted bank, and the refusal of a longer one by its front.
pub mod Longest
pub mod Front
