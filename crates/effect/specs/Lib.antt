-- What the functions of `effect` ask, and what they leave.
pub mod Known
pub mod Done
pub mod Ran
