-- What callers' proofs cite is in Laws; the other modules are how it is shown.
pub mod Laws
pub mod Number
pub mod Order
pub mod Range
pub mod Nearest
