-- What the functions of `reader` ask of each other.
pub mod Asked
