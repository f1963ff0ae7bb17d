-- What the functions of `writer` ask of each other.
pub mod Asked
