-- What a host in C or Rust sees: results as one number, a state as bytes, and what each call leaves.
pub mod Result
pub mod Carried
pub mod Config
pub mod Calls
