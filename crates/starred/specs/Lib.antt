-- The starred examples.
pub mod Table
