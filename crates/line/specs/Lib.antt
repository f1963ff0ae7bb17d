-- The lines of `sheet`, and what they print.
pub mod Beside
pub mod Text
pub mod Sheet
pub mod Part
