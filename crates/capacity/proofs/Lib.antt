-- A rule of a table, by a test of each entry.
pub mod Table
