-- The laws of a part of a buffer that is made, and of a row that is copied.
pub mod Part
