-- What a line of `sheet` asks for.
pub mod Line
