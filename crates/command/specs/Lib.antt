-- What the functions of `command` ask, and parts of what a command does.
pub mod Moves
