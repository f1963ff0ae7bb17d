-- The laws of the alarms.
pub mod Bounds
pub mod Written
pub mod Ticks
pub mod Widening
pub mod Idle
pub mod Short
pub mod Against
