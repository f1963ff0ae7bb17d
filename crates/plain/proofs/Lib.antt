-- The laws of the controller's definitions.
pub mod Record
pub mod Listed
pub mod Bank
pub mod Judged
pub mod Credits
pub mod Good
pub mod Counted
pub mod Standing
pub mod Effects
pub mod Against
pub mod Timer
pub mod Cases
