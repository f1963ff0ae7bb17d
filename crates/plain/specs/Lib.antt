-- The controller's definitions, in the order of the document.
pub mod Record
pub mod Setup
pub mod Answer
pub mod Run
pub mod Refusals
pub mod Event
pub mod Replay
pub mod Listed
