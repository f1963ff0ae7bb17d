-- The laws of a position.
pub mod Tests
pub mod Raised
pub mod SetValue
pub mod Cases
pub mod Laws
pub mod Readable
pub mod Stays
pub mod Keeps
pub mod Words
pub mod Against
pub mod Timer
pub mod After
