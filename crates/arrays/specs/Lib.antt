-- What reading and writing a bank give and leave.
pub mod Read
pub mod Encode
pub mod Write
