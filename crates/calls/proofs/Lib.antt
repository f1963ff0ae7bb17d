-- A state is read back from its bytes, so that a chain of calls leaves what the list of events leaves; and what a run leaves meets demand 3.
pub mod Round
pub mod Chain
pub mod Meets
pub mod Place
pub mod Written
pub mod Against
pub mod Replies
