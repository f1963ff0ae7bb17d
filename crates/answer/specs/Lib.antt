-- The numbers of a bank's refusal, as a struct.
pub mod Numbers
