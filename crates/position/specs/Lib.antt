-- A position, in the order of the document: what a bank says there, set value, tick, next, signals; commands; return; readable. And how the
-- code holds a temperature, and what it keeps of what a bank said.
pub mod Tests
pub mod Program
pub mod Command
pub mod Return
pub mod Raised
pub mod After
