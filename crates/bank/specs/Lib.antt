-- The definitions that the contracts of `bank` cite, in the order of the document.
pub mod View
pub mod Pair
pub mod Check
