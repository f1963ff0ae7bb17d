-- The definitions that the contracts of `setting` cite, in the order of the document.
pub mod Found
pub mod Setting
