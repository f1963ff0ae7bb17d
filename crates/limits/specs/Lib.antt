-- The definitions that the contracts of `limits` cite, and the tests that the crates above share.
pub mod Range
