-- What a program that reads can promise of its input.
pub mod Input
