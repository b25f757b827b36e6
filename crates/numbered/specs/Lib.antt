-- A call of a run by its numbers.
pub mod Numbered
