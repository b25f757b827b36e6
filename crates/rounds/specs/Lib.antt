-- A run of all its jobs, from its start to its last.
pub mod Whole
pub mod Rounds
