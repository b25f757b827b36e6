-- Laws that the proofs of several functions and the crates above use.
pub mod Bad
pub mod Lengths
pub mod Writes
pub mod Exact
pub mod Clips
