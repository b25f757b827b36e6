-- Laws that the proofs of several functions and the crates above use.
pub mod Cover
pub mod Lengths
pub mod Writes
pub mod Examples
pub mod Once
pub mod Equal
pub mod Units
pub mod Held
