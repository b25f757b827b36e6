-- Lemmas that the proofs of several functions use.
pub mod Numbers
pub mod Zeros
pub mod Settled
pub mod Vectors
pub mod Guards
pub mod Words
pub mod Floats
