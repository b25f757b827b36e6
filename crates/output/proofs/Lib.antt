-- Laws of the text, and lemmas that the proofs of several functions use.
pub mod Fronts
pub mod Lines
pub mod Chunks
pub mod Sizes
pub mod Examples
