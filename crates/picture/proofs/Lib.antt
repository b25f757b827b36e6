-- Laws of the picture, and lemmas that the proofs of several functions use.
pub mod Bytes
pub mod Halves
pub mod Shades
pub mod Sizes
pub mod Pixels
pub mod Examples
