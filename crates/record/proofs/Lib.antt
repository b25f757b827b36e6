-- Laws for the proofs of this crate and of its callers.
pub mod Weights
pub mod Channels
pub mod Placed
pub mod Sizes
pub mod Tested
pub mod Turns
pub mod Held
pub mod Firsts
