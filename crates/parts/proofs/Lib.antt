-- Laws for the proofs of this crate and of the public calls.
pub mod Covered
pub mod Projected
pub mod Started
