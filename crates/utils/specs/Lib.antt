-- What the contracts of this crate cite, and the crates above it.
pub mod Blocks
pub mod Dct
pub mod Auxiliary
pub mod Lanes
