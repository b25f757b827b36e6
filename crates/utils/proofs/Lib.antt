-- Laws of the definitions.
pub mod Opened
pub mod Places
pub mod Moves
pub mod Lengths
pub mod Copied
pub mod Blockwise
pub mod Upsampled
pub mod Lanes
pub mod Fit
pub mod Rows
pub mod Examples
