-- The laws of loops, parts, grids and flags, each stated once over any element.
pub mod Examples
pub mod Loops
pub mod Local
pub mod Stores
pub mod Parts
pub mod Grid
pub mod Choice
pub mod Scatter
pub mod Joins
pub mod Turned
