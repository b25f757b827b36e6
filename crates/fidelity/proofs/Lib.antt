-- Laws that the proofs of several functions and the crates above use.
pub mod Lengths
pub mod Exact
pub mod Products
pub mod Cells
