-- Laws for the crates above.
pub mod Laws
pub mod Examples
mod Eights
pub mod Marks
pub mod Summed
