-- Laws of the definitions.
pub mod Both
pub mod Lengths
