-- What the contracts of the exported calls cite.
pub mod Numbers
pub mod OneByOne
pub mod Sizes
pub mod Mild
