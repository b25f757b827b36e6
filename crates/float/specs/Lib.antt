-- What the crate's contracts cite.
pub mod Ops
pub mod Nearest
pub mod Results
pub mod Names
pub mod Jam
pub mod Whole
