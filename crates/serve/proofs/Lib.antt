-- Laws of a list of calls.
pub mod Listed
pub mod Served
pub mod Example
pub mod OneByOne
pub mod Kept
