-- What the crate's contracts cite.
pub mod Finish
pub mod NearestUp
