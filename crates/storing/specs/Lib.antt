-- What storing in a lent buffer means.
pub mod Stored
