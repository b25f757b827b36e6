-- What the crate's contracts cite.
pub mod Words
pub mod Running
