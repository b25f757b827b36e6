-- What the bytes of a sheet text mean, up to a field. Document 01, "Sheet records".
pub mod Pieces
pub mod Cursor
pub mod Numbers
pub mod Weights
pub mod Levels
pub mod Fields
pub mod Written
