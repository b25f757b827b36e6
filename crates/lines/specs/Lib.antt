-- The lines of a sheet text. Document 01, "Sheet records".
pub mod Lines
pub mod Said
