-- What a sheet text means. Document 01, "Sheet records".
pub mod Reading
pub mod Walk
pub mod Calls
