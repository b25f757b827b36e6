-- What the contracts cite.
pub mod Rows
