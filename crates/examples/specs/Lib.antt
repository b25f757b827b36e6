-- The rows that are proved together.
pub mod Table
