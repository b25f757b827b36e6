-- How numbers and lines are written: what the reader and the printer share.
pub mod Written
