-- What was read so far of a sheet text, and what the next line adds.
pub mod Progress
pub mod Taking
