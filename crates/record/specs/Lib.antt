-- The struct as the model's record.
pub mod Model
pub mod Job
pub mod Lent
