-- The theorem.
pub mod Proved
