-- The laws of the solver's jobs, and demand 3 of them.
pub mod Laws
pub mod Demand3
