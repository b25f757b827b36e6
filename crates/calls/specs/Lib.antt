-- The model of the run: its record, the calls, the plain run, and demand 3.
pub mod Run
pub mod Buffers
pub mod Jobs
pub mod Calls
pub mod Demand
pub mod Between
pub mod Laws
pub mod Held
