-- The laws of the model; `Runs.demand3` is the theorem.
pub mod Examples
pub mod Parts
pub mod Tests
pub mod Legal
pub mod Facts
pub mod Step
pub mod Turns
pub mod Runs
pub mod Unmarked
pub mod Held
