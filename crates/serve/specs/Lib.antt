-- A list of calls on a run, and what it gives.
pub mod Serve
pub mod Made
