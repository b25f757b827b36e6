-- Laws of a run of all its jobs.
pub mod Rest
pub mod Steps
pub mod Ends
