-- What the jobs of a channel are handed, and what they leave.
pub mod Parts
pub mod Handed
