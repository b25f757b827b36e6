-- Laws of the jobs, for demand 3.
pub mod Laws
pub mod Kept
