-- Laws for the proofs of the public calls.
pub mod Ready
pub mod JobLaws
pub mod Startable
