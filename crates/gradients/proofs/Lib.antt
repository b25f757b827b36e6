-- Lemmas that the proofs of several functions use.
pub mod Places
pub mod Laws
pub mod Edges
pub mod Turns
pub mod Examples
pub mod Apart
