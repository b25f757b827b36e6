-- Lemmas that the proofs use.
pub mod Held
