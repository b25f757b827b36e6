-- Lemmas that the proofs of several functions use.
pub mod Places
pub mod Commute
pub mod RowLaws
pub mod Filled
pub mod Lent
pub mod Eights
pub mod Summed
