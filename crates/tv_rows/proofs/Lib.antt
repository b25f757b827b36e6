-- Lemmas that the proofs of several functions use.
pub mod KindByKind
pub mod Stored
pub mod TvRow
