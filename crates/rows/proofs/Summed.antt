-- A fold over a row's values as a counted loop.
pub use Rattle.steps.proofs.Summed.{folded}
