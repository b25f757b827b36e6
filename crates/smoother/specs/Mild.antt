-- The numbers of a sheet's record whose runs never blow.
use Rattle.std.specs.Prelude.{ℕ, ◌≤◌, ◌≡◌, true, List, slice_index}
use Rattle.std.specs.Float.{binary32}
use Rattle.std.specs.Float.Ieee.{of_bits}
use Rattle.mild.specs.Mild.{most_steps, light}

-- by their places, whatever the mode: three iteration counts of at most 20, and the bits of three smoothing weights and three data weights of at most 1
pub record MildNumbers (ns : List ℕ) : Type 0 where
  pub iterations : (i : ℕ) → 6 ≤ i → i ≤ 8 → slice_index ns i ≤ most_steps
  pub weights : (i : ℕ) → 9 ≤ i → i ≤ 14 → light (of_bits binary32 (slice_index ns i)) ≡ true
