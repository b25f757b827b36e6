-- M-112 of document 02 in its own words, "For every accepted sheet with all weights at most 1 and all iteration counts at most 20": the nine fields of the
-- `S` line, whatever the mode.
use Rattle.std.specs.Prelude.{◌≡◌, true, ℕ, ◌≤◌}
use Rattle.contents.specs.declared.Weight.{Weight}
use Rattle.contents.specs.Weights.{value_of}
use Rattle.contents.specs.declared.Sheet.{Sheet}
use Rattle.contents.specs.Hold.{iterations_at}
use Rattle.contents.specs.Sheets.{smoothing_at, data_at}
use Rattle.solve.specs.Solve.{joint, alone}
use Rattle.mild.specs.Mild.{most_steps, light}
use Rattle.mild.specs.Checked.{RunNeverBlows}

abbrev pub Light : Weight → Type 0
Light w = light (value_of w) ≡ true

pub record MildSheet (S : Sheet) : Type 0 where
  pub iterations : (c : ℕ) → iterations_at S.header c ≤ most_steps
  pub smoothing : (c : ℕ) → Light (smoothing_at S.header c)
  pub data_weights : (c : ℕ) → Light (data_at S.header c)

-- "no list of job calls from a fresh run, lent as demand 3 says, ever marks a channel": of the run that a sheet has in joint mode, and of each that it has in
-- separate mode. A theorem, `sheet_never` of proofs/Unblown.antt.
pub record SheetNeverBlows (S : Sheet) : Type 0 where
  pub jointly : RunNeverBlows (joint S)
  pub separately : (c : ℕ) → RunNeverBlows (alone S c)

abbrev pub MildSheetNeverBlows : Type 0
MildSheetNeverBlows = (S : Sheet) → MildSheet S → SheetNeverBlows S
