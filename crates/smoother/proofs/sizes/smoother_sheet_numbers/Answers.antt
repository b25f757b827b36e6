-- Kept: the check finds none of these alone (scripts/answers tries each).
-- `smoother_sheet_numbers`: as many as `numbers_of` lists.
use mathlib.Core.Path.{refl}
use Rattle.by_numbers.specs.Sheets.{numbers_of}
use Rattle.smoother.proofs.sizes.smoother_sheet_numbers.Goals as goal

pub returns : goal.returns
unfolding numbers_of
returns c = λ s. refl
