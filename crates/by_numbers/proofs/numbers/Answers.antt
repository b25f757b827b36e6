-- Kept: the check finds none of these alone (scripts/answers tries each).
-- `numbers`: each number at its place.
use mathlib.Core.Path.{◌∙◌}
use Rattle.std.proofs.Common.{rules}
use Rattle.std.proofs.lemmas.List.{get_or_default}
use Rattle.contents.specs.Sheets.{no_weight}
use Rattle.by_numbers.proofs.SheetLaws.{bit}
use Rattle.by_numbers.specs.Sheets.{numbers_of}
use Rattle.by_numbers.proofs.numbers.Goals as goal

pub returns : goal.returns
unfolding numbers_of
returns c =
    let h = c.args.s.header in
    rw (
      c.from.ensures ∙ bit h.joint,
      c.weight_bits.ensures,
      c.weight_bits-2.ensures,
      c.weight_bits-3.ensures,
      c.weight_bits-4.ensures,
      c.weight_bits-5.ensures,
      c.weight_bits-6.ensures,
      get_or_default h.smoothing 0 _ no_weight (search rules),
      get_or_default h.smoothing 1 _ no_weight (search rules),
      get_or_default h.smoothing 2 _ no_weight (search rules),
      get_or_default h.data_weights 0 _ no_weight (search rules),
      get_or_default h.data_weights 1 _ no_weight (search rules),
      get_or_default h.data_weights 2 _ no_weight (search rules),
      c.chosen.ensures,
      c.chosen-2.ensures,
      c.held_after.ensures,
      c.held_after-2.ensures,
      c.held_after-3.ensures,
    )
