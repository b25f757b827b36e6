-- Kept: the check finds none of these alone (scripts/answers tries each).
-- `never_blows`: legal, and the three parts of the test.
use mathlib.Core.Path.{◌≡◌, sym, ◌∙◌, subst}
use mathlib.Core.Bool.{true}
use lib.Dec.{T}
use Rattle.calls.specs.Run.{legal}
use Rattle.record.specs.Model.{sheet_of, places_of}
use Rattle.record.proofs.Sizes.{count_3}
use Rattle.mild.specs.Mild.{mild}
use Rattle.mild.proofs.Checked.{tells_of}
use Rattle.mild.proofs.never_blows.Goals as goal

pub weights_ok-requires : goal.weights_ok-requires
weights_ok-requires c = count_3 c.args.run (subst T (sym c.if-legal.true ∙ c.legal.ensures) tt)

pub returns-then-legal : goal.returns-then-legal
unfolding mild
returns-then-legal c =
    let r = c.args.run in
    let yes : legal (sheet_of r) (places_of r) ≡ true = sym c.legal.ensures ∙ c.if-legal.true in
    tells_of r _ (rw (c.weights_ok.ensures, c.light_ok.ensures, yes))
