-- Kept: the check finds none of these alone (scripts/answers tries each).
-- `seam::same_holds` meets its contract.
use mathlib.Core.Path.{refl, ap, ◌∙◌}
use native.Mathlib.Omega.{arith}
use lib.Dec.{eqb}
use Rattle.std.proofs.Common.{rules}
use Rattle.std.proofs.lemmas.Iterator.{YieldsList-from_range}
use Rattle.std.proofs.lemmas.Iterator.Search.{all_from_yields_List}
use Rattle.contents.specs.Hold.{hold_at}
use Rattle.seam.specs.Seam.{same_holds}
use Rattle.seam.proofs.HoldsLaws.{holds_are}
use Rattle.seam.proofs.same_holds.Goals as goal

pub returns : goal.returns
returns c =
    let a = c.args in
    let n = c.used-n.result in
    all_from_yields_List {s = record { start = 0; end = n }} (λ k. eqb (hold_at a.s k) (hold_at a.t k))
    c.all.new.self _ _ c.all.ensures.ran (YieldsList-from_range 0 n n refl (omega arith))
    (λ x b q k. search rules)
    ∙ holds_are a.s a.t n
    ∙ ap (λ k. same_holds k a.s a.t) c.used-n.ensures
