-- Kept: the check finds none of these alone (scripts/answers tries each).
-- `text::pieces::before` meets its contract.
use Rattle.std.proofs.Common.{arith, sym, ap, ◌∙◌, ◌≡◌, ℕ, length, take}
use Rattle.text.specs.Pieces.{before}
use Rattle.text.proofs.PieceLaws.{before_some, before_none, before_take, before_all}
use Rattle.text.proofs.pieces.before.Goals as goal

pub returns-in-Some : goal.returns-in-Some
returns-in-Some c =
    let l = c.args.rest.now in
    let f = before_some c.args.b c.in-Some.n l (sym c.in-Some.is ∙ c.first_place.ensures) in
    let e : c.in-Some.n ≡ length (before c.args.b l) = omega (arith, f.1) in
    ap (λ (n : ℕ). take n l) e ∙ before_take c.args.b l

pub returns-in-None : goal.returns-in-None
returns-in-None c =
    let l = c.args.rest.now in
    before_all c.args.b l (omega (arith, before_none c.args.b l (sym c.in-None.is ∙ c.first_place.ensures)))
