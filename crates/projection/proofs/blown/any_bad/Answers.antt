use Rattle.std.proofs.Common.{◌≡◌, ℕ, ◌-◌, ◌*◌, ◌/◌, ap, ◌∙◌, drop, false, length, length-drop, subst, sym, take, arith, rules}
use Rattle.std.proofs.lemmas.List.{take_all}
use Rattle.projection.specs.Blown.{any_bad}
use Rattle.projection.proofs.Bad.{found, none_more, rest}
use Rattle.projection.proofs.blown.any_bad.Goals as goal

pub returns-then-bad_row : goal.returns-then-bad_row
returns-then-bad_row c = found c.args.xs.now c.loop-k.k (sym c.bad_row.ensures ∙ c.if-bad_row.true)

pub loop-k-preserved : goal.loop-k-preserved
loop-k-preserved c = (search rules, none_more c.args.xs.now c.loop-k.k c.loop-k.invariant.1 (sym c.bad_row.ensures ∙ c.if-bad_row.false))

pub returns : goal.returns
returns c =
    let xs = c.args.xs.now in
    let n = length xs / 8 in
    let e : c.loop-k.k ≡ n = omega arith in
    let tail : take (length xs - n * 8) (drop (n * 8) xs) ≡ drop (n * 8) xs = take_all (length xs - n * 8) (drop (n * 8) xs) (omega (arith, length-drop (n * 8) xs)) in
    c.has_bad.ensures ∙ ap any_bad tail ∙ rest xs (n * 8) (subst (λ (k : ℕ). any_bad (take (k * 8) xs) ≡ false) e c.loop-k.invariant.1)
