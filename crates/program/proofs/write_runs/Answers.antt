-- Kept: the check finds none of these alone (scripts/answers tries each).
use mathlib.Core.Path.{◌≡◌, ap, ◌∙◌}
use Prim.Native.Nat.{ℕ, suc, ◌*◌}
use native.Mathlib.Numerals.{add-one}
use native.Mathlib.Omega.{arith}
use Rattle.solve.specs.Solve.{steps_before}
use Rattle.output.proofs.Fronts.{adds_none, adds_as, said_ok}
use Rattle.program.proofs.Totals.{from_to, to_most, one_more, one_fits, none-yet}
use Rattle.program.proofs.write_runs.Goals as goal

pub loop-c-init : goal.loop-c-init
loop-c-init c = (omega arith, (adds_as (none-yet c.args.s c.requires.0 c.args.totals.now) (adds_none _), omega arith))

pub slice_bounds-write_totals-count : goal.slice_bounds-write_totals-count
slice_bounds-write_totals-count c = (let a = c.args in
    let l = c.loop-c in
    let e : c.steps_before-end.result ≡ steps_before a.s (suc l.c) = c.steps_before-end.ensures.0 ∙ ap (steps_before a.s) (add-one l.c) in
    omega (arith, c.steps_before-from.ensures.0, from_to a.s c.requires.0 a.totals.now c.requires.1 c.requires.2 l.c c.loop-c-test.true, to_most a.s c.requires.0 a.totals.now c.requires.1 c.requires.2 l.c c.loop-c-test.true))

pub slice_bounds-write_totals-start : goal.slice_bounds-write_totals-start
slice_bounds-write_totals-start c = (let a = c.args in
    let l = c.loop-c in
    let e : c.steps_before-end.result ≡ steps_before a.s (suc l.c) = c.steps_before-end.ensures.0 ∙ ap (steps_before a.s) (add-one l.c) in
    omega (arith, c.steps_before-from.ensures.0, from_to a.s c.requires.0 a.totals.now c.requires.1 c.requires.2 l.c c.loop-c-test.true, to_most a.s c.requires.0 a.totals.now c.requires.1 c.requires.2 l.c c.loop-c-test.true))

pub slice_bounds-write_totals-end : goal.slice_bounds-write_totals-end
slice_bounds-write_totals-end c = (let a = c.args in
    let l = c.loop-c in
    let e : c.steps_before-end.result ≡ steps_before a.s (suc l.c) = c.steps_before-end.ensures.0 ∙ ap (steps_before a.s) (add-one l.c) in
    omega (arith, c.steps_before-from.ensures.0, from_to a.s c.requires.0 a.totals.now c.requires.1 c.requires.2 l.c c.loop-c-test.true, to_most a.s c.requires.0 a.totals.now c.requires.1 c.requires.2 l.c c.loop-c-test.true))

pub unwrap-requires : goal.unwrap-requires
unwrap-requires c =
    let a = c.args in
    let p = c.requires in
    let l = c.loop-c in
    said_ok (rw c.iterations_at-steps.ensures at c.write_totals.ensures.answer)
    (one_fits a.s p.0 a.totals.now p.1 p.2 l.c c.loop-c-test.true a.to.now _ _ _ _
    (ap (λ (n : ℕ). n * 2) c.steps_before-from.ensures.0) (ap (λ (n : ℕ). n * 2) c.steps_before-end.ensures.0) p.3 l.invariant.1)

pub loop-c-preserved : goal.loop-c-preserved
loop-c-preserved c =
    let a = c.args in
    let p = c.requires in
    let l = c.loop-c in
    let v = rw (c.unwrap.ensures, c.iterations_at-steps.ensures) at c.write_totals.ensures.writes in (
      omega arith,
      one_more a.s p.0 a.totals.now p.1 p.2 l.c c.loop-c-test.true a.to.now _ _ _ _
          (ap (λ (n : ℕ). n * 2) c.steps_before-from.ensures.0) (ap (λ (n : ℕ). n * 2) c.steps_before-end.ensures.0) p.3 l.invariant.1 v,
    )
