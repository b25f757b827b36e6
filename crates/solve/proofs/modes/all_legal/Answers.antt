-- Kept: the check finds none of these alone (scripts/answers tries each).
use mathlib.Core.Path.{◌≡◌, refl, sym, ap, ◌∙◌}
use Prim.Native.Nat.{ℕ}
use mathlib.Core.Bool.{Bool}
use native.Mathlib.Omega.{arith}
use Rattle.std.proofs.Common.{rules}
use Rattle.std.specs.List.{list_all, range_with_len}
use Rattle.std.proofs.lemmas.List.{take_all}
use Rattle.std.proofs.lemmas.List.FromFn.{length-range_with_len, get_or-range_with_len}
use Rattle.std.proofs.lemmas.Iterator.{YieldsList-from_range}
use Rattle.std.proofs.lemmas.Iterator.Search.{all_from_yields_List}
use Rattle.calls.specs.Run.{every}
use Rattle.record.proofs.Firsts.{all_first, every_same}
use Rattle.solve.specs.Solve.{alone, is_legal}
use Rattle.solve.proofs.Alone.{not-all, all_of}
use Rattle.solve.proofs.modes.all_legal.Goals as goal

-- a test of the numbers of a range as a test of the places below its end
every_below : (f : ℕ → Bool) (n : ℕ) → list_all f (range_with_len 0 n) ≡ every n f
every_below f n =
    ap (list_all f) (sym (take_all n (range_with_len 0 n) (omega (arith, length-range_with_len 0 n))))
    ∙ all_first f 0 (range_with_len 0 n) n (omega (arith, length-range_with_len 0 n))
    ∙ every_same n (λ c l. ap f (get_or-range_with_len 0 n c 0 l ∙ omega arith))

pub returns-then-not-legal : goal.returns-then-not-legal
returns-then-not-legal c = not-all c.args.s (sym (rw c.joint_of.ensures at c.legal.ensures) ∙ c.if-not-legal.true)

pub returns : goal.returns
returns c =
    let s = c.args.s in
    let n = s.header.channels in
    all_of s (sym (rw c.joint_of.ensures at c.legal.ensures) ∙ c.if-not-legal.false) _
    (all_from_yields_List {s = record { start = 0; end = n }} (λ k. is_legal (alone s k)) c.all.new.self _ _ c.all.ensures.ran
    (YieldsList-from_range 0 n n refl (omega arith)) (λ x b q k. search rules)
    ∙ every_below (λ k. is_legal (alone s k)) n)
