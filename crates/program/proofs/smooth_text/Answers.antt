-- Kept: the check finds none of these alone (scripts/answers tries each).
-- `program::smooth_text` meets its contract: the first `decisive 32` bytes decide.
use borrow.Author.Rules.{rules}
use native.Mathlib.Omega.{arith}
use mathlib.Core.Path.{refl, ap, ◌∙◌}
use Prim.Native.Nat.{ℕ}
use borrow.Author.Tests.{lt-leb}
use lib.ListN.{take, length}
use mathlib.Core.List.{List}
use Rattle.std.proofs.lemmas.List.{take_min}
use Rattle.program.proofs.Printing.{decided, first_bytes, counted, part_short}
use Rattle.program.proofs.smooth_text.Goals as goal

pub returns-then-out-lt-MOST_PRINTED-clause-answer : goal.returns-then-out-lt-MOST_PRINTED-clause-answer
returns-then-out-lt-MOST_PRINTED-clause-answer c = rw (lt-leb _ _ c.if-out-lt-MOST_PRINTED.true) refl

pub answer-requires : goal.answer-requires
answer-requires c = (part_short c.args.text.now c.min.result c.min.ensures, omega (arith, c.if-out-lt-MOST_PRINTED.false, c.new-to.ensures.at, ap (λ (l : List ℕ). length l) c.new-to.ensures.out))

pub returns-clause-writes : goal.returns-clause-writes
returns-clause-writes c =
    first_bytes c.args.text.now _ c.args.out.now _ _ _ (rw (c.new-to.ensures.at, c.new-to.ensures.out) at c.answer.ensures.wrote) (search rules)
    (ap (λ (n : ℕ). take n c.args.text.now) c.min.ensures ∙ take_min decided c.args.text.now)

pub returns-clause-answer : goal.returns-clause-answer
returns-clause-answer c = counted c.args.text.now c.args.out.now _ _ c.if-out-lt-MOST_PRINTED.false (returns-clause-writes c)
