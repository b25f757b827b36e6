-- Kept: the check finds none of these alone (scripts/answers tries each).
-- `picture::Clamped::nearest` meets its contract. Assumes nothing.
use Rattle.std.proofs.Common.{◌≡◌, ℕ, ◌+◌, true, false, sym, ap, ◌∙◌, arith}
use lib.Ieee.{le, to_unsigned}
use Rattle.float.specs.Names.{float, ◌⊕◌}
use Rattle.picture.proofs.Halves.{f½, half_or_more, less_than_half}
use Rattle.picture.proofs.Clamped.nearest.Goals as goal

-- the test, of the value's own whole part
tested : (c : goal.Then-k-self) → le (float (to_unsigned 8 c.args.self.v) ⊕ f½) c.args.self.v ≡ true
tested c = ap (λ (k : ℕ). le (float k ⊕ f½) c.args.self.v) (sym c.truncated-k.ensures) ∙ c.if-k-self.true

failed : (c : goal.Else-k-self) → le (float (to_unsigned 8 c.args.self.v) ⊕ f½) c.args.self.v ≡ false
failed c = ap (λ (k : ℕ). le (float k ⊕ f½) c.args.self.v) (sym c.truncated-k.ensures) ∙ c.if-k-self.false

pub overflow_add-result : goal.overflow_add-result
overflow_add-result c = record { fits = omega (arith, c.truncated-k.ensures, (half_or_more c.args.self.v c.args.self.most (tested c)).1) }

pub returns-then-k-self : goal.returns-then-k-self
returns-then-k-self c = ap (λ (k : ℕ). k + 1) c.truncated-k.ensures ∙ (half_or_more c.args.self.v c.args.self.most (tested c)).0

pub returns : goal.returns
returns c = c.truncated-k.ensures ∙ less_than_half c.args.self.v c.args.self.most (failed c)
