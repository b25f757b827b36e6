-- Kept: the check finds none of these alone (scripts/answers tries each).
-- `held_flags`: the three, in channel 0's step.
use mathlib.Core.Path.{ap, ◌∙◌}
use Prim.Native.Nat.{ℕ}
use Rattle.calls.specs.Run.{held}
use Rattle.record.specs.Model.{sheet_of}
use Rattle.record.proofs.Sizes.{count_1, count_3}
use Rattle.record.proofs.Held.{flags_are}
use Rattle.record.proofs.legal.LegalRun.held_flags.Goals as goal

pub invariant_of-span : goal.invariant_of-span
invariant_of-span c = record { below = count_1 c.args.self.run c.args.self.holds }

pub returns : goal.returns
returns c =
    let s = c in
    let r = s.args.self.run in
    let span = c.span-step in
    λ n.
    flags_are r (count_3 r s.args.self.holds) span.result.step _ _ _ c.held_in.ensures c.held_in-2.ensures c.held_in-3.ensures n
    ∙ ap (λ (k : ℕ). held (sheet_of r) n k) span.ensures.2
