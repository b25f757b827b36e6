use Rattle.std.proofs.Common.{◌≡◌, ℕ, Bool, drop}
use Rattle.words.specs.Running.{same_values}
use Rattle.words.proofs.running.same_values.Given as goal

abbrev pub invariant-loop-x : goal.invariant-loop-x
invariant-loop-x g l =
    goal.F-IsAlwaysCallable g l.same
    × ((f : g.row.T.Denot → ℕ → Bool) → ((x : g.row.T.Denot) (n : ℕ) (b : Bool) → goal.F-post g l.same x n b → b ≡ f x n) → same_values f l.line l.xs ≡ same_values f l.rest (drop l.x-index l.xs))
