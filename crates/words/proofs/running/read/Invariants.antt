use Rattle.std.proofs.Common.{◌≡◌, ℕ, take}
use Rattle.words.specs.Running.{from_word, values_of}
use Rattle.words.proofs.running.read.Given as goal

abbrev pub invariant-loop-x : goal.invariant-loop-x
invariant-loop-x g l =
    (l.rest ≡ from_word l.x-index l.line)
    × goal.F-IsAlwaysCallable g l.value
    × ((f : ℕ → g.row.T.Denot) → ((n : ℕ) (x : g.row.T.Denot) → goal.F-post g l.value n x → x ≡ f n) → take l.x-index l.xs ≡ values_of f l.x-index l.line)
