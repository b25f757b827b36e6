-- `put_each`: each place passed has its value, whatever function gives the values that the closure can give.
use Rattle.std.proofs.Common.{◌≡◌, ℕ, ◌<◌, length, get_or}
use Rattle.zigzag.proofs.put_each.Given as goal

abbrev pub invariant-loop-k : goal.invariant-loop-k
invariant-loop-k g l =
    (length l.out ≡ length l.initial.out)
    × ((k : ℕ) → k < length l.initial.out → goal.F-pre g l.value k)
    × ((f : ℕ → g.row.T.Denot) → ((k : ℕ) (x : g.row.T.Denot) → k < length l.initial.out → goal.F-post g l.value k x → x ≡ f k)
    → (j : ℕ) (d : g.row.T.Denot) → j < l.k → get_or l.out j d ≡ f j)
