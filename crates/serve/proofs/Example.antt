-- A worked list of calls, on every run of one channel and one step (N = 1): push, push again, push of a channel that is not there, blend before data,
-- data, blend, move, project, and push after the last step.
use mathlib.Core.Path.{◌≡◌}
use mathlib.Core.Bool.{Bool, true, false, cond}
use mathlib.Core.List.{List, [], ◌∷◌, map}
use Prim.Native.Nat.{ℕ}
use lib.Ieee.{Float}
use Rattle.start.specs.Coef.{Levels}
use Rattle.start.specs.declared.coef.Reorder.{Reorder}
use Rattle.calls.specs.Run.{Numbers, Given}
use Rattle.calls.specs.Jobs.{Call, fixed, channel_blown}
use Rattle.calls.specs.Calls.{none_yet, plain, plain_answers}
use Rattle.demand.specs.Solver.{jobs}
use Rattle.serve.specs.Serve.{call_list, byte_of}

abbrev calls : List Call
calls = call_list (0 ∷ 0 ∷ 0 ∷ 2 ∷ 1 ∷ 2 ∷ 3 ∷ 4 ∷ 0 ∷ []) (0 ∷ 0 ∷ 7 ∷ 0 ∷ 0 ∷ 0 ∷ 0 ∷ 0 ∷ 0 ∷ [])

module _ (w h : ℕ) (smoothing : Float) (reorder : Reorder) (own : Numbers) (levels : Levels) (tables : List ℕ) where
  abbrev G : Given
  G = record { sheet = record { W = w; H = h; N = 1; smoothing = smoothing; reorder = reorder; count = 1; owns = own ∷ [] }; levels = levels; tables = tables }

  -- 9, 12 and 9 are the refusals; where project marks the channel, it is 255, and the last call is 10 before it is 11
  pub answered : (bad : Bool) → channel_blown G 0 (fixed jobs G 5 0) ≡ bad
      → map byte_of (plain_answers jobs G calls (none_yet G)) ≡ 0 ∷ 9 ∷ 12 ∷ 9 ∷ 0 ∷ 0 ∷ 0 ∷ cond bad 255 0 ∷ cond bad 10 11 ∷ []
  unfolding plain_answers plain
  answered true e = rw e
  answered false e = rw e
