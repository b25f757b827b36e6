-- What `never_blows` tells of a record.
use Rattle.std.specs.Prelude.{◌≡◌, Bool, true, ◌&&◌, List, ℕ}
use Rattle.start.specs.Coef.{Levels}
use Rattle.calls.specs.Run.{legal}
use Rattle.calls.specs.Jobs.{Call}
use Rattle.calls.specs.Calls.{State, done, start}
use Rattle.demand.specs.Solver.{jobs}
use Rattle.record.specs.declared.Run.{Run}
use Rattle.record.specs.Model.{sheet_of, places_of, given_of}
use Rattle.mild.specs.Mild.{mild, NeverBlows}

-- M-112 of one record: whatever levels, tables and buffers start accepts with it, and whatever list of calls follows
abbrev pub RunNeverBlows : Run → Type 0
RunNeverBlows r = (levels : Levels) (tables : List ℕ) (s : State) → (start jobs (given_of r levels tables) s).answer ≡ done → (xs : List Call)
    → NeverBlows jobs (given_of r levels tables) xs (start jobs (given_of r levels tables) s).after

-- it is true exactly for a legal record of a mild run, and then the theorem speaks of it
pub record Tells (r : Run) (b : Bool) : Type 0 where
  pub exactly : b ≡ (legal (sheet_of r) (places_of r) && mild (sheet_of r))
  pub promise : b ≡ true → RunNeverBlows r
