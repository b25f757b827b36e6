-- A small sheet, sheets/Low8.tsv, as what start is given: 8 by 8, one channel, two steps; and what demand 3 says of a solver on it.
use Rattle.std.specs.Prelude.{ℕ, false, List, [], ◌∷◌, ℤ, pos, negsuc, take, Float}
use Rattle.std.specs.Float.{binary32}
use Rattle.std.specs.Float.Ieee.{of_bits}
use Rattle.start.specs.declared.coef.Reorder.TheVariants.{Each}
use Rattle.start.specs.Coef.{pairs}
use Rattle.calls.specs.Run.{Place, Given}
use Rattle.calls.specs.Buffers.{make}
use Rattle.calls.specs.Jobs.{push, fidelity, move, project, Call, on, blend, kept}
use Rattle.calls.specs.Calls.{Answer, State, none_yet, plain_places}
use Rattle.calls.specs.Demand.{Claim}
use Rattle.demand.specs.Solver.{jobs}

-- one level at each place: it stands in both
abbrev pub levels8 : List ℤ
levels8 = pos 0 ∷ pos 0 ∷ pos 0 ∷ pos 0 ∷ pos 0 ∷ pos 0 ∷ pos 1 ∷ negsuc 0 ∷ pos 0 ∷ pos 0 ∷ pos 0 ∷ pos 0 ∷ pos 0 ∷ pos 0 ∷ pos 0 ∷ pos 0 ∷ pos 0 ∷ pos 0 ∷ pos 0 ∷ pos 0 ∷ pos 0 ∷ pos 0 ∷ pos 0 ∷ pos 0 ∷ pos 0 ∷ pos 0 ∷ pos 0 ∷ pos 0 ∷ negsuc 0 ∷ pos 0 ∷ pos 0 ∷ pos 0 ∷ pos 1 ∷ pos 1 ∷ pos 0 ∷ pos 0 ∷ pos 0 ∷ pos 0 ∷ pos 0 ∷ pos 0 ∷ pos 0 ∷ negsuc 0 ∷ pos 0 ∷ pos 0 ∷ pos 0 ∷ negsuc 0 ∷ pos 0 ∷ pos 0 ∷ pos 0 ∷ pos 0 ∷ pos 0 ∷ pos 0 ∷ pos 0 ∷ pos 0 ∷ pos 0 ∷ pos 0 ∷ pos 0 ∷ pos 0 ∷ pos 0 ∷ pos 0 ∷ negsuc 0 ∷ pos 0 ∷ pos 0 ∷ pos 0 ∷ []

unfoldable pub low8 : Given
low8 =
    record {
      sheet =
          record {
            W = 8;
            H = 8;
            N = 2;
            smoothing = of_bits binary32 1058642330;
            reorder = Each;
            count = 1;
            owns = record { width = 8; height = 8; across = 1; down = 1; data_weight = of_bits binary32 1017370378; held = 2 } ∷ [];
          };
      levels = pairs levels8 levels8;
      tables = 1 ∷ 2 ∷ 1 ∷ 1 ∷ 1 ∷ 2 ∷ 1 ∷ 1 ∷ 1 ∷ 1 ∷ 2 ∷ 2 ∷ 1 ∷ 2 ∷ 1 ∷ 2 ∷ 2 ∷ 1 ∷ 2 ∷ 1 ∷ 1 ∷ 2 ∷ 2 ∷ 2 ∷ 2 ∷ 1 ∷ 1 ∷ 2 ∷ 1 ∷ 1 ∷ 1 ∷ 2 ∷ 1 ∷ 2 ∷ 2 ∷ 1 ∷ 1 ∷ 2 ∷ 1 ∷ 2 ∷ 2 ∷ 1 ∷ 2 ∷ 2 ∷ 1 ∷ 2 ∷ 2 ∷ 2 ∷ 1 ∷ 2 ∷ 1 ∷ 1 ∷ 2 ∷ 1 ∷ 1 ∷ 2 ∷ 1 ∷ 1 ∷ 1 ∷ 1 ∷ 2 ∷ 1 ∷ 1 ∷ 1 ∷ [];
    }

-- the ten jobs of its two steps, each in its turn
abbrev pub step : List Call
step = on push 0 ∷ on fidelity 0 ∷ blend ∷ on move 0 ∷ on project 0 ∷ []

abbrev pub in_turn : List Call
in_turn = on push 0 ∷ on fidelity 0 ∷ blend ∷ on move 0 ∷ on project 0 ∷ step

-- its channel's place after p jobs
abbrev pub at : ℕ → List Place
at p = record { position = p; mark = false; clipped = kept jobs low8 p 0 } ∷ []

-- a record at its start, and six buffers that hold these values
abbrev pub lent_to : List Float → State
lent_to xs = record { places = at 0; buffers = make (λ b. xs) }

-- demand 3 of a solver that is made the first n of the ten calls, answers `said` and leaves t
abbrev pub After : ℕ → List Answer → State → Type 0
After n said t = Claim jobs low8 (take n in_turn) said t (plain_places jobs low8 (take n in_turn) (none_yet low8))
