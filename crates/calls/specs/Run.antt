-- The run's record, and which records are legal (document 01, "Jobs and positions" and "Sheet records").
-- The record is kept in two halves: the sheet's numbers, which no call changes, and a place for each channel, which the calls change.
use Rattle.std.specs.Prelude.{ℕ, zero, suc, ◌+◌, ◌*◌, ◌/◌, ◌%◌, Bool, true, false, not, ◌&&◌, ◌||◌, List, length, get_or, leb, ltb, eqb, ℤ, Float}
use Rattle.std.specs.Float.{nan, inf, fin}
use Rattle.fold.specs.Part.{part}
use Rattle.start.specs.declared.coef.Reorder.{Reorder}
use Rattle.start.specs.Coef.{Levels, low_at, high_at, pairs}

-- a channel's own numbers: its sides, its factors, its data weight, and the step after which it is held (M-108)
pub record Numbers : Type 0 where
  pub width : ℕ
  pub height : ℕ
  pub across : ℕ
  pub down : ℕ
  pub data_weight : Float
  pub held : ℕ

-- full width and height, iterations, smoothing weight, the letter of M-102's line `A`, which only start looks at, and the channels: how many, and their own numbers
pub record Sheet : Type 0 where
  pub W : ℕ
  pub H : ℕ
  pub N : ℕ
  pub smoothing : Float
  pub reorder : Reorder
  pub count : ℕ
  pub owns : List Numbers

-- a channel's position, which counts its accepted jobs, whether it is marked blown, and how many coefficients its last project clipped, 0 before
-- the first (M-104)
pub record Place : Type 0 where
  pub position : ℕ
  pub mark : Bool
  pub clipped : ℕ

-- what start is fed beside the places: the sheet, the levels and the tables
pub record Given : Type 0 where
  pub sheet : Sheet
  pub levels : Levels
  pub tables : List ℕ

-- ---- channel c's own numbers and its place

abbrev pub own : Sheet → ℕ → Numbers
own S c = get_or S.owns c (record { width = 0; height = 0; across = 0; down = 0; data_weight = nan; held = 0 })

abbrev pub fresh : Place
fresh = record { position = 0; mark = false; clipped = 0 }

abbrev pub place : List Place → ℕ → Place
place ps c = get_or ps c fresh

-- channel c's coefficients, w × h of them
abbrev pub coefs : Sheet → ℕ → ℕ
coefs S c = (own S c).width * (own S c).height

-- "levels (w × h a channel) and tables (64 quantisers a channel)": the levels of the channels before c come first, in the lows as in the highs
abbrev pub levels_before : Sheet → ℕ → ℕ
levels_before S zero = 0
levels_before S (suc c) = levels_before S c + coefs S c

-- the levels of the places from a on, up to e
abbrev pub levels_part : Levels → ℕ → ℕ → Levels
levels_part levels a e = pairs (part levels.lows a e) (part levels.highs a e)

-- number of channels; W × H values of a plane
abbrev pub count : Given → ℕ
count G = G.sheet.count

abbrev pub area : Given → ℕ
area G = G.sheet.W * G.sheet.H

-- lowest and highest level and quantiser of channel c's coefficient k
abbrev pub low : Given → ℕ → ℕ → ℤ
low G c k = low_at G.levels (levels_before G.sheet c + k)

abbrev pub high : Given → ℕ → ℕ → ℤ
high G c k = high_at G.levels (levels_before G.sheet c + k)

abbrev pub quantiser : Given → ℕ → ℕ → ℕ
quantiser G c k = get_or G.tables (c * 64 + k % 64) 0

-- ---- tests of the channels below k: of every one, and of any

abbrev pub every : ℕ → (ℕ → Bool) → Bool
every zero f = true
every (suc k) f = every k f && f k

abbrev pub among : ℕ → (ℕ → Bool) → Bool
among zero f = false
among (suc k) f = among k f || f k

-- ---- M-108: "After its held step a channel still takes its turns, but push, data, move and project leave its buffers unchanged"

-- Channel c of the run is held in a step, steps counted from 0. A job's step is its position's fifth: so a channel that is held after k steps is so
-- in each job from position 5k on.
abbrev pub held : Sheet → ℕ → ℕ → Bool
held S c step = ltb c S.count && leb (own S c).held step

-- ---- legal records: "numbers within the sheet's rules, equal blends in all channels, marks only at positive multiples of 5"; and of the kept
-- numbers (M-104) "A kept number above w × h, or not 0 before the first project, is 13"

-- "multiples of 8, at least 8", and for W and H "multiples of 8, 8 to 512"
abbrev pub side : ℕ → Bool
side n = eqb (n % 8) 0 && leb 8 n

abbrev pub full_side : ℕ → Bool
full_side n = side n && leb n 512

-- "factors (1 to 4)"
abbrev pub factor : ℕ → Bool
factor n = leb 1 n && leb n 4

-- refusal 6: "sign bit set, infinite, NaN" is no weight
unfoldable pub weight : Float → Bool
weight nan = false
weight (inf s) = false
weight (fin s m e) = not s

-- "w × across ≤ W, h × down ≤ H"; "a count above the iterations" (M-108) is 13 in a record
unfoldable pub own_ok : Sheet → Numbers → Bool
own_ok S o =
    side o.width && side o.height && factor o.across && factor o.down
    && leb (o.width * o.across) S.W && leb (o.height * o.down) S.H && weight o.data_weight
    && leb o.held S.N

-- "channels (1 or 3)", "iteration counts (0 to 1,000)"
unfoldable pub header_ok : Sheet → Bool
header_ok S =
    full_side S.W && full_side S.H && leb S.N 1000 && weight S.smoothing
    && (eqb S.count 1 || eqb S.count 3) && eqb (length S.owns) S.count

unfoldable pub sheet_ok : Sheet → Bool
sheet_ok S = header_ok S && every S.count (λ c. own_ok S (own S c))

-- blends among the first p jobs of a channel: one in each five, the third
abbrev pub blends_in : ℕ → ℕ
blends_in p = (p + 2) / 5

-- M-104: at most w × h, and 0 before the first project, which ends at position 5
abbrev pub kept_ok : Numbers → Place → Bool
kept_ok o p = leb p.clipped (o.width * o.height) && (leb 5 p.position || eqb p.clipped 0)

-- "from 0 to 5N"; "marks only at positive multiples of 5"
unfoldable pub place_ok : Sheet → Numbers → Place → Bool
place_ok S o p = leb p.position (5 * S.N) && (not p.mark || ltb 0 p.position && eqb (p.position % 5) 0) && kept_ok o p

-- "equal blends in all channels"
unfoldable pub places_ok : Sheet → List Place → Bool
places_ok S ps =
    eqb (length ps) S.count && every S.count (λ c. place_ok S (own S c) (place ps c))
    && every S.count (λ c. eqb (blends_in (place ps c).position) (blends_in (place ps 0).position))

abbrev pub legal : Sheet → List Place → Bool
legal S ps = sheet_ok S && places_ok S ps
