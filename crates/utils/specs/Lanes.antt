-- A block as eight vectors of eight lanes, as `dct` computes with it. A vector is the list of its
-- lanes.
use Rattle.std.specs.Prelude.{◌≡◌, List, [], ◌∷◌, ◌++◌, ℕ, ◌+◌, ◌*◌, ◌/◌, ◌%◌, map, Float}
use Rattle.std.specs.Prelude.{slice_index_or}
use Rattle.float.specs.Names.{val}

module _ {A : Type 0} where
  abbrev pub eight : (ℕ → A) → List A
  eight f = f 0 ∷ f 1 ∷ f 2 ∷ f 3 ∷ f 4 ∷ f 5 ∷ f 6 ∷ f 7 ∷ []

-- lane j of vector i
abbrev pub lane : List (List Float) → ℕ → ℕ → Float
lane m i j = val (slice_index_or m i []) j

-- rows for columns: vector i of it has lane i of each vector
abbrev pub transposed : List (List Float) → List (List Float)
transposed m = eight (λ i. eight (λ j. lane m j i))

-- eight vectors of eight lanes, and no more
abbrev pub IsBlock : List (List Float) → Type 0
IsBlock m = transposed (transposed m) ≡ m

-- f done to each lane: to the eight values that stand there, one in each vector
abbrev pub each_lane : (List Float → List Float) → List (List Float) → List (List Float)
each_lane f m = transposed (map f (transposed m))

-- The first 32 of the 64 values alternate with the last 32: one round of `interleave`. Three rounds
-- transpose.
abbrev pub interleaved : List (List Float) → List (List Float)
interleaved m =
    eight (λ i. eight (λ j.
    let k = (i * 8 + j) / 2 + (i * 8 + j) % 2 * 32 in
    lane m (k / 8) (k % 8)))

-- the eight rows of a block, and the block of eight rows
abbrev pub rows : List Float → List (List Float)
rows s = eight (λ i. eight (λ j. val s (i * 8 + j)))

abbrev pub joined : List (List Float) → List Float
joined m =
    let row : ℕ → List Float = λ i. slice_index_or m i [] in
    row 0 ++ row 1 ++ row 2 ++ row 3 ++ row 4 ++ row 5 ++ row 6 ++ row 7
