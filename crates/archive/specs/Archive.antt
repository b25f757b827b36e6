-- M-109: a channel's levels as the archive has them, and back. Levels stand in blocks of 64, each row by row; the archive has the
-- blocks in the same order.
use Rattle.std.specs.Prelude.{◌≡◌, Bool, cond, not, ◌&&◌, List, [], ◌∷◌, ℕ, zero, suc, ◌-◌, ◌*◌, ◌/◌, ◌%◌, ltb, eqb, ℤ, pos, ◌+ℤ◌, ◌-ℤ◌, length, get_or}
use Rattle.answers.specs.Tests.{first, test, all, level_ok}
use Rattle.answers.specs.Answers.{Filled, filled, fill}
use Rattle.answers.specs.Lists.{listed}
use Rattle.zigzag.specs.Zigzag.{to_raster, to_zigzag}

abbrev pub val : List ℤ → ℕ → ℤ
val xs k = get_or xs k (pos 0)

-- ---- to the archive

-- the first level of the block before the one that starts at place k, "0 before the first block"
abbrev pub before : List ℤ → ℕ → ℤ
before levels k = cond (ltb k 64) (pos 0) (val levels (k - 64))

-- place k of the archive: "T.81 zigzag order, the first level of each block as its difference from the block before"
unfoldable pub stored_at : List ℤ → ℕ → ℤ
stored_at levels k = cond (eqb (k % 64) 0) (val levels k -ℤ before levels k) (val levels (to_raster k))

abbrev pub rearranged : List ℤ → List ℤ
rearranged levels = listed (stored_at levels) (length levels)

-- ---- from the archive

-- what the differences of the first b blocks add up to: the first level of the last of them
unfoldable pub chain : List ℤ → ℕ → ℤ
chain stored zero = pos 0
chain stored (suc b) = chain stored b +ℤ val stored (b * 64)

-- the level at place p, row by row in its block
unfoldable pub restored_at : List ℤ → ℕ → ℤ
unfolding to_zigzag chain
restored_at stored p = cond (eqb (p % 64) 0) (chain stored (suc (p / 64))) (val stored (to_zigzag p))

abbrev pub restored : List ℤ → List ℤ
restored stored = listed (restored_at stored) (length stored)

-- ---- the calls

-- "both slices have the same length, a multiple of 64"
abbrev pub fitting : ℕ → ℕ → Bool
fitting n m = eqb n m && eqb (n % 64) 0

-- the tests of both calls on slices of n and m values: "Other lengths are 8, before 5", which is "a level beyond ±2,047"
abbrev pub refusal : ℕ → ℕ → List ℤ → ℕ
refusal n m levels = first (test 8 (not (fitting n m)) ∷ test 5 (not (all level_ok levels)) ∷ [])

-- rearranging levels into `out`
unfoldable pub rearranging : List ℤ → List ℤ → Filled ℤ
unfolding stored_at listed
rearranging levels out = fill (refusal (length levels) (length out) levels) (rearranged levels) out

-- the inverse refuses "(5) a difference chain, or another value, that leaves ±2,047": a level that it would give
unfoldable pub restoring : List ℤ → List ℤ → Filled ℤ
unfolding restored_at listed
restoring stored out = fill (refusal (length stored) (length out) (restored stored)) (restored stored) out

-- the call accepts `given`, whatever lies in room as long as `values`, and writes `values` there
abbrev pub GivesBack : (List ℤ → List ℤ → Filled ℤ) → List ℤ → List ℤ → Type 0
GivesBack call given values = (out : List ℤ) → length out ≡ length values → call given out ≡ filled 0 values

-- ---- one place more, as the loop over the places goes

-- the level at place p, where first is the sum of the differences of the blocks begun before p
unfoldable pub turned : List ℤ → ℤ → ℕ → ℤ
turned stored first p = cond (eqb (p % 64) 0) (first +ℤ val stored p) (val stored (to_zigzag p))

-- that sum for the place after p
abbrev pub first_after : ℤ → ℕ → ℤ → ℤ
first_after first p level = cond (eqb (p % 64) 0) level first
