-- A coefficient's interval (document 01, demand 3 and "Arithmetic below the Rust"): for levels from `low` to `high` and quantiser q,
-- twice the value lies from (2 low − 1) × q to (2 high + 1) × q. Both sides are taken times 2 ^ 149, so that whole numbers are compared.
-- A level of document 01 stands in both places: low and high are equal.
use Rattle.std.specs.Prelude.{ℕ, suc, ◌*◌, ◌/◌, ◌^◌, ◌≤◌, ◌≡◌, Bool, true, false, ◌||◌, ℤ, pos, negsuc, nat_abs, ◌+ℤ◌, ◌-ℤ◌, ◌*ℤ◌, ◌≤ℤ◌, int_lt, Float}
use Rattle.std.specs.Float.{nan, inf, fin, binary32}
use Rattle.std.specs.Float.Ieee.{up, down, lt, of_int}
use Rattle.std.specs.Float.Ieee.Exact.{HasValue}
use Rattle.float.specs.Ops.{clamp}
use Rattle.float.specs.Nearest.{signed}
use Rattle.float.specs.Names.{◌⊕◌, ◌⊖◌, ◌⊗◌, float}

-- ±m × 2 ^ e, times 2 ^ 149: a whole number for each finite f32 (`scaled_exact` of float/proofs/Scaled.antt)
abbrev pub scaled : Bool → ℕ → ℤ → ℤ
scaled s m e = signed s (m * up e * 2 ^ 149 / down e)

-- twice the ends
abbrev pub low_end : ℤ → ℕ → ℤ
low_end low q = (pos 2 *ℤ low -ℤ pos 1) *ℤ pos q

abbrev pub high_end : ℤ → ℕ → ℤ
high_end high q = (pos 2 *ℤ high +ℤ pos 1) *ℤ pos q

-- no NaN and no infinity is in an interval
unfoldable pub InInterval : ℤ → ℤ → ℕ → Float → Type 0
InInterval low high q nan = ⊥
InInterval low high q (inf s) = ⊥
InInterval low high q (fin s m e) =
    ((low_end low q *ℤ pos (2 ^ 149)) ≤ℤ (pos 2 *ℤ scaled s m e))
    × ((pos 2 *ℤ scaled s m e) ≤ℤ (high_end high q *ℤ pos (2 ^ 149)))

-- The same of any value as a test: twice a finite one, times 2 ^ 149, is below the lower end or above the upper. An infinity lies outside; a NaN doesn't.
unfoldable pub lies_outside : ℤ → ℤ → ℕ → Float → Bool
lies_outside low high q nan = false
lies_outside low high q (inf s) = true
lies_outside low high q (fin s m e) =
    int_lt (pos 2 *ℤ scaled s m e) (low_end low q *ℤ pos (2 ^ 149)) || int_lt (high_end high q *ℤ pos (2 ^ 149)) (pos 2 *ℤ scaled s m e)

-- a pair of levels and a quantiser as a sheet has them
pub record OfSheet (low high : ℤ) (q : ℕ) : Type 0 where
  pub ordered : low ≤ℤ high
  pub low_most : nat_abs low ≤ 2047
  pub high_most : nat_abs high ≤ 2047
  pub some : 1 ≤ q
  pub most : q ≤ 255

-- ---- the Rust's arithmetic of an interval (projection.rs, coef.rs)

-- a level as f32, and 0.5
abbrev pub whole : ℤ → Float
whole d = of_int binary32 d

abbrev pub f½ : Float
f½ = fin false 1 (negsuc 0)

-- min = (dct_coefs - 0.5) * quant_table, max = (dct_coefs + 0.5) * quant_table
unfoldable pub lowest : ℤ → ℕ → Float
lowest low q = (whole low ⊖ f½) ⊗ float q

unfoldable pub highest : ℤ → ℕ → Float
highest high q = (whole high ⊕ f½) ⊗ float q

-- level × quantiser: dct_coefs * quant_table, the level being an f32 as in the Rust
unfoldable pub dequantised : Float → ℕ → Float
dequantised level q = level ⊗ float q

-- x.clamp(min, max)
abbrev pub clamp_to : ℤ → ℤ → ℕ → Float → Float
clamp_to low high q x = clamp x (lowest low q) (highest high q)

-- M-104, whether the clamp moves x: it lies below the lower end or above the upper. An end lies inside; a NaN is not moved.
unfoldable pub outside : ℤ → ℤ → ℕ → Float → Bool
outside low high q x = lt x (lowest low q) || lt (highest high q) x

-- ---- M-105, a pair of levels: "Start and data gradient use the exact half sum of the pair"

unfoldable pub mid : ℤ → ℤ → Float
mid low high = (whole low ⊕ whole high) ⊗ f½

-- x is exactly z / 2; negsuc n is −(n + 1)
abbrev pub IsHalf : Float → ℤ → Type 0
IsHalf x (pos n) = HasValue x false n 2
IsHalf x (negsuc n) = HasValue x true (suc n) 2

-- neither the half sum nor half sum × quantiser is rounded, and the latter lies in the pair's interval: a theorem, `half_sum` of proofs/HalfSum.antt
pub record HalfSum (low high : ℤ) (q : ℕ) : Type 0 where
  pub half : IsHalf (mid low high) (low +ℤ high)
  pub product : IsHalf (dequantised (mid low high) q) ((low +ℤ high) *ℤ pos q)
  pub inside : InInterval low high q (dequantised (mid low high) q)

abbrev pub HalfSums : Type 0
HalfSums = (low high : ℤ) (q : ℕ) → low ≤ℤ high → nat_abs low ≤ 2047 → nat_abs high ≤ 2047 → 1 ≤ q → q ≤ 255 → HalfSum low high q

-- the lower end is below the upper: a theorem, `ends_apart` of proofs/HalfSum.antt
abbrev pub EndsApart : Type 0
EndsApart = (low high : ℤ) (q : ℕ) → low ≤ℤ high → nat_abs low ≤ 2047 → nat_abs high ≤ 2047 → 1 ≤ q → q ≤ 255 → lt (lowest low q) (highest high q) ≡ true
