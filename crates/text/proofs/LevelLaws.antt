-- Levels by the tests that the code makes. r is what the field, or what follows its minus, was read as.
use Prim.Native.Nat.{ℕ, zero, suc, ◌≤◌}
use mathlib.Core.Path.{◌≡◌}
use mathlib.Core.List.{List, [], ◌∷◌}
use native.Mathlib.Omega.{arith}
use lib.ListN.{length, get_or}
use lib.IntN.{pos, neg_ℤ, ◌-ℤ◌, +ℤ_idl}
use mir.Syntax.{w16}
use mir.Val.{SFits, to_z}
use mir.Facts.{to_z_pos}
use borrow.Author.Tests.{ne_eqb}
use Rattle.text.specs.Numbers.{number_of}
use Rattle.text.specs.Levels.{from_zero, level_of}

to_z_small : (n : ℕ) → n ≤ 2047 → to_z w16 n ≡ pos n
to_z_small n h = to_z_pos w16 (omega arith)

sfits_minus : (n : ℕ) → n ≤ 2047 → SFits w16 (neg_ℤ (pos n))
sfits_minus zero h = record { sfits = omega arith }
sfits_minus (suc n) h = record { sfits = omega arith }

pub minus_fits : (n : ℕ) → n ≤ 2047 → SFits w16 (pos 0 -ℤ to_z w16 n)
minus_fits n h = rw (to_z_small n h, +ℤ_idl (neg_ℤ (pos n))) (sfits_minus n h)

pub level_plus : (s : List ℕ) → 1 ≤ length s → (get_or s 0 0 ≡ 45 → ⊥) → level_of s ≡ from_zero (number_of s)
unfolding level_of
level_plus [] h e = let z : ⊥ = omega arith in absurd z
level_plus (b ∷ l) h e = rw (ne_eqb b 45 e)
