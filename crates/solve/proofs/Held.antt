-- The three held counts of a sheet, one for each place (M-108).
use mathlib.Core.Path.{◌≡◌, refl}
use Prim.Native.Nat.{ℕ, zero, suc}
use native.Mathlib.Omega.{arith}
use borrow.Author.Tests.{ne_eqb}
use Rattle.contents.specs.declared.Sheet.{Sheet}
use Rattle.contents.specs.declared.Header.{Header}
use Rattle.std.specs.Prelude.{Option, Some, None, List}
use Rattle.contents.specs.Three.{of_three}
use Rattle.contents.specs.Hold.{measured, count_at, hold_at}

-- what the counts are measured against; every place past the second is the third
pub three_measured : (h : Header) (c : ℕ) → of_three c (measured h 0) (measured h 1) (measured h 2) ≡ measured h c
unfolding measured
three_measured h zero = refl
three_measured h (suc zero) = refl
three_measured h (suc (suc c)) = rw (ne_eqb (suc (suc c)) 0 (λ e. omega arith), ne_eqb (suc (suc c)) 1 (λ e. omega arith))

-- the counts themselves, said or not
pub three_held : (S : Sheet) (c : ℕ) → of_three c (hold_at S 0) (hold_at S 1) (hold_at S 2) ≡ hold_at S c
unfolding hold_at
three_held S c = go S.settings.hold
  where
    go : (x : Option (List ℕ)) → of_three c (count_at x S.header 0) (count_at x S.header 1) (count_at x S.header 2) ≡ count_at x S.header c
    go None = three_measured S.header c
    go (Some l) = refl
