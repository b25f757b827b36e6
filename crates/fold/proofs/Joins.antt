-- Lists put together of pieces, of m values each or of any lengths. Assumes nothing.
use mathlib.Core.Path.{◌≡◌, sym, ap, ◌∙◌, subst}
use mathlib.Core.Logic.{⊎_elim}
use mathlib.Core.List.{List, ◌++◌, append_assoc, append-nil}
use Prim.Native.Nat.{ℕ, zero, suc, ◌+◌, ◌-◌, ◌*◌, ◌<◌}
use native.Mathlib.Nat.{suc-mul, zero-mul, not-suc-le-zero, eq-or-lt_of_le, le_of_suc-le-suc, le_of_eq}
use native.Mathlib.Numerals.{add-one}
use native.Mathlib.Omega.{arith}
use lib.ListN.{length, drop, get_or, length-append, drop_of_length-le, get_or-append}
use lib.Seq.{get_or-append-add, take_at, drop_at, drop-drop}
use Rattle.fold.specs.Fold.{upto}
use Rattle.fold.specs.Part.{splice}
use Rattle.fold.proofs.Grid.{in_grid}
use Rattle.fold.specs.Join.{join_upto}

-- piece k begins at place `at k`
module _ {A : Type 0} (f : ℕ → List A) (at : ℕ → ℕ) (none : at 0 ≡ 0) (each : (k : ℕ) → at (suc k) ≡ at k + length (f k)) where
  pub joined_length : (n : ℕ) → length (join_upto f n) ≡ at n
  unfolding upto
  joined_length zero = sym none
  joined_length (suc n) = length-append (join_upto f n) (f n) ∙ rw (joined_length n, each n)

  -- a list that is overwritten piece by piece: before the first turn, after one more, and after the last
  pub filled_none : (t : List A) → t ≡ join_upto f 0 ++ drop (at 0) t
  unfolding upto
  filled_none t = rw none

  pub filled_more : (k : ℕ) (t : List A) {x y : List A} → x ≡ join_upto f k ++ drop (at k) t → y ≡ splice x (at k) (at (suc k)) (f k)
      → y ≡ join_upto f (suc k) ++ drop (at (suc k)) t
  unfolding upto
  filled_more k t {x} {y} e h =
      let n = joined_length k in
      let c : at k + length (f k) - at k ≡ length (f k) = omega arith in
      h ∙ rw (e, each k, take_at (join_upto f k) (drop (at k) t) (at k) n, drop_at (join_upto f k) (drop (at k) t) (at k) n, c, drop-drop, append_assoc)

  pub filled_all : (k n : ℕ) (t : List A) {x : List A} → x ≡ join_upto f k ++ drop (at k) t → k ≡ n → length t ≡ at n → x ≡ join_upto f n
  filled_all k n t {x} e h l =
      rw (h, drop_of_length-le t (le_of_eq l), append-nil) at e

module _ {A : Type 0} (f : ℕ → List A) (m : ℕ) (each : (k : ℕ) → length (f k) ≡ m) where
  pub join_length : (n : ℕ) → length (join_upto f n) ≡ n * m
  unfolding upto
  join_length zero = sym (zero-mul m)
  join_length (suc n) = length-append (join_upto f n) (f n) ∙ rw (suc-mul, join_length n, each n)

  -- what stands in piece k
  pub join_at : (d : A) (n k j : ℕ) → k < n → j < m → get_or (join_upto f n) (k * m + j) d ≡ get_or (f k) j d
  unfolding upto
  join_at d zero k j h l = absurd (not-suc-le-zero h)
  join_at d (suc n) k j h l =
      ⊎_elim
      (λ e.
      subst (λ (i : ℕ). get_or (join_upto f n ++ f n) (i * m + j) d ≡ get_or (f i) j d) (sym e)
      (subst (λ (i : ℕ). get_or (join_upto f n ++ f n) (i + j) d ≡ get_or (f n) j d) (join_length n) (get_or-append-add (join_upto f n) (f n) j d)))
      (λ i. get_or-append (join_upto f n) (f n) d (k * m + j) (rw (join_length n) (in_grid k n j m i l)) ∙ join_at d n k j i l)
      (eq-or-lt_of_le (le_of_suc-le-suc h))

  -- a list that is overwritten piece by piece: before the first turn, after one more, and after the last
  at_next : (k : ℕ) → suc k * m ≡ k * m + length (f k)
  at_next k = rw (suc-mul, each k)

  pub fill_none : (t : List A) → t ≡ join_upto f 0 ++ drop (0 * m) t
  fill_none t = filled_none f (λ k. k * m) (zero-mul m) at_next t

  pub fill_more : (k : ℕ) (t : List A) {x y : List A} → x ≡ join_upto f k ++ drop (k * m) t → y ≡ splice x (k * m) (k * m + m) (f k)
      → y ≡ join_upto f (k + 1) ++ drop ((k + 1) * m) t
  fill_more k t {x} {y} e h =
      rw add-one (filled_more f (λ k. k * m) (zero-mul m) at_next k t e (h ∙ ap (λ (n : ℕ). splice x (k * m) n (f k)) (sym (suc-mul k m))))

  pub fill_all : (k n : ℕ) (t : List A) {x : List A} → x ≡ join_upto f k ++ drop (k * m) t → k ≡ n → length t ≡ n * m → x ≡ join_upto f n
  fill_all k n t {x} e h l = filled_all f (λ k. k * m) (zero-mul m) at_next k n t e h l
