-- What a scan meets: the pieces of what is left, one byte further.
use Prim.Native.Nat.{ℕ, ◌+◌, ◌-◌, ◌<◌, ◌≤◌}
use mathlib.Core.Path.{◌≡◌, refl, sym, ap, ◌∙◌}
use mathlib.Core.List.{List, [], ◌∷◌}
use mathlib.Core.Bool.{Bool, true, false, cond}
use native.Mathlib.Numerals.{add-one}
use native.Mathlib.Omega.{arith}
use lib.ListN.{length, get_or, drop, take, length-drop, get_or-eq_default}
use native.Mathlib.Nat.{lt_of_not-le, suc-add}
use lib.Seq.{take_all, drop-cons, get_or-drop, drop-drop}
use lib.Dec.{eqb, ltb}
use borrow.Author.Tests.{ltb-true, ltb-false}
use Rattle.std.specs.List.{position_or_len}
use Rattle.std.proofs.Common.{not, Some, None, position}
use Rattle.std.specs.Int.{from_bool}
use Rattle.text.specs.Pieces.{split, before, onto}
use Rattle.text.specs.Cursor.{AtField}

-- the list from i on, one element further
pub drop_step : (s : List ℕ) (i : ℕ) → i < length s → drop i s ≡ get_or s i 0 ∷ drop (i + 1) s
drop_step s i h = rw (add-one, drop-cons s i 0)

-- The first piece ends at the first b
pub before_place : (b : ℕ) (l : List ℕ) → position_or_len (λ x. eqb x b) l ≡ length (before b l)
before_place b [] = refl
before_place b (x ∷ l) = two (eqb x b) (before_place b l)
  where
    two : (t : Bool) → position_or_len (λ x. eqb x b) l ≡ length (before b l) → cond (not t) (1 + position_or_len (λ x. eqb x b) l) 0 ≡ length (cond t [] (x ∷ before b l))
    two true e = refl
    two false e = omega arith

pub before_some : (b n : ℕ) (l : List ℕ) → Some n ≡ position (λ x. eqb x b) l → (n < length l) × (n ≡ length (before b l))
before_some b n l e = two (ltb (position_or_len (λ x. eqb x b) l) (length l)) refl e
  where
    two : (t : Bool) → ltb (position_or_len (λ x. eqb x b) l) (length l) ≡ t → Some n ≡ cond t (Some (position_or_len (λ x. eqb x b) l)) None → (n < length l) × (n ≡ length (before b l))
    two true p o = let q : n ≡ position_or_len (λ x. eqb x b) l = cc in (omega (arith, ltb-true _ _ p), q ∙ before_place b l)
    two false p o = cc

pub before_none : (b : ℕ) (l : List ℕ) → None ≡ position (λ x. eqb x b) l → length l ≤ length (before b l)
before_none b l e = two (ltb (position_or_len (λ x. eqb x b) l) (length l)) refl e
  where
    two : (t : Bool) → ltb (position_or_len (λ x. eqb x b) l) (length l) ≡ t → None ≡ cond t (Some (position_or_len (λ x. eqb x b) l)) None → length l ≤ length (before b l)
    two true p o = cc
    two false p o = omega (arith, ltb-false _ _ p, before_place b l)

-- The pieces

pub length_onto : (x : ℕ) (ps : List (List ℕ)) → 0 < length ps → length (onto x ps) ≡ length ps
length_onto x [] h = omega arith
length_onto x (p ∷ ps) h = refl

pub split_some : (b : ℕ) (l : List ℕ) → 0 < length (split b l)
split_some b [] = omega arith
split_some b (x ∷ l) = two (eqb x b) (split_some b l)
  where
    two : (t : Bool) → 0 < length (split b l) → 0 < length (cond t ([] ∷ split b l) (onto x (split b l)))
    two true h = omega arith
    two false h = rw (length_onto x (split b l) h) h

pub before_le : (b : ℕ) (l : List ℕ) → length (before b l) ≤ length l
before_le b [] = omega arith
before_le b (x ∷ l) = two (eqb x b) (before_le b l)
  where
    two : (t : Bool) → length (before b l) ≤ length l → length (cond t [] (x ∷ before b l)) ≤ length (x ∷ l)
    two true h = omega arith
    two false h = omega arith

pub before_take : (b : ℕ) (l : List ℕ) → take (length (before b l)) l ≡ before b l
before_take b [] = refl
before_take b (x ∷ l) = two (eqb x b) (before_take b l)
  where
    two : (t : Bool) → take (length (before b l)) l ≡ before b l → take (length (cond t [] (x ∷ before b l))) (x ∷ l) ≡ cond t [] (x ∷ before b l)
    two true e = refl
    two false e = rw e

pub split_first : (b : ℕ) (l : List ℕ) → get_or (split b l) 0 [] ≡ before b l
split_first b [] = refl
split_first b (x ∷ l) = two (eqb x b) (split b l) (split_first b l) (split_some b l)
  where
    two : (t : Bool) (ps : List (List ℕ)) → get_or ps 0 [] ≡ before b l → 0 < length ps → get_or (cond t ([] ∷ ps) (onto x ps)) 0 [] ≡ cond t [] (x ∷ before b l)
    two true ps e h = refl
    two false [] e h = let z : ⊥ = omega arith in absurd z
    two false (p ∷ ps) e h = ap (λ (q : List ℕ). x ∷ q) e

-- no b: one piece
pub split_whole : (b : ℕ) (l : List ℕ) → length l ≤ length (before b l) → split b l ≡ l ∷ []
split_whole b [] h = refl
split_whole b (x ∷ l) h = two (eqb x b) h (split_whole b l)
  where
    two : (t : Bool) → length (x ∷ l) ≤ length (cond t [] (x ∷ before b l)) → (length l ≤ length (before b l) → split b l ≡ l ∷ [])
        → cond t ([] ∷ split b l) (onto x (split b l)) ≡ (x ∷ l) ∷ []
    two true k e = let z : ⊥ = omega arith in absurd z
    two false k e = rw (e (omega arith))

-- a b: the first piece, and those after it
pub split_cut : (b : ℕ) (l : List ℕ) → length (before b l) < length l → split b l ≡ before b l ∷ split b (drop (length (before b l) + 1) l)
split_cut b [] h = let z : ⊥ = omega arith in absurd z
split_cut b (x ∷ l) h = two (eqb x b) h (split_cut b l)
  where
    two : (t : Bool) → length (cond t [] (x ∷ before b l)) < length (x ∷ l)
        → (length (before b l) < length l → split b l ≡ before b l ∷ split b (drop (length (before b l) + 1) l))
        → cond t ([] ∷ split b l) (onto x (split b l)) ≡ cond t [] (x ∷ before b l) ∷ split b (drop (length (cond t [] (x ∷ before b l)) + 1) (x ∷ l))
    two true k e = refl
    two false k e = rw (suc-add (length (before b l)) 1, e (omega arith))

pub split_length : (b : ℕ) (l : List ℕ) → length (split b l) ≤ length l + 1
split_length b [] = omega arith
split_length b (x ∷ l) = two (eqb x b) (split_length b l) (split_some b l)
  where
    two : (t : Bool) → length (split b l) ≤ length l + 1 → 0 < length (split b l) → length (cond t ([] ∷ split b l) (onto x (split b l))) ≤ length (x ∷ l) + 1
    two true h k = omega arith
    two false h k = omega (arith, length_onto x (split b l) k)

-- How many fields a line has: a tab more, a field more
pub one_most : (t : Bool) → from_bool t ≤ 1
one_most true = omega arith
one_most false = omega arith

pub fields_step : (l : List ℕ) (k : ℕ) → k < length l → length (split 9 (drop k l)) ≡ from_bool (eqb (get_or l k 0) 9) + length (split 9 (drop (k + 1) l))
fields_step l k h = rw (drop_step l k h) (two (eqb (get_or l k 0) 9))
  where
    rest : List (List ℕ)
    rest = split 9 (drop (k + 1) l)

    two : (t : Bool) → length (cond t ([] ∷ rest) (onto (get_or l k 0) rest)) ≡ from_bool t + length rest
    two true = omega arith
    two false = omega (arith, length_onto (get_or l k 0) rest (split_some 9 (drop (k + 1) l)))

-- a slice from k on
pub rest_whole : (k : ℕ) (l : List ℕ) → take (length l - k) (drop k l) ≡ drop k l
rest_whole k l = take_all _ _ (omega (arith, length-drop k l))

pub before_all : (b : ℕ) (l : List ℕ) → length l ≤ length (before b l) → l ≡ before b l
before_all b l h = sym (take_all _ _ h) ∙ before_take b l

-- what is left of the row s from field k on
module _ (s rest : List ℕ) (k : ℕ) (e : split 9 rest ≡ drop k (split 9 s)) where
  left_count : length (split 9 rest) ≡ length (split 9 s) - k
  left_count = ap length e ∙ length-drop k (split 9 s)

  pub left_none : (i : ℕ) → k < i → length (before 9 rest) ≡ length rest → [] ≡ get_or (split 9 s) i []
  left_none i h n = let w = split_whole 9 rest (omega arith) in sym (get_or-eq_default (split 9 s) [] {n = i} (omega (arith, ap length w, left_count)))

  pub left_next : (length (before 9 rest) ≡ length rest → ⊥) → split 9 (drop (length (before 9 rest) + 1) rest) ≡ drop (k + 1) (split 9 s)
  left_next n = ap (λ (ps : List (List ℕ)). drop 1 ps) (sym (split_cut 9 rest (omega (arith, before_le 9 rest))) ∙ e) ∙ drop-drop 1 k (split 9 s)

  pub left_first : before 9 rest ≡ get_or (split 9 s) k []
  left_first =
      let z : k + 0 ≡ k = omega arith in
      sym (split_first 9 rest) ∙ ap (λ (ps : List (List ℕ)). get_or ps 0 []) e ∙ rw (get_or-drop k (split 9 s) 0 [], z)

-- Field i of the row s starts at a

pub at_start : (s : List ℕ) → AtField s 0 0
at_start s = record { inside = omega arith; rest = refl }

module _ {s : List ℕ} {i a : ℕ} (f : AtField s i a) where
  pub at-end : a + length (before 9 (drop a s)) ≤ length s
  at-end = omega (arith, before_le 9 (drop a s), length-drop a s, f.inside)

  pub at_here : take (length (before 9 (drop a s))) (drop a s) ≡ get_or (split 9 s) i []
  at_here =
      let z : i + 0 ≡ i = omega arith in
      before_take 9 (drop a s) ∙ sym (split_first 9 (drop a s)) ∙ ap (λ (ps : List (List ℕ)). get_or ps 0 []) f.rest ∙ rw (get_or-drop i (split 9 s) 0 [], z)

  at_count : length (split 9 (drop a s)) ≡ length (split 9 s) - i
  at_count = ap length f.rest ∙ length-drop i (split 9 s)

  -- a tab ends it
  at_tab : length (before 9 (drop a s)) < length (drop a s) → AtField s (i + 1) (a + length (before 9 (drop a s)) + 1)
  at_tab k =
      let n = length (before 9 (drop a s)) in
      let e : a + (n + 1) ≡ a + n + 1 = omega arith in
      record {
        inside = omega (arith, k, length-drop a s, f.inside);
        rest =
            rw (← e, ← drop-drop (n + 1) a s)
            (ap (λ (ps : List (List ℕ)). drop 1 ps) (sym (split_cut 9 (drop a s) k) ∙ f.rest) ∙ drop-drop 1 i (split 9 s));
      }

  pub at_next : i + 1 < length (split 9 s) → AtField s (i + 1) (a + length (before 9 (drop a s)) + 1)
  at_next h = at_tab (lt_of_not-le (λ k. one (split_whole 9 (drop a s) k)))
    where
      one : split 9 (drop a s) ≡ drop a s ∷ [] → ⊥
      one e = omega (arith, ap length e, at_count)
