-- What is copied by tabs and line ends, of lines that are parted by tabs and ended by line ends.
use Prim.Native.Nat.{ℕ, zero, suc, ◌+◌, ◌-◌, ◌*◌}
use mathlib.Core.Path.{◌≡◌, refl, sym, ap, ◌∙◌}
use mathlib.Core.List.{List, [], ◌∷◌, ◌++◌, append_assoc}
use mathlib.Core.Bool.{true, false, not}
use native.Mathlib.Omega.{arith}
use lib.Dec.{eqb}
use lib.ListN.{take, drop}
use lib.Seq.{drop-drop}
use borrow.Author.Tests.{eq-eqb, not-true}
use Rattle.digits.specs.Written.{decimal, ended}
use Rattle.digits.proofs.Both.{both_left, both_right}
use Rattle.text.specs.Pieces.{before}
use Rattle.text.proofs.JoinLaws.{free, all_free}
use Rattle.copying.specs.Parts.{up_to, past, after_two, refitted, rows_of, past_rows}
use Rattle.copying.proofs.PartLaws.{up_zero, past_zero, up_step, past_step}
use Rattle.stitch.specs.Stitched.{weave}

module _ (b : ℕ) where
  other : (x : ℕ) (f : List ℕ) → free b (x ∷ f) ≡ true → eqb x b ≡ false
  other x f e = not-true (eqb x b) (both_left (not (eqb x b)) (free b f) e)

  -- a piece without the byte b, and the byte b after it
  pub up_line : (n : ℕ) (f r : List ℕ) → free b f ≡ true → up_to b (suc n) (f ++ b ∷ r) ≡ f ++ b ∷ up_to b n r
  up_line n [] r e = let m : suc n - 1 ≡ n = omega arith in up_step b (suc n) b r (λ z. omega arith) ∙ rw (eq-eqb b b refl, m)
  up_line n (x ∷ f) r e =
      up_step b (suc n) x (f ++ b ∷ r) (λ z. omega arith) ∙ rw (other x f e) (ap (λ (l : List ℕ). x ∷ l) (up_line n f r (both_right (not (eqb x b)) (free b f) e)))

  pub past_line : (n : ℕ) (f r : List ℕ) → free b f ≡ true → past b (suc n) (f ++ b ∷ r) ≡ past b n r
  past_line n [] r e = let m : suc n - 1 ≡ n = omega arith in past_step b (suc n) b r (λ z. omega arith) ∙ rw (eq-eqb b b refl, m)
  past_line n (x ∷ f) r e = past_step b (suc n) x (f ++ b ∷ r) (λ z. omega arith) ∙ rw (other x f e) (past_line n f r (both_right (not (eqb x b)) (free b f) e))

  pub before_line : (f r : List ℕ) → free b f ≡ true → before b (f ++ b ∷ r) ≡ f
  before_line [] r e = rw (eq-eqb b b refl)
  before_line (x ∷ f) r e = rw (other x f e) (ap (λ (l : List ℕ). x ∷ l) (before_line f r (both_right (not (eqb x b)) (free b f) e)))

  pub free_drop : (n : ℕ) (ls : List (List ℕ)) → all_free b ls ≡ true → all_free b (drop n ls) ≡ true
  free_drop zero ls e = e
  free_drop (suc n) [] e = refl
  free_drop (suc n) (l ∷ ls) e = free_drop n ls (both_right (free b l) (all_free b ls) e)

-- the first n lines, and what follows them
pub up_lines : (n : ℕ) (ls : List (List ℕ)) → all_free 10 ls ≡ true → up_to 10 n (ended ls) ≡ ended (take n ls)
up_lines zero ls e = up_zero 10 (ended ls)
up_lines (suc n) [] e = refl
up_lines (suc n) (l ∷ ls) e =
    up_line 10 n l (ended ls) (both_left (free 10 l) (all_free 10 ls) e) ∙ ap (λ (k : List ℕ). l ++ 10 ∷ k) (up_lines n ls (both_right (free 10 l) (all_free 10 ls) e))

pub past_lines : (n : ℕ) (ls : List (List ℕ)) → all_free 10 ls ≡ true → past 10 n (ended ls) ≡ ended (drop n ls)
past_lines zero ls e = past_zero 10 (ended ls)
past_lines (suc n) [] e = refl
past_lines (suc n) (l ∷ ls) e = past_line 10 n l (ended ls) (both_left (free 10 l) (all_free 10 ls) e) ∙ past_lines n ls (both_right (free 10 l) (all_free 10 ls) e)

pub ended_both : (ps qs : List (List ℕ)) → ended (ps ++ qs) ≡ ended ps ++ ended qs
ended_both [] qs = refl
ended_both (p ∷ ps) qs = ap (λ (k : List ℕ). p ++ 10 ∷ k) (ended_both ps qs) ∙ sym (append_assoc p (10 ∷ ended ps) (ended qs))

-- rows of lines
pub rows_lines : (n a b : ℕ) (xs ys : List (List ℕ)) → all_free 10 xs ≡ true → all_free 10 ys ≡ true → rows_of n a b (ended xs) (ended ys) ≡ ended (weave n a b xs ys)
rows_lines zero a b xs ys e f = refl
rows_lines (suc n) a b xs ys e f =
    let W = weave n a b (drop a xs) (drop b ys) in
    (λ i. up_lines a xs e i ++ (up_lines b ys f i ++ rows_of n a b (past_lines a xs e i) (past_lines b ys f i)))
    ∙ ap (λ (k : List ℕ). ended (take a xs) ++ (ended (take b ys) ++ k)) (rows_lines n a b (drop a xs) (drop b ys) (free_drop 10 a xs e) (free_drop 10 b ys f))
    ∙ ap (λ (k : List ℕ). ended (take a xs) ++ k) (sym (ended_both (take b ys) W))
    ∙ sym (ended_both (take a xs) (take b ys ++ W))

pub past-rows : (n a : ℕ) (xs : List (List ℕ)) → all_free 10 xs ≡ true → past_rows n a (ended xs) ≡ ended (drop (n * a) xs)
past-rows zero a xs e = let z : 0 ≡ 0 * a = omega arith in ap (λ (k : ℕ). ended (drop k xs)) z
past-rows (suc n) a xs e =
    let z : a + n * a ≡ suc n * a = omega arith in
    ap (λ (k : List ℕ). past_rows n a k) (past_lines a xs e)
    ∙ past-rows n a (drop a xs) (free_drop 10 a xs e)
    ∙ ap ended (drop-drop (n * a) a xs)
    ∙ ap (λ (k : ℕ). ended (drop k xs)) z

-- a field, and another number in place of the next one
module _ (f w F T : List ℕ) (e : free 9 f ≡ true) (u : free 9 w ≡ true) where
  apart : (f ++ 9 ∷ (w ++ 9 ∷ F)) ++ T ≡ f ++ 9 ∷ (w ++ 9 ∷ (F ++ T))
  apart = append_assoc f (9 ∷ (w ++ 9 ∷ F)) T ∙ ap (λ (l : List ℕ). f ++ 9 ∷ l) (append_assoc w (9 ∷ F) T)

  pub refit_line : (n : ℕ) → refitted n ((f ++ 9 ∷ (w ++ 9 ∷ F)) ++ T) ≡ f ++ 9 ∷ (decimal n ++ 9 ∷ [])
  unfolding refitted
  refit_line n =
      ap (λ (l : List ℕ). up_to 9 1 l ++ (decimal n ++ 9 ∷ [])) apart
      ∙ ap (λ (l : List ℕ). l ++ (decimal n ++ 9 ∷ [])) (up_line 9 0 f (w ++ 9 ∷ (F ++ T)) e ∙ ap (λ (l : List ℕ). f ++ 9 ∷ l) (up_zero 9 (w ++ 9 ∷ (F ++ T))))
      ∙ append_assoc f (9 ∷ []) (decimal n ++ 9 ∷ [])

  pub two_gone : after_two ((f ++ 9 ∷ (w ++ 9 ∷ F)) ++ T) ≡ F ++ T
  two_gone =
      ap after_two apart
      ∙ ap (λ (l : List ℕ). past 9 1 l) (past_line 9 0 f (w ++ 9 ∷ (F ++ T)) e ∙ past_zero 9 (w ++ 9 ∷ (F ++ T)))
      ∙ past_line 9 0 w (F ++ T) u
      ∙ past_zero 9 (F ++ T)
