-- Joining fields and ending lines undoes splitting, and the other way where no piece has the byte.
use Prim.Native.Nat.{ℕ, zero, suc, ◌+◌, ◌/◌, ◌%◌, ◌<◌, ◌≤◌}
use mathlib.Core.Path.{◌≡◌, refl, ap, ◌∙◌}
use mathlib.Core.List.{List, [], ◌∷◌, ◌++◌}
use mathlib.Core.Bool.{Bool, true, false, not, cond, ◌&&◌}
use native.Mathlib.Omega.{arith}
use lib.ListN.{length, get_or, length-append}
use lib.Dec.{eqb, leb, ltb}
use lib.IntN.{ℤ, pos, negsuc}
use borrow.Author.Tests.{eq-eqb, ne_eqb, le-leb, leb-true, eqb-true}
use Rattle.contents.specs.declared.Weight.{Weight}
use Rattle.contents.specs.declared.Weight.TheVariants as weight
use Rattle.text.specs.Pieces.{onto, split}
use Rattle.text.specs.Written.{weight_text, level_text}
use Rattle.digits.specs.Written.{digits_of, decimal, hex_byte, hex_of, joined, ended, row_bytes}
use Rattle.text.proofs.PieceLaws.{split_some}
use Rattle.digits.proofs.Both.{both_left, both_right}

-- every byte is t or more
abbrev pub above : ℕ → List ℕ → Bool
above t [] = true
above t (b ∷ l) = leb t b && above t l

both : (a b : Bool) → a ≡ true → b ≡ true → (a && b) ≡ true
both true b p q = q
both false b p q = p

pub above_cons : (t b : ℕ) (l : List ℕ) → t ≤ b → above t l ≡ true → above t (b ∷ l) ≡ true
above_cons t b l h e = both (leb t b) (above t l) (le-leb t b h) e

above_append : (t : ℕ) (xs ys : List ℕ) → above t xs ≡ true → above t ys ≡ true → above t (xs ++ ys) ≡ true
above_append t [] ys p q = q
above_append t (b ∷ xs) ys p q =
    both (leb t b) (above t (xs ++ ys)) (both_left (leb t b) (above t xs) p) (above_append t xs ys (both_right (leb t b) (above t xs) p) q)

pub above_less : (s t : ℕ) (l : List ℕ) → s ≤ t → above t l ≡ true → above s l ≡ true
above_less s t [] h e = refl
above_less s t (b ∷ l) h e =
    above_cons s b l (omega (arith, leb-true t b (both_left (leb t b) (above t l) e))) (above_less s t l h (both_right (leb t b) (above t l) e))

pub above_head : (t : ℕ) (l : List ℕ) → above t l ≡ true → 1 ≤ length l → t ≤ get_or l 0 0
above_head t [] e h = let y : ⊥ = omega arith in absurd y
above_head t (b ∷ l) e h = leb-true t b (both_left (leb t b) (above t l) e)

above_digits : (k n : ℕ) → above 48 (digits_of k n) ≡ true
above_digits zero n = refl
above_digits (suc k) n = two (ltb n 10) (above_digits k (n / 10))
  where
    two : (t : Bool) → above 48 (digits_of k (n / 10)) ≡ true → above 48 (cond t ((48 + n) ∷ []) (digits_of k (n / 10) ++ (48 + n % 10) ∷ [])) ≡ true
    two true ih = above_cons 48 (48 + n) [] (omega arith) refl
    two false ih = above_append 48 (digits_of k (n / 10)) ((48 + n % 10) ∷ []) ih (above_cons 48 (48 + n % 10) [] (omega arith) refl)

pub above_decimal : (n : ℕ) → above 48 (decimal n) ≡ true
unfolding decimal
above_decimal n = above_digits 6 n

hex-byte : (d : ℕ) → 48 ≤ hex_byte d
hex-byte d = two (ltb d 10)
  where
    two : (t : Bool) → 48 ≤ cond t (48 + d) (87 + d)
    two true = omega arith
    two false = omega arith

above_hex : (k n : ℕ) → above 48 (hex_of k n) ≡ true
above_hex zero n = refl
above_hex (suc k) n = above_append 48 (hex_of k (n / 16)) (hex_byte (n % 16) ∷ []) (above_hex k (n / 16)) (above_cons 48 (hex_byte (n % 16)) [] (hex-byte (n % 16)) refl)

pub above_weight : (w : Weight) → above 45 (weight_text w) ≡ true
unfolding weight_text
above_weight (weight.Bits n) = above_cons 45 104 (hex_of 8 n) (omega arith) (above_less 45 48 (hex_of 8 n) (omega arith) (above_hex 8 n))
above_weight (weight.Whole n) = above_cons 45 119 (decimal n) (omega arith) (above_less 45 48 (decimal n) (omega arith) (above_decimal n))

pub above_level : (z : ℤ) → above 45 (level_text z) ≡ true
unfolding level_text
above_level (pos n) = above_less 45 48 (decimal n) (omega arith) (above_decimal n)
above_level (negsuc n) = above_cons 45 45 (decimal (suc n)) (omega arith) (above_less 45 48 (decimal (suc n)) (omega arith) (above_decimal (suc n)))

-- the byte b does not occur
abbrev pub free : ℕ → List ℕ → Bool
free b [] = true
free b (x ∷ l) = not (eqb x b) && free b l

not_eqb : (x b : ℕ) → (x ≡ b → ⊥) → not (eqb x b) ≡ true
not_eqb x b h = rw (ne_eqb x b h)

pub above_free : (t b : ℕ) (l : List ℕ) → b < t → above t l ≡ true → free b l ≡ true
above_free t b [] h e = refl
above_free t b (x ∷ l) h e =
    both (not (eqb x b)) (free b l) (not_eqb x b (λ q. omega (arith, leb-true t x (both_left (leb t x) (above t l) e))))
    (above_free t b l h (both_right (leb t x) (above t l) e))

free_append : (b : ℕ) (xs ys : List ℕ) → free b xs ≡ true → free b ys ≡ true → free b (xs ++ ys) ≡ true
free_append b [] ys p q = q
free_append b (x ∷ xs) ys p q =
    both (not (eqb x b)) (free b (xs ++ ys)) (both_left (not (eqb x b)) (free b xs) p) (free_append b xs ys (both_right (not (eqb x b)) (free b xs) p) q)

abbrev pub all_free : ℕ → List (List ℕ) → Bool
all_free b [] = true
all_free b (f ∷ fs) = free b f && all_free b fs

-- One piece

head_free : (x b : ℕ) (l : List ℕ) → free b (x ∷ l) ≡ true → eqb x b ≡ false
head_free x b l e = borrow.Author.Tests.not-true (eqb x b) (both_left (not (eqb x b)) (free b l) e)

split_piece : (b : ℕ) (f : List ℕ) → free b f ≡ true → split b f ≡ f ∷ []
split_piece b [] e = refl
split_piece b (x ∷ f) e = rw (head_free x b f e, split_piece b f (both_right (not (eqb x b)) (free b f) e))

split_more : (b : ℕ) (f rest : List ℕ) → free b f ≡ true → split b (f ++ b ∷ rest) ≡ f ∷ split b rest
split_more b [] rest e = rw (eq-eqb b b refl)
split_more b (x ∷ f) rest e = rw (head_free x b f e, split_more b f rest (both_right (not (eqb x b)) (free b f) e))

-- Reading back what was joined and ended

pub split_joined : (fs : List (List ℕ)) → 1 ≤ length fs → all_free 9 fs ≡ true → split 9 (joined fs) ≡ fs
split_joined [] h e = let y : ⊥ = omega arith in absurd y
split_joined (f ∷ []) h e = split_piece 9 f (both_left (free 9 f) true e)
split_joined (f ∷ (g ∷ fs)) h e =
    split_more 9 f (joined (g ∷ fs)) (both_left (free 9 f) (all_free 9 (g ∷ fs)) e)
    ∙ ap (λ (ps : List (List ℕ)). f ∷ ps) (split_joined (g ∷ fs) (omega arith) (both_right (free 9 f) (all_free 9 (g ∷ fs)) e))

pub joined_free : (fs : List (List ℕ)) → all_free 10 fs ≡ true → free 10 (joined fs) ≡ true
joined_free [] e = refl
joined_free (f ∷ []) e = both_left (free 10 f) true e
joined_free (f ∷ (g ∷ fs)) e =
    free_append 10 f (9 ∷ joined (g ∷ fs)) (both_left (free 10 f) (all_free 10 (g ∷ fs)) e) (joined_free (g ∷ fs) (both_right (free 10 f) (all_free 10 (g ∷ fs)) e))

pub split_ended : (ls : List (List ℕ)) → all_free 10 ls ≡ true → split 10 (ended ls) ≡ ls ++ [] ∷ []
split_ended [] e = refl
split_ended (l ∷ ls) e =
    split_more 10 l (ended ls) (both_left (free 10 l) (all_free 10 ls) e)
    ∙ ap (λ (ps : List (List ℕ)). l ∷ ps) (split_ended ls (both_right (free 10 l) (all_free 10 ls) e))

-- Joining what was split

joined_onto : (x : ℕ) (ps : List (List ℕ)) → 0 < length ps → joined (onto x ps) ≡ x ∷ joined ps
joined_onto x [] h = let y : ⊥ = omega arith in absurd y
joined_onto x (p ∷ []) h = refl
joined_onto x (p ∷ (q ∷ ps)) h = refl

pub joined_split : (l : List ℕ) → joined (split 9 l) ≡ l
joined_split [] = refl
joined_split (x ∷ l) = two (eqb x 9) refl (split 9 l) (split_some 9 l) (joined_split l)
  where
    two : (t : Bool) → eqb x 9 ≡ t → (ps : List (List ℕ)) → 0 < length ps → joined ps ≡ l → joined (cond t ([] ∷ ps) (onto x ps)) ≡ x ∷ l
    two true p [] h ih = let y : ⊥ = omega arith in absurd y
    two true p (q ∷ ps) h ih = rw (eqb-true x 9 p, ih)
    two false p ps h ih = joined_onto x ps h ∙ ap (λ (m : List ℕ). x ∷ m) ih

-- lines ended by byte 10, of what was cut there
front : {A : Type 0} (x y : A) (xs ys : List A) → x ∷ xs ≡ y ∷ ys → (x ≡ y) × (xs ≡ ys)
front x y xs ys e = (cc, cc)

empty_no : {A : Type 0} {x : ℕ} {l : List ℕ} → x ∷ l ≡ [] → A
empty_no e = let y : ⊥ = omega (arith, ap length e) in absurd y

pub ended_split : (l : List ℕ) (ls : List (List ℕ)) → split 10 l ≡ ls ++ [] ∷ [] → ended ls ≡ l
ended_split [] [] e = refl
ended_split [] (q ∷ ls) e = let y : ⊥ = omega (arith, ap length e, length-append ls ([] ∷ [])) in absurd y
ended_split (x ∷ l) ls e = two (eqb x 10) refl (split 10 l) refl ls e (ended_split l)
  where
    two : (t : Bool) → eqb x 10 ≡ t → (ps : List (List ℕ)) → split 10 l ≡ ps → (ls : List (List ℕ)) → cond t ([] ∷ ps) (onto x ps) ≡ ls ++ [] ∷ []
        → ((ls : List (List ℕ)) → split 10 l ≡ ls ++ [] ∷ [] → ended ls ≡ l) → ended ls ≡ x ∷ l
    two t p [] q ls o ih = let y : ⊥ = omega (arith, split_some 10 l, ap length q) in absurd y
    two true p (r ∷ ps) q [] o ih = let y : ⊥ = omega (arith, ap length o) in absurd y
    two true p (r ∷ ps) q (m ∷ ls) o ih =
        let f = front [] m (r ∷ ps) (ls ++ [] ∷ []) o in
        rw (← f.0, eqb-true x 10 p) (ap (λ (k : List ℕ). 10 ∷ k) (ih ls (q ∙ f.1)))
    two false p (r ∷ ps) q [] o ih = empty_no (front (x ∷ r) [] ps [] o).0
    two false p (r ∷ ps) q (m ∷ ls) o ih =
        let f = front (x ∷ r) m ps (ls ++ [] ∷ []) o in
        rw (← f.0) (ap (λ (k : List ℕ). x ∷ k) (ih (r ∷ ls) (q ∙ ap (λ (k : List (List ℕ)). r ∷ k) f.1)))

-- The length of a row

-- the fields have at most these lengths, one by one
abbrev pub Within : List (List ℕ) → List ℕ → Type 0
Within [] [] = Unit {0}
Within [] (m ∷ ms) = ⊥
Within (f ∷ fs) [] = ⊥
Within (f ∷ fs) (m ∷ ms) = (length f ≤ m) × Within fs ms

pub joined_length : (fs : List (List ℕ)) (ms : List ℕ) → 1 ≤ length fs → Within fs ms → length (joined fs) + 1 ≤ row_bytes ms
joined_length [] ms h w = let y : ⊥ = omega arith in absurd y
joined_length (f ∷ fs) [] h w = absurd w
joined_length (f ∷ []) (m ∷ []) h w = omega (arith, w.0)
joined_length (f ∷ []) (m ∷ (k ∷ ms)) h w = absurd w.1
joined_length (f ∷ (g ∷ fs)) (m ∷ ms) h w = omega (arith, w.0, length-append f (9 ∷ joined (g ∷ fs)), joined_length (g ∷ fs) ms (omega arith) w.1)
