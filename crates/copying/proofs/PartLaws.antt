-- Parts of texts, and what was written.
use Prim.Native.Nat.{ℕ, zero, suc, ◌+◌, ◌-◌, ◌/◌, ◌%◌, ◌<◌, ◌≤◌, min}
use mathlib.Core.Path.{◌≡◌, refl, sym, ap, ◌∙◌}
use mathlib.Core.List.{List, [], ◌∷◌, ◌++◌, append-nil, append_assoc}
use mathlib.Core.Bool.{cond}
use mathlib.Core.Logic.{◌⊎◌, ⊎_elim}
use native.Mathlib.Omega.{arith}
use native.Mathlib.Numerals.{add-one}
use lib.Dec.{eqb}
use lib.ListN.{length, get_or, take, drop, set, length-append, length-take, drop_of_length-le}
use Rattle.std.proofs.lemmas.List.{take_more, take-append-drop}
use lib.Seq.{sets, sets-eq, length-sets, drop-cons, set_out}
use borrow.Author.Tests.{le-ltb, ne_eqb}
use Rattle.std.specs.List.{count_by}
use Rattle.std.proofs.lemmas.List.Sums.{sum_by-cons}
use Rattle.digits.specs.Written.{digits_of, decimal}
use Rattle.copying.specs.declared.Writer.{Writer}
use Rattle.copying.specs.Parts.{up_to, past, count_of, refitted, rows_of, past_rows, Put}

-- What was written

pub sets_more : (xs ys l : List ℕ) (i : ℕ) → sets (sets l i xs) (i + length xs) ys ≡ sets l i (xs ++ ys)
sets_more [] ys l i = let e : i + 0 ≡ i = omega arith in ap (λ (k : ℕ). sets l k ys) e
sets_more (x ∷ xs) ys l i =
    let e : i + suc (length xs) ≡ suc i + length xs = omega arith in ap (λ (k : ℕ). sets (sets (set l i x) (suc i) xs) k ys) e ∙ sets_more xs ys (set l i x) (suc i)

-- past the end nothing changes
pub sets_out : (xs l : List ℕ) (i : ℕ) → length l ≤ i → sets l i xs ≡ l
sets_out [] l i h = refl
sets_out (x ∷ xs) l i h = rw (set_out l i x h) (sets_out xs l (suc i) (omega arith))

-- what fits is written, and the rest nowhere
module _ (xs l : List ℕ) (i n : ℕ) (h : i < length l) (e : n ≡ min (length xs) (length l - i)) where
  pub fitting : length (take n xs) ≡ n
  fitting = omega (arith, length-take {A = ℕ} n xs)

  beyond : sets (sets l i (take n xs)) (i + n) (drop n xs) ≡ sets l i (take n xs)
  beyond = ⊎_elim (λ (o : n ≡ length xs). rw (drop_of_length-le xs {i = n} (omega arith))) (λ (o : n ≡ length l - i). sets_out (drop n xs) (sets l i (take n xs)) (i + n) (omega (arith, length-sets l i (take n xs)))) two
    where
      two : (n ≡ length xs) ⊎ (n ≡ length l - i)
      two = grind arith

  pub sets_fitting : take i l ++ (take n xs ++ drop (i + n) l) ≡ sets l i xs
  sets_fitting =
      let a = sets-eq (take n xs) l i (omega (arith, fitting)) in
      let b = sets_more (take n xs) (drop n xs) l i in
      sym (rw (fitting, append_assoc) at a) ∙ sym (beyond) ∙ rw (fitting, take-append-drop n xs) at b

pub put_none : (w : Writer) → Put w [] w
put_none w = record { next = omega arith; last = refl; same = refl }

pub put_more : {u v w : Writer} {xs ys : List ℕ} → Put u xs v → Put v ys w → Put u (xs ++ ys) w
put_more {u} {v} {w} {xs} {ys} p o =
    record {
      next = omega (arith, p.next, o.next, length-append xs ys);
      last = o.last ∙ ap (λ (k : ℕ). sets v.out.now k ys) p.next ∙ ap (λ (k : List ℕ). sets k (u.at + length xs) ys) p.last ∙ sets_more xs ys u.out.now u.at;
      same = o.same ∙ p.same;
    }

pub put_as : {u v : Writer} {xs ys : List ℕ} → xs ≡ ys → Put u xs v → Put u ys v
put_as {u} {v} {xs} {ys} e p = rw e at p

-- Digits

pub digits_more : (k n : ℕ) → (k ≡ 0 → ⊥) → 10 ≤ n → digits_of k n ≡ digits_of (k - 1) (n / 10) ++ (48 + n % 10) ∷ []
digits_more zero n h l = absurd (h refl)
digits_more (suc k) n h l = let e : suc k - 1 ≡ k = omega arith in rw (le-ltb n 10 l, e)

-- Counting

pub count_of-count_by : (b : ℕ) (xs : List ℕ) → count_of b xs ≡ count_by (λ x. eqb x b) xs
count_of-count_by b [] = refl
count_of-count_by b (x ∷ xs) = ap (λ (k : ℕ). cond (eqb x b) 1 0 + k) (count_of-count_by b xs) ∙ sym (sum_by-cons (λ (y : ℕ). cond (eqb y b) 1 0) x xs)

-- The place after the n-th byte b: what comes before place i and what is left from there on give the whole

pub record Placing (text : List ℕ) (b n i left : ℕ) : Type 0 where
  pub before : take i text ++ up_to b left (drop i text) ≡ up_to b n text
  pub after : past b left (drop i text) ≡ past b n text

pub placing_first : (text : List ℕ) (b n : ℕ) → Placing text b n 0 n
placing_first text b n = record { before = refl; after = refl }

pub up_zero : (b : ℕ) (xs : List ℕ) → up_to b 0 xs ≡ []
up_zero b [] = refl
up_zero b (x ∷ xs) = refl

pub past_zero : (b : ℕ) (xs : List ℕ) → past b 0 xs ≡ xs
past_zero b [] = refl
past_zero b (x ∷ xs) = refl

pub up_step : (b n x : ℕ) (xs : List ℕ) → (n ≡ 0 → ⊥) → up_to b n (x ∷ xs) ≡ x ∷ up_to b (cond (eqb x b) (n - 1) n) xs
up_step b n x xs h = rw (ne_eqb n 0 h)

pub past_step : (b n x : ℕ) (xs : List ℕ) → (n ≡ 0 → ⊥) → past b n (x ∷ xs) ≡ past b (cond (eqb x b) (n - 1) n) xs
past_step b n x xs h = rw (ne_eqb n 0 h)

module _ (text : List ℕ) (b n i left : ℕ) (w : Placing text b n i left) where
  pub placed : left ≡ 0 → (take i text ≡ up_to b n text) × (drop i text ≡ past b n text)
  placed e = (
    sym (append-nil (take i text)) ∙ ap (λ (l : List ℕ). take i text ++ l) (sym (up_zero b (drop i text)) ∙ ap (λ (k : ℕ). up_to b k (drop i text)) (sym e)) ∙ w.before,
    sym (past_zero b (drop i text)) ∙ ap (λ (k : ℕ). past b k (drop i text)) (sym e) ∙ w.after,
  )

module _ (text : List ℕ) (b n i left : ℕ) (w : Placing text b n i left) (h : i < length text) (z : left ≡ 0 → ⊥) where
  here : drop i text ≡ get_or text i 0 ∷ drop (i + 1) text
  here = drop-cons text i 0 h ∙ ap (λ (k : ℕ). get_or text i 0 ∷ drop k text) (sym (add-one i))

  pub placing_next : (m : ℕ) → m ≡ cond (eqb (get_or text i 0) b) (left - 1) left → Placing text b n (i + 1) m
  placing_next m e =
      let u : up_to b left (drop i text) ≡ get_or text i 0 ∷ up_to b m (drop (i + 1) text) = rw (here, e) (up_step b left (get_or text i 0) (drop (i + 1) text) z) in
      let v : past b left (drop i text) ≡ past b m (drop (i + 1) text) = rw (here, e) (past_step b left (get_or text i 0) (drop (i + 1) text) z) in
      let t : take (i + 1) text ≡ take i text ++ get_or text i 0 ∷ [] = take_more text i 0 h in
      record {
        before = rw t (append_assoc (take i text) (get_or text i 0 ∷ []) (up_to b m (drop (i + 1) text)) ∙ ap (λ (l : List ℕ). take i text ++ l) (sym u) ∙ w.before);
        after = sym v ∙ w.after;
      }

-- Rows

pub rows_more : (n a b : ℕ) (xs ys : List ℕ) → rows_of (suc n) a b xs ys ≡ rows_of n a b xs ys ++ (up_to 10 a (past_rows n a xs) ++ up_to 10 b (past_rows n b ys))
rows_more zero a b xs ys = ap (λ (l : List ℕ). up_to 10 a xs ++ l) (append-nil (up_to 10 b ys))
rows_more (suc n) a b xs ys =
    ap (λ (l : List ℕ). up_to 10 a xs ++ (up_to 10 b ys ++ l)) (rows_more n a b (past 10 a xs) (past 10 b ys)) ∙ sym (simp append_assoc)

pub past_more : (n a : ℕ) (xs : List ℕ) → past_rows (suc n) a xs ≡ past 10 a (past_rows n a xs)
past_more zero a xs = refl
past_more (suc n) a xs = past_more n a (past 10 a xs)

pub rows_long : (m n a b : ℕ) (xs ys : List ℕ) → m ≤ n → length (rows_of m a b xs ys) ≤ length (rows_of n a b xs ys)
rows_long zero n a b xs ys h = omega arith
rows_long (suc m) zero a b xs ys h = absurd (omega arith)
rows_long (suc m) (suc n) a b xs ys h =
    let e = rows_long m n a b (past 10 a xs) (past 10 b ys) (omega arith) in
    simp length-append (omega arith)

-- the next row has room where all have
pub rows_room : (m n a b : ℕ) (xs ys : List ℕ) → m < n
    → length (rows_of m a b xs ys) + (length (up_to 10 a (past_rows m a xs)) + length (up_to 10 b (past_rows m b ys))) ≤ length (rows_of n a b xs ys)
rows_room m n a b xs ys h =
    let u = up_to 10 a (past_rows m a xs) in
    let v = up_to 10 b (past_rows m b ys) in
    let e = ap length (rows_more m a b xs ys) ∙ length-append (rows_of m a b xs ys) (u ++ v) in
    omega (arith, e, length-append u v, rows_long (suc m) n a b xs ys (omega arith))

-- A field in place of another

pub refit_long : (n : ℕ) (text : List ℕ) → length (refitted n text) ≡ length (up_to 9 1 text) + (length (decimal n) + 1)
unfolding refitted
refit_long n text = simp length-append
