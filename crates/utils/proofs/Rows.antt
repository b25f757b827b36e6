-- Eight values in a row: a row of a plane replaced as a part is a loop over its eight places.
use mathlib.Core.Path.{◌≡◌, refl, ap, ◌∙◌, sym, subst}
use mathlib.Core.List.{List, [], ◌++◌}
use Prim.Native.Nat.{ℕ, zero, suc, ◌+◌, ◌-◌, ◌<◌, ◌≤◌}
use native.Mathlib.Omega.{arith}
use lib.Dec.{lit<}
use lib.Ieee.{Float, nan}
use lib.ListN.{length, take, drop, set, take-append-drop}
use lib.Seq.{length-take-le, get_or-append-add}
use Rattle.std.proofs.lemmas.Simd.{pick_l_whole}
use Rattle.std.proofs.lemmas.List.{set-append_right}
use Rattle.fold.specs.Fold.{upto}
use Rattle.fold.specs.Part.{part, splice}
use Rattle.fold.proofs.Parts.{part_at, part_length}
use Rattle.float.specs.Names.{val}
use Rattle.utils.specs.Lanes.{eight}

pub eight_ext : {A : Type 0} (f g : ℕ → A) → ((j : ℕ) → j < 8 → f j ≡ g j) → eight f ≡ eight g
eight_ext {A} f g h =
    let a = h 0 (lit< tt) in
    let b = h 1 (lit< tt) in
    let c = h 2 (lit< tt) in
    let d = h 3 (lit< tt) in
    let e = h 4 (lit< tt) in
    let i = h 5 (lit< tt) in
    let j = h 6 (lit< tt) in
    let k = h 7 (lit< tt) in
    cc

pub eight_at : (f : ℕ → Float) (j : ℕ) → j < 8 → val (eight f) j ≡ f j
eight_at f zero h = refl
eight_at f (suc zero) h = refl
eight_at f (suc (suc zero)) h = refl
eight_at f (suc (suc (suc zero))) h = refl
eight_at f (suc (suc (suc (suc zero)))) h = refl
eight_at f (suc (suc (suc (suc (suc zero))))) h = refl
eight_at f (suc (suc (suc (suc (suc (suc zero)))))) h = refl
eight_at f (suc (suc (suc (suc (suc (suc (suc zero))))))) h = refl
eight_at f (suc (suc (suc (suc (suc (suc (suc (suc j)))))))) h = absurd (omega arith)

-- eight values are those at their places
pub eight_is : (xs : List Float) → length xs ≡ 8 → eight (val xs) ≡ xs
eight_is xs h = pick_l_whole nan xs 8 h

-- the eight values from a on
pub part_eight : (s : List Float) (a : ℕ) → a + 8 ≤ length s → part s a (a + 8) ≡ eight (λ j. val s (a + j))
part_eight s a h =
    let k : length (part s a (a + 8)) ≡ 8 = part_length s a (a + 8) (omega arith) h ∙ omega arith in
    sym (eight_is (part s a (a + 8)) k)
    ∙ eight_ext (val (part s a (a + 8))) (λ j. val s (a + j)) (λ j l. part_at s a (a + 8) (omega arith) h j nan (omega arith))

module _ (v : ℕ → Float → Float) where
  -- place a + j becomes v j of its value
  abbrev pub turn : ℕ → ℕ → List Float → List Float
  turn a j t = set t (a + j) (v j (val t (a + j)))

  behind : (front ys : List Float) (a n : ℕ) → length front ≡ a → upto (turn a) n (front ++ ys) ≡ front ++ upto (λ j t. set t j (v j (val t j))) n ys
  unfolding upto
  behind front ys a zero h = refl
  behind front ys a (suc n) h =
      let t = upto (λ j t. set t j (v j (val t j))) n ys in
      let at : val (front ++ t) (a + n) ≡ val t n =
      ap (λ (k : ℕ). val (front ++ t) (k + n)) (sym h) ∙ get_or-append-add front t n nan in
      let place : a + n - a ≡ n = omega arith in
      ap (turn a n) (behind front ys a n h)
      ∙ set-append_right front t a (a + n) (v n (val (front ++ t) (a + n))) h (omega arith)
      ∙ ap (λ (x : Float). front ++ set t (a + n - a) (v n x)) at
      ∙ ap (λ (k : ℕ). front ++ set t k (v n (val t n))) place

  -- of a row written out
  written : (x : ℕ → Float) (rest : List Float) → upto (λ j t. set t j (v j (val t j))) 8 (eight x ++ rest) ≡ eight (λ j. v j (x j)) ++ rest
  unfolding upto
  written x rest = refl

  pub turned_row : (s : List Float) (a : ℕ) → a + 8 ≤ length s → splice s a (a + 8) (eight (λ j. v j (val s (a + j)))) ≡ upto (turn a) 8 s
  turned_row s a h =
      let x : ℕ → Float = λ j. val s (a + j) in
      let l = drop a s in
      let rest = drop (a + 8 - a) l in
      let whole : take a s ++ (eight x ++ rest) ≡ s =
      ap (λ (r : List Float). take a s ++ (r ++ rest)) (sym (part_eight s a h))
      ∙ ap (λ (r : List Float). take a s ++ r) (take-append-drop (a + 8 - a) l)
      ∙ take-append-drop a s in
      ap (λ (r : List Float). take a s ++ r) (sym (written x rest))
      ∙ sym (behind (take a s) (eight x ++ rest) a 8 (length-take-le a s (omega arith)))
      ∙ ap (λ (r : List Float). upto (turn a) 8 r) whole

  pub turned_eight : (s : List Float) → length s ≡ 8 → upto (λ j t. set t j (v j (val t j))) 8 s ≡ eight (λ j. v j (val s j))
  turned_eight s h = subst (λ (r : List Float). upto (λ j t. set t j (v j (val t j))) 8 r ≡ eight (λ j. v j (val r j))) (eight_is s h) (written (val s) [])
