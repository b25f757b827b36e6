-- What a partner gets of one block hangs only on its levels and on whether it is marked.
use Prim.Native.Nat.{ℕ, zero, suc, ◌+◌, ◌*◌, ◌/◌, ◌%◌, ◌≤◌, ◌<◌}
use mathlib.Core.Path.{◌≡◌, refl, sym, ap, ◌∙◌}
use mathlib.Core.List.{List, [], ◌∷◌}
use mathlib.Core.Bool.{not, cond, ◌&&◌}
use native.Mathlib.Omega.{arith}
use lib.Dec.{eqb}
use lib.IntN.{ℤ, pos}
use lib.ListN.{length, take, drop}
use Rattle.contents.specs.declared.Reader.{Reader}
use Rattle.contents.specs.declared.Reader.TheVariants as reader
use Rattle.contents.specs.Sheets.{Marked, Held}
use Rattle.contents.specs.Marks.{among, hidden, hide, seen_by}

hide_drop : (ms : List Marked) (n i : ℕ) (zs : List ℤ) → drop n (hide ms i zs) ≡ hide ms (n + i) (drop n zs)
hide_drop ms zero i zs = let e : i ≡ 0 + i = omega arith in ap (λ (k : ℕ). hide ms k zs) e
hide_drop ms (suc n) i [] = refl
hide_drop ms (suc n) i (z ∷ zs) = let e : n + suc i ≡ suc n + i = omega arith in hide_drop ms n (suc i) zs ∙ ap (λ (k : ℕ). hide ms k (drop n zs)) e

hide_take : (ms : List Marked) (n i : ℕ) (zs : List ℤ) → take n (hide ms i zs) ≡ hide ms i (take n zs)
hide_take ms zero i zs = refl
hide_take ms (suc n) i [] = refl
hide_take ms (suc n) i (z ∷ zs) = ap (λ (l : List ℤ). cond (hidden ms i) (pos 0) z ∷ l) (hide_take ms n (suc i) zs)

take_most : (n : ℕ) (zs : List ℤ) → length (take n zs) ≤ n
take_most zero zs = omega arith
take_most (suc n) [] = omega arith
take_most (suc n) (z ∷ zs) = let h = take_most n zs in omega arith

module _ (ms ns : List Marked) (b d : ℕ) (e : among b ms ≡ among d ns) where
  hidden_same : (j : ℕ) → j < 64 → hidden ms (64 * b + j) ≡ hidden ns (64 * d + j)
  hidden_same j h =
      let p : (64 * b + j) / 64 ≡ b = omega arith in
      let q : (64 * d + j) / 64 ≡ d = omega arith in
      let r : (64 * b + j) % 64 ≡ j = omega arith in
      let s : (64 * d + j) % 64 ≡ j = omega arith in
      (λ i. among (p i) ms && not (eqb (r i) 0)) ∙ (λ i. e i && not (eqb j 0)) ∙ sym (λ i. among (q i) ns && not (eqb (s i) 0))

  hide_same : (j : ℕ) (zs : List ℤ) → j + length zs ≤ 64 → hide ms (64 * b + j) zs ≡ hide ns (64 * d + j) zs
  hide_same j [] h = refl
  hide_same j (z ∷ zs) h =
      let p : suc (64 * b + j) ≡ 64 * b + suc j = omega arith in
      let q : 64 * d + suc j ≡ suc (64 * d + j) = omega arith in
      (λ i. cond (hidden_same j (omega arith) i) (pos 0) z ∷ hide ms (p i) zs)
      ∙ ap (λ (l : List ℤ). cond (hidden ns (64 * d + j)) (pos 0) z ∷ l) (hide_same (suc j) zs (omega arith) ∙ ap (λ (k : ℕ). hide ns k zs) q)

  block_same : (xs ys : List ℤ) → take 64 (drop (64 * b) xs) ≡ take 64 (drop (64 * d) ys) → take 64 (drop (64 * b) (hide ms 0 xs)) ≡ take 64 (drop (64 * d) (hide ns 0 ys))
  block_same xs ys f =
      let X = take 64 (drop (64 * b) xs) in
      ap (λ (l : List ℤ). take 64 l) (hide_drop ms (64 * b) 0 xs)
      ∙ hide_take ms 64 (64 * b + 0) (drop (64 * b) xs)
      ∙ hide_same 0 X (omega (arith, take_most 64 (drop (64 * b) xs)))
      ∙ ap (λ (l : List ℤ). hide ns (64 * d + 0) l) f
      ∙ sym (hide_take ns 64 (64 * d + 0) (drop (64 * d) ys))
      ∙ sym (ap (λ (l : List ℤ). take 64 l) (hide_drop ns (64 * d) 0 ys))

pub seen_lows : (who : Reader) (h k : Held) (b d : ℕ) → among b h.marks ≡ among d k.marks → take 64 (drop (64 * b) h.lent.lows) ≡ take 64 (drop (64 * d) k.lent.lows)
    → take 64 (drop (64 * b) (seen_by who h).lows) ≡ take 64 (drop (64 * d) (seen_by who k).lows)
seen_lows reader.Staff h k b d e f = f
seen_lows reader.Partner h k b d e f = block_same h.marks k.marks b d e h.lent.lows k.lent.lows f

pub seen_highs : (who : Reader) (h k : Held) (b d : ℕ) → among b h.marks ≡ among d k.marks → take 64 (drop (64 * b) h.lent.highs) ≡ take 64 (drop (64 * d) k.lent.highs)
    → take 64 (drop (64 * b) (seen_by who h).highs) ≡ take 64 (drop (64 * d) (seen_by who k).highs)
seen_highs reader.Staff h k b d e f = f
seen_highs reader.Partner h k b d e f = block_same h.marks k.marks b d e h.lent.highs k.lent.highs f
