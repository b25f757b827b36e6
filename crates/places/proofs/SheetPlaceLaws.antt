-- Where each block of two whole sheets stands side by side.
use Prim.Native.Nat.{ℕ, zero, suc, ◌+◌, ◌*◌, ◌≤◌, ◌<◌}
use mathlib.Core.Path.{◌≡◌, refl, sym, ap, ◌∙◌, subst}
use mathlib.Core.List.{List, [], ◌∷◌, ◌++◌}
use mathlib.Core.Logic.{⊎_elim}
use native.Mathlib.Omega.{arith}
use native.Mathlib.Nat.{mul-le-mul_left, mul-le-mul_right}
use lib.ListN.{length, take, drop, length-drop}
use lib.Seq.{take-append-le, drop-append-le, drop-drop}
use Rattle.contents.specs.declared.Channel.{Channel}
use Rattle.contents.specs.declared.Sheet.{Sheet}
use Rattle.contents.proofs.ThreeLaws.{spelled, spelled_is}
use Rattle.contents.specs.Sheets.{no_channel, channel_at}
use Rattle.contents.specs.Marks.{blocks_in, blocks_before}
use Rattle.stitch.specs.Stitched.{besides, rows_in, columns_in, weave, woven}
use Rattle.stitch.proofs.WeaveLaws.{weave_length}
use Rattle.stitch.proofs.TextLaws.{AllBeside, pairs_of, left_blocks, right_blocks, both_blocks}
use Rattle.stitch.proofs.LegalLaws.{Number}
use Rattle.places.proofs.PlaceLaws.{beyond, place_left, place_right}
use Rattle.places.proofs.ThreeLaws.{Long}

-- channel j, and the blocks of the channels before it
abbrev pub nth : List Channel → ℕ → Channel
nth [] j = no_channel
nth (c ∷ cs) zero = c
nth (c ∷ cs) (suc j) = nth cs j

abbrev pub firsts : List Channel → ℕ → ℕ
firsts [] j = 0
firsts (c ∷ cs) zero = 0
firsts (c ∷ cs) (suc j) = blocks_in c + firsts cs j

row_fits : (u n y x a : ℕ) → y < n → x < a → u * (y * a + x) + u ≤ n * (u * a)
row_fits u n y x a h k =
    let p : suc y ≤ n = omega arith in
    let q = mul-le-mul_right a p in
    let r : suc y * a ≡ y * a + a = omega arith in
    let s : y * a + x + 1 ≤ n * a = omega (arith, q, r) in
    let v = mul-le-mul_left u s in
    let e : u * (y * a + x + 1) ≡ u * (y * a + x) + u = omega arith in
    let f : u * (n * a) ≡ n * (u * a) = omega arith in
    omega (arith, v, e, f)

module _ {A : Type 0} where
  in_front : (u n : ℕ) (xs ys : List A) → n + u ≤ length xs → take u (drop n (xs ++ ys)) ≡ take u (drop n xs)
  in_front u n xs ys h =
      let p : n ≤ length xs = omega arith in
      let q : u ≤ length (drop n xs) = omega (arith, length-drop n xs) in
      ap (λ (l : List A). take u l) (drop-append-le n xs ys p) ∙ take-append-le u (drop n xs) ys q

  -- one channel
  module _ (u : ℕ) (c d : Channel) (cs ds : List Channel) (xs ys : List A) (f : AllBeside (c ∷ cs) (d ∷ ds)) (p : Long u (c ∷ cs) xs) (q : Long u (d ∷ ds) ys) where
    many_left : rows_in c * (u * columns_in c) ≤ length xs
    many_left = let e : u * blocks_in c ≡ rows_in c * (u * columns_in c) = ap (λ (n : ℕ). u * n) (left_blocks c d f.0) ∙ omega arith in omega (arith, p.0, e)

    many_right : rows_in c * (u * columns_in d) ≤ length ys
    many_right = let e : u * blocks_in d ≡ rows_in c * (u * columns_in d) = ap (λ (n : ℕ). u * n) (right_blocks c d f.0) ∙ omega arith in omega (arith, q.0, e)

    rows_long : length (weave (rows_in c) (u * columns_in c) (u * columns_in d) xs ys) ≡ rows_in c * (u * (columns_in c + columns_in d))
    rows_long = weave_length (rows_in c) (u * columns_in c) (u * columns_in d) xs ys many_left many_right ∙ omega arith

    first_rows : (y x : ℕ) → y < rows_in c → x < columns_in c + columns_in d
        → take u (drop (u * (0 + (y * (columns_in c + columns_in d) + x))) (woven u (c ∷ cs) (d ∷ ds) xs ys)) ≡ take u (drop (u * (y * (columns_in c + columns_in d) + x)) (weave (rows_in c) (u * columns_in c) (u * columns_in d) xs ys))
    first_rows y x h k =
        let W = weave (rows_in c) (u * columns_in c) (u * columns_in d) xs ys in
        let R = woven u cs ds (drop (u * blocks_in c) xs) (drop (u * blocks_in d) ys) in
        let n = y * (columns_in c + columns_in d) + x in
        let e : u * (0 + n) ≡ u * n = omega arith in
        ap (λ (i : ℕ). take u (drop i (W ++ R))) e ∙ in_front u (u * n) W R (omega (arith, row_fits u (rows_in c) y x (columns_in c + columns_in d) h k, rows_long))

    later_rows : (n m : ℕ) → drop (u * ((blocks_in (besides c d) + n) + m)) (woven u (c ∷ cs) (d ∷ ds) xs ys) ≡ drop (u * (n + m)) (woven u cs ds (drop (u * blocks_in c) xs) (drop (u * blocks_in d) ys))
    later_rows n m =
        let W = weave (rows_in c) (u * columns_in c) (u * columns_in d) xs ys in
        let R = woven u cs ds (drop (u * blocks_in c) xs) (drop (u * blocks_in d) ys) in
        let N = blocks_in (besides c d) in
        let e : length W ≡ u * N = rows_long ∙ sym (ap (λ (i : ℕ). u * i) (both_blocks c d f.0) ∙ omega arith) in
        let g : u * ((N + n) + m) ≡ u * N + u * (n + m) = omega arith in
        beyond (u * N) (u * (n + m)) (u * ((N + n) + m)) W R e g

  past_blocks : (u b n m : ℕ) (xs : List A) → drop (u * (n + m)) (drop (u * b) xs) ≡ drop (u * ((b + n) + m)) xs
  past_blocks u b n m xs = let e : u * b + u * (n + m) ≡ u * ((b + n) + m) = omega arith in drop-drop (u * (n + m)) (u * b) xs ∙ ap (λ (i : ℕ). drop i xs) e

  pub woven_left : (u : ℕ) (cs ds : List Channel) (xs ys : List A) (j y x : ℕ) → AllBeside cs ds → Long u cs xs → Long u ds ys → j < length cs → y < rows_in (nth cs j) → x < columns_in (nth cs j)
      → take u (drop (u * (firsts (pairs_of cs ds) j + (y * (columns_in (nth cs j) + columns_in (nth ds j)) + x))) (woven u cs ds xs ys)) ≡ take u (drop (u * (firsts cs j + (y * columns_in (nth cs j) + x))) xs)
  woven_left u [] ds xs ys j y x f p q h k l = absurd (omega arith)
  woven_left u (c ∷ cs) [] xs ys j y x f p q h k l = absurd f
  woven_left u (c ∷ cs) (d ∷ ds) xs ys zero y x f p q h k l =
      let e : u * (y * columns_in c + x) ≡ u * (0 + (y * columns_in c + x)) = omega arith in
      first_rows u c d cs ds xs ys f p q y x k (omega arith)
      ∙ place_left (rows_in c) y x (columns_in c) (columns_in d) u xs ys k l (many_left u c d cs ds xs ys f p q) (many_right u c d cs ds xs ys f p q)
      ∙ ap (λ (i : ℕ). take u (drop i xs)) e
  woven_left u (c ∷ cs) (d ∷ ds) xs ys (suc j) y x f p q h k l =
      ap (λ (l : List A). take u l) (later_rows u c d cs ds xs ys f p q (firsts (pairs_of cs ds) j) (y * (columns_in (nth cs j) + columns_in (nth ds j)) + x))
      ∙ woven_left u cs ds (drop (u * blocks_in c) xs) (drop (u * blocks_in d) ys) j y x f.1 p.1 q.1 (omega arith) k l
      ∙ ap (λ (l : List A). take u l) (past_blocks u (blocks_in c) (firsts cs j) (y * columns_in (nth cs j) + x) xs)

  pub woven_right : (u : ℕ) (cs ds : List Channel) (xs ys : List A) (j y x : ℕ) → AllBeside cs ds → Long u cs xs → Long u ds ys → j < length cs → y < rows_in (nth cs j) → x < columns_in (nth ds j)
      → take u (drop (u * (firsts (pairs_of cs ds) j + (y * (columns_in (nth cs j) + columns_in (nth ds j)) + (columns_in (nth cs j) + x)))) (woven u cs ds xs ys)) ≡ take u (drop (u * (firsts ds j + (y * columns_in (nth ds j) + x))) ys)
  woven_right u [] ds xs ys j y x f p q h k l = absurd (omega arith)
  woven_right u (c ∷ cs) [] xs ys j y x f p q h k l = absurd f
  woven_right u (c ∷ cs) (d ∷ ds) xs ys zero y x f p q h k l =
      let e : u * (y * columns_in d + x) ≡ u * (0 + (y * columns_in d + x)) = omega arith in
      first_rows u c d cs ds xs ys f p q y (columns_in c + x) k (omega arith)
      ∙ place_right (rows_in c) y x (columns_in c) (columns_in d) u xs ys k l (many_left u c d cs ds xs ys f p q) (many_right u c d cs ds xs ys f p q)
      ∙ ap (λ (i : ℕ). take u (drop i ys)) e
  woven_right u (c ∷ cs) (d ∷ ds) xs ys (suc j) y x f p q h k l =
      ap (λ (l : List A). take u l) (later_rows u c d cs ds xs ys f p q (firsts (pairs_of cs ds) j) (y * (columns_in (nth cs j) + columns_in (nth ds j)) + (columns_in (nth cs j) + x)))
      ∙ woven_right u cs ds (drop (u * blocks_in c) xs) (drop (u * blocks_in d) ys) j y x f.1 p.1 q.1 (omega arith) k l
      ∙ ap (λ (l : List A). take u l) (past_blocks u (blocks_in d) (firsts ds j) (y * columns_in (nth ds j) + x) ys)

-- The channels in use of a sheet

pub record Linked (n : ℕ) (s : Sheet) (c : ℕ) : Type 0 where
  pub is : nth (take n s.channels) c ≡ channel_at s c
  pub first : firsts (take n s.channels) c ≡ blocks_before s c
  pub inside : c < length (take n s.channels)

pub linked : (n : ℕ) (s : Sheet) → length s.channels ≡ 3 → Number n → (c : ℕ) → c < n → Linked n s c
linked n s t x c h =
    subst (λ (v : Sheet). Linked n v c) (spelled_is s t)
    (⊎_elim (λ e. subst (λ (k : ℕ). Linked k (spelled s) c) (sym e) (one c (omega arith))) (λ e. subst (λ (k : ℕ). Linked k (spelled s) c) (sym e) (all c (omega arith))) x)
  where
    one : (c : ℕ) → c < 1 → Linked 1 (spelled s) c
    one zero h = record { is = refl; first = refl; inside = omega arith }
    one (suc c) h = absurd (omega arith)

    all : (c : ℕ) → c < 3 → Linked 3 (spelled s) c
    all zero h = record { is = refl; first = refl; inside = omega arith }
    all (suc zero) h = record { is = refl; first = omega arith; inside = omega arith }
    all (suc (suc zero)) h = record { is = refl; first = omega arith; inside = omega arith }
    all (suc (suc (suc c))) h = absurd (omega arith)
