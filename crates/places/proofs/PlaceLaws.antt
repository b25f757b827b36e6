-- Where each block of two sheets stands side by side: the block (y, x) is the left one's where x is below its blocks in a row, else the right one's.
use Prim.Native.Nat.{ℕ, zero, suc, ◌+◌, ◌-◌, ◌*◌, ◌≤◌, ◌<◌}
use mathlib.Core.Path.{◌≡◌, sym, ap, ◌∙◌}
use mathlib.Core.List.{List, ◌++◌, append_assoc}
use native.Mathlib.Omega.{arith}
use native.Mathlib.Nat.{mul-le-mul_left}
use lib.ListN.{length, take, drop, length-append, length-drop}
use lib.Seq.{length-take-le, take-append-le, drop-append-le, drop-append-add, take-take, drop-drop}
use Rattle.stitch.specs.Stitched.{weave}
use Rattle.stitch.proofs.WeaveLaws.{drop-take}

module _ {A : Type 0} where
  -- u values of a part, after x times u
  part : (u x a : ℕ) (xs R : List A) → x < a → u * a ≤ length xs → take u (drop (u * x) (take (u * a) xs ++ R)) ≡ take u (drop (u * x) xs)
  part u x a xs R h k =
      let o : x + 1 ≤ a = omega arith in
      let m : u * (x + 1) ≤ u * a = mul-le-mul_left u o in
      let n : u * x + u ≤ u * a = omega (arith, m) in
      let l : length (take (u * a) xs) ≡ u * a = length-take-le (u * a) xs k in
      let p : u * x ≤ length (take (u * a) xs) = omega (arith, l, n) in
      let q : u ≤ length (drop (u * x) (take (u * a) xs)) = omega (arith, length-drop (u * x) (take (u * a) xs), l, n) in
      let e : u * a ≡ u * x + (u * a - u * x) = omega (arith, n) in
      let g : u ≤ u * a - u * x = omega (arith, n) in
      ap (λ (t : List A). take u t) (drop-append-le (u * x) (take (u * a) xs) R p)
      ∙ take-append-le u (drop (u * x) (take (u * a) xs)) R q
      ∙ ap (λ (t : ℕ). take u (drop (u * x) (take t xs))) e
      ∙ ap (λ (t : List A). take u t) (drop-take (u * x) (u * a - u * x) xs)
      ∙ take-take u (u * a - u * x) (drop (u * x) xs) g

  -- past a list of this length
  pub beyond : (n k m : ℕ) (xs ys : List A) → length xs ≡ n → m ≡ n + k → drop m (xs ++ ys) ≡ drop k ys
  beyond n k m xs ys e f = ap (λ (t : ℕ). drop t (xs ++ ys)) (f ∙ ap (λ (t : ℕ). t + k) (sym e)) ∙ drop-append-add xs ys k

  -- one row less
  lower : (n u a : ℕ) (xs : List A) → suc n * (u * a) ≤ length xs → n * (u * a) ≤ length (drop (u * a) xs)
  lower n u a xs h = omega (arith, length-drop (u * a) xs)

  pub place_left : (n y x a b u : ℕ) (xs ys : List A) → y < n → x < a → n * (u * a) ≤ length xs → n * (u * b) ≤ length ys
      → take u (drop (u * (y * (a + b) + x)) (weave n (u * a) (u * b) xs ys)) ≡ take u (drop (u * (y * a + x)) xs)
  place_left zero y x a b u xs ys l h p q = absurd (omega arith)
  place_left (suc n) zero x a b u xs ys l h p q =
      let R = take (u * b) ys ++ weave n (u * a) (u * b) (drop (u * a) xs) (drop (u * b) ys) in
      let e : u * (0 * (a + b) + x) ≡ u * x = omega arith in
      let f : u * x ≡ u * (0 * a + x) = omega arith in
      let k : u * a ≤ length xs = omega arith in
      ap (λ (t : ℕ). take u (drop t (take (u * a) xs ++ R))) e ∙ part u x a xs R h k ∙ ap (λ (t : ℕ). take u (drop t xs)) f
  place_left (suc n) (suc y) x a b u xs ys l h p q =
      let X = take (u * a) xs in
      let Y = take (u * b) ys in
      let W = weave n (u * a) (u * b) (drop (u * a) xs) (drop (u * b) ys) in
      let i : u * a ≤ length xs = omega arith in
      let j : u * b ≤ length ys = omega arith in
      let c : length (X ++ Y) ≡ u * a + u * b = omega (arith, length-append X Y, length-take-le (u * a) xs i, length-take-le (u * b) ys j) in
      let e : u * (suc y * (a + b) + x) ≡ (u * a + u * b) + u * (y * (a + b) + x) = omega arith in
      let f : u * a + u * (y * a + x) ≡ u * (suc y * a + x) = omega arith in
      ap (λ (t : List A). take u (drop (u * (suc y * (a + b) + x)) t)) (sym (append_assoc X Y W))
      ∙ ap (λ (t : List A). take u t) (beyond (u * a + u * b) (u * (y * (a + b) + x)) (u * (suc y * (a + b) + x)) (X ++ Y) W c e)
      ∙ place_left n y x a b u (drop (u * a) xs) (drop (u * b) ys) (omega arith) h (lower n u a xs p) (lower n u b ys q)
      ∙ ap (λ (t : List A). take u t) (drop-drop (u * (y * a + x)) (u * a) xs)
      ∙ ap (λ (t : ℕ). take u (drop t xs)) f

  pub place_right : (n y x a b u : ℕ) (xs ys : List A) → y < n → x < b → n * (u * a) ≤ length xs → n * (u * b) ≤ length ys
      → take u (drop (u * (y * (a + b) + (a + x))) (weave n (u * a) (u * b) xs ys)) ≡ take u (drop (u * (y * b + x)) ys)
  place_right zero y x a b u xs ys l h p q = absurd (omega arith)
  place_right (suc n) zero x a b u xs ys l h p q =
      let X = take (u * a) xs in
      let W = weave n (u * a) (u * b) (drop (u * a) xs) (drop (u * b) ys) in
      let i : u * a ≤ length xs = omega arith in
      let k : u * b ≤ length ys = omega arith in
      let e : u * (0 * (a + b) + (a + x)) ≡ u * a + u * x = omega arith in
      let f : u * x ≡ u * (0 * b + x) = omega arith in
      ap (λ (t : List A). take u t) (beyond (u * a) (u * x) (u * (0 * (a + b) + (a + x))) X (take (u * b) ys ++ W) (length-take-le (u * a) xs i) e)
      ∙ part u x b ys W h k
      ∙ ap (λ (t : ℕ). take u (drop t ys)) f
  place_right (suc n) (suc y) x a b u xs ys l h p q =
      let X = take (u * a) xs in
      let Y = take (u * b) ys in
      let W = weave n (u * a) (u * b) (drop (u * a) xs) (drop (u * b) ys) in
      let i : u * a ≤ length xs = omega arith in
      let j : u * b ≤ length ys = omega arith in
      let c : length (X ++ Y) ≡ u * a + u * b = omega (arith, length-append X Y, length-take-le (u * a) xs i, length-take-le (u * b) ys j) in
      let e : u * (suc y * (a + b) + (a + x)) ≡ (u * a + u * b) + u * (y * (a + b) + (a + x)) = omega arith in
      let f : u * b + u * (y * b + x) ≡ u * (suc y * b + x) = omega arith in
      ap (λ (t : List A). take u (drop (u * (suc y * (a + b) + (a + x))) t)) (sym (append_assoc X Y W))
      ∙ ap (λ (t : List A). take u t) (beyond (u * a + u * b) (u * (y * (a + b) + (a + x))) (u * (suc y * (a + b) + (a + x))) (X ++ Y) W c e)
      ∙ place_right n y x a b u (drop (u * a) xs) (drop (u * b) ys) (omega arith) h (lower n u a xs p) (lower n u b ys q)
      ∙ ap (λ (t : List A). take u t) (drop-drop (u * (y * b + x)) (u * b) ys)
      ∙ ap (λ (t : ℕ). take u (drop t ys)) f
