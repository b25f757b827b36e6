-- Two lists joined row by row.
use Prim.Native.Nat.{ℕ, zero, suc, ◌+◌, ◌*◌, ◌≤◌}
use mathlib.Core.Path.{◌≡◌, refl, sym, ap, ◌∙◌}
use mathlib.Core.List.{List, [], ◌∷◌, ◌++◌, append_assoc}
use native.Mathlib.Omega.{arith}
use lib.ListN.{length, take, drop, length-append, length-drop}
use lib.Seq.{length-take-le, take-nil, take-append-le, drop-append-le, take-take, take_at, drop_at}
use Rattle.stitch.specs.Stitched.{weave}

module _ {A : Type 0} where
  pub drop-take : (n m : ℕ) (xs : List A) → drop n (take (n + m) xs) ≡ take m (drop n xs)
  drop-take zero m xs = let e : 0 + m ≡ m = omega arith in ap (λ (k : ℕ). take k xs) e
  drop-take (suc n) m [] = ap (λ (l : List A). drop (suc n) l) (take-nil (suc n + m)) ∙ sym (take-nil m)
  drop-take (suc n) m (x ∷ xs) =
      let e : suc n + m ≡ suc (n + m) = omega arith in ap (λ (k : ℕ). drop (suc n) (take k (x ∷ xs))) e ∙ drop-take n m xs

  -- a part of a row, and what is left of n rows after one
  row : (n a : ℕ) (xs us : List A) → suc n * a ≤ length xs → take a (take (suc n * a) xs ++ us) ≡ take a xs
  row n a xs us h =
      let m : a ≤ suc n * a = omega arith in
      let l : a ≤ length (take (suc n * a) xs) = omega (arith, length-take-le (suc n * a) xs h) in
      take-append-le a (take (suc n * a) xs) us l ∙ take-take a (suc n * a) xs m

  rows : (n a : ℕ) (xs us : List A) → suc n * a ≤ length xs → drop a (take (suc n * a) xs ++ us) ≡ take (n * a) (drop a xs) ++ us
  rows n a xs us h =
      let m : a ≤ suc n * a = omega arith in
      let l : a ≤ length (take (suc n * a) xs) = omega (arith, length-take-le (suc n * a) xs h) in
      let e : suc n * a ≡ a + n * a = omega arith in
      drop-append-le a (take (suc n * a) xs) us l
      ∙ ap (λ (k : ℕ). drop a (take k xs) ++ us) e
      ∙ ap (λ (k : List A). k ++ us) (drop-take a (n * a) xs)

  less : (n a : ℕ) (xs : List A) → suc n * a ≤ length xs → n * a ≤ length (drop a xs)
  less n a xs h = omega (arith, length-drop a xs)

  pub weave_length : (n a b : ℕ) (xs ys : List A) → n * a ≤ length xs → n * b ≤ length ys → length (weave n a b xs ys) ≡ n * (a + b)
  weave_length zero a b xs ys h k = omega arith
  weave_length (suc n) a b xs ys h k =
      let p : a ≤ length xs = omega arith in
      let q : b ≤ length ys = omega arith in
      let P = weave n a b (drop a xs) (drop b ys) in
      let r = weave_length n a b (drop a xs) (drop b ys) (less n a xs h) (less n b ys k) in
      omega (arith, length-append (take a xs) (take b ys ++ P), length-append (take b ys) P, length-take-le a xs p, length-take-le b ys q, r)

  -- only the first n × a and n × b elements count
  pub weave_front : (n a b : ℕ) (xs ys us vs : List A) → n * a ≤ length xs → n * b ≤ length ys → weave n a b (take (n * a) xs ++ us) (take (n * b) ys ++ vs) ≡ weave n a b xs ys
  weave_front zero a b xs ys us vs h k = refl
  weave_front (suc n) a b xs ys us vs h k =
      (λ i. row n a xs us h i ++ (row n b ys vs k i ++ weave n a b (rows n a xs us h i) (rows n b ys vs k i)))
      ∙ ap (λ (l : List A). take a xs ++ (take b ys ++ l)) (weave_front n a b (drop a xs) (drop b ys) us vs (less n a xs h) (less n b ys k))

  -- three lists: the first two joined and then the third, or the last two first
  pub weave_both : (n a b c : ℕ) (xs ys zs : List A) → n * a ≤ length xs → n * b ≤ length ys → n * c ≤ length zs
      → weave n (a + b) c (weave n a b xs ys) zs ≡ weave n a (b + c) xs (weave n b c ys zs)
  weave_both zero a b c xs ys zs h k l = refl
  weave_both (suc n) a b c xs ys zs h k l =
      let X = take a xs in
      let Y = take b ys in
      let Z = take c zs in
      let P = weave n a b (drop a xs) (drop b ys) in
      let W = weave n b c (drop b ys) (drop c zs) in
      let u : a ≤ length xs = omega arith in
      let v : b ≤ length ys = omega arith in
      let w : c ≤ length zs = omega arith in
      let d : length (X ++ Y) ≡ a + b = omega (arith, length-append X Y, length-take-le a xs u, length-take-le b ys v) in
      let e : length (Y ++ Z) ≡ b + c = omega (arith, length-append Y Z, length-take-le b ys v, length-take-le c zs w) in
      let x : X ++ (Y ++ P) ≡ (X ++ Y) ++ P = sym (append_assoc X Y P) in
      let y : Y ++ (Z ++ W) ≡ (Y ++ Z) ++ W = sym (append_assoc Y Z W) in
      let tx : take (a + b) (X ++ (Y ++ P)) ≡ X ++ Y = ap (λ (q : List A). take (a + b) q) x ∙ take_at (X ++ Y) P (a + b) d in
      let dx : drop (a + b) (X ++ (Y ++ P)) ≡ P = ap (λ (q : List A). drop (a + b) q) x ∙ drop_at (X ++ Y) P (a + b) d in
      let ty : take (b + c) (Y ++ (Z ++ W)) ≡ Y ++ Z = ap (λ (q : List A). take (b + c) q) y ∙ take_at (Y ++ Z) W (b + c) e in
      let dy : drop (b + c) (Y ++ (Z ++ W)) ≡ W = ap (λ (q : List A). drop (b + c) q) y ∙ drop_at (Y ++ Z) W (b + c) e in
      let o = weave_both n a b c (drop a xs) (drop b ys) (drop c zs) (less n a xs h) (less n b ys k) (less n c zs l) in
      (λ i. tx i ++ (Z ++ weave n (a + b) c (dx i) (drop c zs)))
      ∙ append_assoc X Y (Z ++ weave n (a + b) c P (drop c zs))
      ∙ ap (λ (q : List A). X ++ (Y ++ (Z ++ q))) o
      ∙ ap (λ (q : List A). X ++ q) (sym (append_assoc Y Z (weave n a (b + c) (drop a xs) W)))
      ∙ (λ i. X ++ (sym ty i ++ weave n a (b + c) (drop a xs) (sym dy i)))
