-- Totals in pairs and pixels in triples: what stands at a place of one.
use mathlib.Core.Path.{◌≡◌, refl, ap, ◌∙◌}
use mathlib.Core.List.{List, [], ◌∷◌, ◌++◌}
use Prim.Native.Nat.{ℕ, zero, suc, ◌+◌, ◌*◌, ◌≤◌, ◌<◌}
use native.Mathlib.Nat.{suc-mul, zero-mul}
use native.Mathlib.Omega.{arith}
use lib.ListN.{length, get_or, take, drop}
use lib.Seq.{get_or-drop}
use lib.Ieee.{Float, nan}
use Rattle.std.specs.Simd.{first_chunks}
use Rattle.std.proofs.lemmas.List.{get_or-take}
use Rattle.digits.specs.Written.{hex_of, joined, ended}
use Rattle.output.specs.Output.{each, pixel, row_line, total_line, step_line}

module _ {A : Type 0} where
  each_same : (f g : ℕ → A) (n : ℕ) → ((i : ℕ) → i < n → f i ≡ g i) → each f n ≡ each g n
  unfolding each
  each_same f g zero h = refl
  each_same f g (suc n) h = λ i. each_same f g n (λ j l. h j (omega arith)) i ++ h n (omega arith) i ∷ []

  in_chunk : (n k i j : ℕ) (xs : List A) (d : A) → i < k → j < n → get_or (get_or (first_chunks n k xs) i []) j d ≡ get_or xs (i * n + j) d
  in_chunk n zero i j xs d h l = let y : ⊥ = omega arith in absurd y
  in_chunk n (suc k) zero j xs d h l = get_or-take n xs j d l ∙ ap (λ (m : ℕ). get_or xs m d) (let e : j ≡ zero * n + j = omega (arith, zero-mul n) in e)
  in_chunk n (suc k) (suc i) j xs d h l =
      let e : n + (i * n + j) ≡ suc i * n + j = omega (arith, suc-mul i n) in
      in_chunk n k i j (drop n xs) d (omega arith) l ∙ get_or-drop n xs (i * n + j) d ∙ ap (λ (m : ℕ). get_or xs m d) e

-- the line of a pair of totals
pub pair_line : (channel k n : ℕ) (totals : List Float) (pairs : List (List Float)) → k < n → pairs ≡ first_chunks 2 n totals
    → ended (total_line channel k (get_or (get_or pairs k []) 0 nan) (get_or (get_or pairs k []) 1 nan) ∷ []) ≡ ended (step_line channel totals k ∷ [])
pair_line channel k n totals pairs h q =
    let e : k * 2 + 0 ≡ k * 2 = omega arith in
    let x = in_chunk 2 n k 0 totals nan h (omega arith) ∙ ap (λ (j : ℕ). get_or totals j nan) e in
    let y = in_chunk 2 n k 1 totals nan h (omega arith) in
    rw q (λ i. ended (total_line channel k (x i) (y i) ∷ []))

-- a pixel of three bytes
pixel_at : (n k : ℕ) (rgb : List ℕ) → k < n → pixel (get_or (first_chunks 3 n rgb) k []) 0 ≡ pixel rgb k
pixel_at n k rgb h =
    let byte : (j m : ℕ) → j < 3 → k * 3 + j ≡ m → get_or (get_or (first_chunks 3 n rgb) k []) j 0 ≡ get_or rgb m 0 = λ j m l e. in_chunk 3 n k j rgb 0 h l ∙ ap (λ (i : ℕ). get_or rgb i 0) e in
    let r = byte 0 (3 * k) (omega arith) (omega arith) in
    let g = byte 1 (3 * k + 1) (omega arith) (omega arith) in
    let b = byte 2 (3 * k + 2) (omega arith) (omega arith) in
    λ i. hex_of 2 (r i) ++ (hex_of 2 (g i) ++ hex_of 2 (b i))

-- the line of a row of a picture's pixels, whose first is number k
pub row_as : (width n k : ℕ) (rgb : List ℕ) (row : List (List ℕ)) → k + width ≤ n → row ≡ take width (drop k (first_chunks 3 n rgb)) → length row ≡ width
    → ended (joined ((82 ∷ []) ∷ each (λ x. pixel (get_or row x []) 0) (length row)) ∷ []) ≡ ended (row_line width rgb k ∷ [])
row_as width n k rgb row h e w =
    let at : (x : ℕ) → x < width → pixel (get_or row x []) 0 ≡ pixel rgb (k + x) =
    λ x l. ap (λ (p : List ℕ). pixel p 0) (ap (λ (r : List (List ℕ)). get_or r x []) e ∙ get_or-take width (drop k (first_chunks 3 n rgb)) x [] l ∙ get_or-drop k (first_chunks 3 n rgb) x []) ∙ pixel_at n (k + x) rgb (omega arith) in
    ap (λ (m : ℕ). ended (joined ((82 ∷ []) ∷ each (λ x. pixel (get_or row x []) 0) m) ∷ [])) w
    ∙ ap (λ (fs : List (List ℕ)). ended (joined ((82 ∷ []) ∷ fs) ∷ [])) (each_same (λ x. pixel (get_or row x []) 0) (λ x. pixel rgb (k + x)) width at)
