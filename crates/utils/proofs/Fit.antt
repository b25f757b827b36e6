-- Each value that a forward transform leaves is one that f32 holds, whatever it was given.
use mathlib.Core.Path.{◌≡◌, refl, ap, ◌∙◌, subst, sym}
use mathlib.Core.List.{List, [], ◌∷◌, ◌++◌}
use Prim.Native.Nat.{ℕ, zero, suc, ◌+◌, ◌*◌, ◌/◌, ◌%◌, ◌<◌, ◌≤◌}
use native.Mathlib.Omega.{arith}
use lib.Dec.{T, lit<, ltb}
use lib.Ieee.{Float, binary32, fits, nan}
use lib.Ieee.Fits.{mul-fits}
use lib.ListN.{length}
use Rattle.std.specs.Prelude.{slice_index_or}
use Rattle.float.proofs.Fit.{mul_add_fits}
use Rattle.fold.specs.Fold.{upto}
use Rattle.fold.proofs.Parts.{part_at, part_length}
use Rattle.float.specs.Names.{val}
use Rattle.utils.specs.Blocks.{block_of, on_block}
use Rattle.utils.specs.Dct.{dct8, dct8x8}
use Rattle.utils.specs.Lanes.{each_lane, eight, joined, rows, transposed}
use Rattle.utils.proofs.Blockwise.{block_done}
use Rattle.utils.proofs.Lanes.{passes}
use Rattle.utils.proofs.Lengths.{blocks_length, dct_length}
use Rattle.utils.proofs.Opened.{dct_is}

AllFit : List Float → Type 0
AllFit [] = Unit {0}
AllFit (x ∷ xs) = T (fits binary32 x) × AllFit xs

fit_at : (xs : List Float) → AllFit xs → (p : ℕ) → p < length xs → T (fits binary32 (val xs p))
unfolding AllFit
fit_at [] h p l = absurd (omega arith)
fit_at (x ∷ xs) h zero l = h.0
fit_at (x ∷ xs) h (suc p) l = fit_at xs h.1 p (omega arith)

append_fits : (xs ys : List Float) → AllFit xs → AllFit ys → AllFit (xs ++ ys)
unfolding AllFit
append_fits [] ys h k = k
append_fits (x ∷ xs) ys h k = (h.0, append_fits xs ys h.1 k)

eight_fits : (f : ℕ → Float) → ((j : ℕ) → j < 8 → T (fits binary32 (f j))) → AllFit (eight f)
unfolding AllFit
eight_fits f h =
    let at = λ (j : ℕ) (l : T (ltb j 8)). h j (lit< l) in
    (at 0 tt, (at 1 tt, (at 2 tt, (at 3 tt, (at 4 tt, (at 5 tt, (at 6 tt, (at 7 tt, tt))))))))

-- all eight that `dct8` makes
line_fits : (a : List Float) → AllFit (dct8 a)
unfolding dct8 AllFit
line_fits a =
    let product = λ (x y : Float). mul-fits binary32 x y in (
      search (product),
      (
        search (mul_add_fits),
        (
          search (mul_add_fits),
          (
            search (mul_add_fits),
            (search (product), (search (mul_add_fits), (search (mul_add_fits), (search (mul_add_fits), tt)))),
          ),
        ),
      ),
    )

line_length : (a : List Float) → length (dct8 a) ≡ 8
unfolding dct8
line_length a = refl

each_fits : (a : List Float) (j : ℕ) → j < 8 → T (fits binary32 (val (dct8 a) j))
each_fits a j l = fit_at (dct8 a) (line_fits a) j (omega (arith, line_length a))

-- the block of eight rows, each made by `dct8`
rows_fit : (row : ℕ → List Float) → AllFit (joined (eight (λ i. eight (λ j. val (dct8 (row i)) j))))
rows_fit row =
    let r : ℕ → List Float = λ i. eight (λ j. val (dct8 (row i)) j) in
    let one : (i : ℕ) → AllFit (r i) = λ i. eight_fits (λ j. val (dct8 (row i)) j) (each_fits (row i)) in
    let all : AllFit (r 0 ++ (r 1 ++ (r 2 ++ (r 3 ++ (r 4 ++ (r 5 ++ (r 6 ++ r 7))))))) =
    append_fits (r 0) _ (one 0) (append_fits (r 1) _ (one 1) (append_fits (r 2) _ (one 2) (append_fits (r 3) _ (one 3)
    (append_fits (r 4) _ (one 4) (append_fits (r 5) _ (one 5) (append_fits (r 6) _ (one 6) (one 7))))))) in
    all

block_fits : (s : List Float) → length s ≡ 64 → AllFit (dct8x8 s)
block_fits s h =
    let m = transposed (transposed (each_lane dct8 (rows s))) in
    subst AllFit (passes dct8 s h ∙ dct_is s) (rows_fit (λ i. slice_index_or m i []))

-- each value of the first n blocks
pub dcts_fit : (n : ℕ) (xs : List Float) → n * 64 ≤ length xs → (k : ℕ) → k < n * 64 → T (fits binary32 (val (upto (on_block dct8x8) n xs) k))
dcts_fit n xs h k l =
    let i = k / 64 in
    let j = k % 64 in
    let y = upto (on_block dct8x8) n xs in
    let long : length y ≡ length xs = blocks_length dct8x8 dct_length n xs in
    let within : i * 64 + 64 ≤ length xs = omega (arith, h, l) in
    let size : length (block_of xs i) ≡ 64 = part_length xs (i * 64) (i * 64 + 64) (omega arith) within ∙ omega arith in
    let block : block_of y i ≡ dct8x8 (block_of xs i) = block_done dct8x8 dct_length xs n h i (omega (arith, l)) in
    let here : val (block_of y i) j ≡ val y k =
    part_at y (i * 64) (i * 64 + 64) (omega arith) (omega (arith, within, long)) j nan (omega arith) ∙ ap (val y) (omega arith) in
    subst (λ (x : Float). T (fits binary32 x)) (ap (λ (s : List Float). val s j) (sym block) ∙ here)
    (fit_at (dct8x8 (block_of xs i)) (block_fits (block_of xs i) size) j (omega (arith, size, dct_length (block_of xs i))))
