-- dct.rs: Ooura's transforms of a block of 8 by 8 values. A `let` of the same name again is the Rust's assignment, and `mul_add` is
-- `mul_add!`. An `unfolding` line lets a theorem that unfolds the definition below it compute.
use Rattle.std.specs.Prelude.{List, [], ◌∷◌, ℕ, ◌+◌, ◌*◌, set, Float}
use Rattle.std.specs.Float.{binary32}
use Rattle.std.specs.Float.Ieee.{add, sub, mul, neg, of_bits}
use Rattle.fold.specs.Fold.{upto}
use Rattle.float.specs.Ops.{mul_add}
use Rattle.float.specs.Names.{◌⊕◌, ◌⊖◌, ◌⊗◌, val}
use Rattle.utils.specs.declared.dct.Transform.{Transform}
use Rattle.utils.specs.declared.dct.Transform.TheVariants.{Forward, Inverse}

abbrev pub C8_1R : Float
C8_1R = of_bits binary32 0x3efb14be

abbrev pub C8_1I : Float
C8_1I = of_bits binary32 0x3dc7c5c2

abbrev pub C8_2R : Float
C8_2R = of_bits binary32 0x3eec835e

abbrev pub C8_2I : Float
C8_2I = of_bits binary32 0x3e43ef15

abbrev pub C8_3R : Float
C8_3R = of_bits binary32 0x3ed4db31

abbrev pub C8_3I : Float
C8_3I = of_bits binary32 0x3e8e39da

abbrev pub C8_4R : Float
C8_4R = of_bits binary32 0x3eb504f3

abbrev pub W8_4R : Float
W8_4R = of_bits binary32 0x3f3504f3

-- The body of both loops of `idct8x8`: from the eight values of a column or row to the eight that are stored there. All are read
-- before the first is stored.
unfoldable pub idct8 : List Float → List Float
unfolding add sub mul neg mul_add of_bits
idct8 a =
    let x1r = mul_add C8_1R (val a 1) (C8_1I ⊗ val a 7) in
    let x1i = mul_add C8_1R (val a 7) (neg (C8_1I ⊗ val a 1)) in
    let x3r = mul_add C8_3R (val a 3) (C8_3I ⊗ val a 5) in
    let x3i = mul_add C8_3R (val a 5) (neg (C8_3I ⊗ val a 3)) in
    let xr = x1r ⊖ x3r in
    let xi = x1i ⊕ x3i in
    let x1r = x1r ⊕ x3r in
    let x3i = x3i ⊖ x1i in
    let x1i = W8_4R ⊗ (xr ⊕ xi) in
    let x3r = W8_4R ⊗ (xr ⊖ xi) in
    let xr = mul_add C8_2R (val a 2) (C8_2I ⊗ val a 6) in
    let xi = mul_add C8_2R (val a 6) (neg (C8_2I ⊗ val a 2)) in
    let x0r = C8_4R ⊗ (val a 0 ⊕ val a 4) in
    let x0i = C8_4R ⊗ (val a 0 ⊖ val a 4) in
    let x2r = x0r ⊖ xr in
    let x2i = x0i ⊖ xi in
    let x0r = x0r ⊕ xr in
    let x0i = x0i ⊕ xi in
    (x0r ⊕ x1r) ∷ (x2i ⊕ x3r) ∷ (x0i ⊕ x1i) ∷ (x2r ⊕ x3i) ∷ (x2r ⊖ x3i) ∷ (x0i ⊖ x1i) ∷ (x2i ⊖ x3r) ∷ (x0r ⊖ x1r) ∷ []

-- The body of both loops of `dct8x8`; here too all are read before the first is stored.
unfoldable pub dct8 : List Float → List Float
unfolding add sub mul neg mul_add of_bits
dct8 a =
    let x0r = val a 0 ⊕ val a 7 in
    let x1r = val a 0 ⊖ val a 7 in
    let x0i = val a 2 ⊕ val a 5 in
    let x1i = val a 2 ⊖ val a 5 in
    let x2r = val a 4 ⊕ val a 3 in
    let x3r = val a 4 ⊖ val a 3 in
    let x2i = val a 6 ⊕ val a 1 in
    let x3i = val a 6 ⊖ val a 1 in
    let xr = x0r ⊕ x2r in
    let xi = x0i ⊕ x2i in
    let a0 = C8_4R ⊗ (xr ⊕ xi) in
    let a4 = C8_4R ⊗ (xr ⊖ xi) in
    let xr = x0r ⊖ x2r in
    let xi = x0i ⊖ x2i in
    let a2 = mul_add C8_2R xr (neg (C8_2I ⊗ xi)) in
    let a6 = mul_add C8_2R xi (C8_2I ⊗ xr) in
    let xr = W8_4R ⊗ (x1i ⊖ x3i) in
    let x1i = W8_4R ⊗ (x1i ⊕ x3i) in
    let x3i = x1i ⊖ x3r in
    let x1i = x1i ⊕ x3r in
    let x3r = x1r ⊖ xr in
    let x1r = x1r ⊕ xr in
    let a1 = mul_add C8_1R x1r (neg (C8_1I ⊗ x1i)) in
    let a7 = mul_add C8_1R x1i (C8_1I ⊗ x1r) in
    let a3 = mul_add C8_3R x3r (neg (C8_3I ⊗ x3i)) in
    let a5 = mul_add C8_3R x3i (C8_3I ⊗ x3r) in
    a0 ∷ a1 ∷ a2 ∷ a3 ∷ a4 ∷ a5 ∷ a6 ∷ a7 ∷ []

-- The eight values of s at the places `at 0` to `at 7`, and s with those of v there. The places differ, so the order of the stores
-- does not show.
abbrev pub line : (ℕ → ℕ) → List Float → List Float
line at s =
    val s (at 0) ∷ val s (at 1) ∷ val s (at 2) ∷ val s (at 3) ∷ val s (at 4) ∷ val s (at 5) ∷ val s (at 6) ∷ val s (at 7) ∷ []

abbrev pub set_line : (ℕ → ℕ) → List Float → List Float → List Float
set_line at v s =
    set (set (set (set (set (set (set (set s (at 0) (val v 0)) (at 1) (val v 1)) (at 2) (val v 2)) (at 3) (val v 3))
    (at 4) (val v 4)) (at 5) (val v 5)) (at 6) (val v 6)) (at 7) (val v 7)

-- f done to the line that starts at place b and goes by d. Column j starts at j and goes by 8: a[i * 8 + j]. Row j starts at j * 8
-- and goes by 1: a[j * 8 + i].
unfoldable pub on_line : (List Float → List Float) → ℕ → ℕ → List Float → List Float
on_line f b d s = set_line (λ i. i * d + b) (f (line (λ i. i * d + b) s)) s

abbrev pub on_column : (List Float → List Float) → ℕ → List Float → List Float
on_column f j s = on_line f j 8 s

abbrev pub on_row : (List Float → List Float) → ℕ → List Float → List Float
on_row f j s = on_line f (j * 8) 1 s

-- f done to the eight columns of a block, one after the other, and then to its eight rows
abbrev pub columns_rows : (List Float → List Float) → List Float → List Float
columns_rows f s = upto (on_row f) 8 (upto (on_column f) 8 s)

-- `idct8x8` and `dct8x8`, on the 64 values of a block
unfoldable pub idct8x8 : List Float → List Float
unfolding upto on_line idct8
idct8x8 s = columns_rows idct8 s

unfoldable pub dct8x8 : List Float → List Float
unfolding upto on_line dct8
dct8x8 s = columns_rows dct8 s

abbrev pub transform8x8 : Transform → List Float → List Float
transform8x8 Forward = dct8x8
transform8x8 Inverse = idct8x8
