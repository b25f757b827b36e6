-- The rows marked ● in document 01, "Fixed examples", and those that document 02 adds, about the definitions that the contracts cite. A value ±m × 2 ^ e is `fin s m e`.
use Rattle.std.specs.Prelude.{◌≡◌, ℕ, ◌*◌, true, false, List, [], ◌∷◌, ◌++◌, replicate, pos, negsuc, Float}
use Rattle.std.specs.Float.{fin, binary32}
use Rattle.std.specs.Float.Ieee.{to_bits, neg, of_bits}
use Rattle.float.specs.Ops.{mul_add, fused, midpoint, root, clamp}
use Rattle.float.specs.Names.{f0, f1, float}
use Rattle.interval.specs.Interval.{InInterval, low_end, high_end, lowest, highest}
use Rattle.utils.specs.Dct.{idct8x8}
use Rattle.start.specs.declared.coef.Reorder.TheVariants.{Each, Once}
use Rattle.start.specs.Coef.{Coef, coef, pairs}
use Rattle.start.specs.Auxiliary.{aux_init}
use Rattle.steps.specs.Solve.{pushed}
use Rattle.gradients.specs.Tv.{Terms, tv_gradient}
use Rattle.gradients.specs.Tgv.{tgv_gradient}
use Rattle.picture.specs.declared.Rounding.TheVariants as rounding
use Rattle.picture.specs.Finish.{to_byte, pixel}

-- 1 + 2⁻²³, 1 − 2⁻²³, the largest f32
abbrev pub above_one : Float
above_one = fin false 8388609 (negsuc 22)

abbrev pub below_one : Float
below_one = fin false 8388607 (negsuc 22)

abbrev pub largest : Float
largest = fin false 16777215 (pos 104)

-- 8 by 8 values, row by row
abbrev pub rows : (ℕ → Float) → List Float
rows f =
    replicate 8 (f 0) ++ (replicate 8 (f 1) ++ (replicate 8 (f 2) ++ (replicate 8 (f 3)
    ++ (replicate 8 (f 4) ++ (replicate 8 (f 5) ++ (replicate 8 (f 6) ++ replicate 8 (f 7)))))))

-- the first-order term of the plane whose values are 2 × row, one channel, onto zeros
abbrev pub slope : Terms
slope = tv_gradient 8 8 1 (λ c. false) (rows (λ y. float (y * 2))) (record { gradient = replicate 64 f0; across = replicate 64 f0; down = replicate 64 f0 })

-- 16 by 8, level 1 and quantiser 8 at the first place of block 0, block 1 zero; a row of the plane with v = 1 − 2⁻²⁴ in its left half, and a row of zeros
abbrev pub wide : Coef
wide = coef (record { width = 16; height = 8; horizontal = 1; vertical = 1 }) (pairs (pos 1 ∷ replicate 127 (pos 0)) (pos 1 ∷ replicate 127 (pos 0))) (replicate 64 8)

abbrev pub lit : List Float
lit = replicate 8 (fin false 16777215 (negsuc 23)) ++ replicate 8 f0

abbrev pub dark : List Float
dark = replicate 16 f0

-- The rows on intervals speak of the exact interval, whose ends are taken twice, and of the f32 ends, which the clamp uses.
pub record Table : Type 0 where
  -- "d 0, q 16: interval −8 to 8; 8 kept, 8.5 gives 8"
  pub exact_from_minus_8 : low_end (pos 0) 16 ≡ negsuc 15
  pub exact_to_8 : high_end (pos 0) 16 ≡ pos 16
  pub holds_minus_8 : InInterval (pos 0) (pos 0) 16 (fin true 1 (pos 3))
  pub holds_8 : InInterval (pos 0) (pos 0) 16 (fin false 1 (pos 3))
  pub not_8½ : InInterval (pos 0) (pos 0) 16 (fin false 17 (negsuc 0)) → ⊥
  pub from_minus_8 : lowest (pos 0) 16 ≡ fin true 1 (pos 3)
  pub to_8 : highest (pos 0) 16 ≡ fin false 1 (pos 3)
  pub kept_8 : clamp (fin false 1 (pos 3)) (lowest (pos 0) 16) (highest (pos 0) 16) ≡ fin false 1 (pos 3)
  pub moved_8½ : clamp (fin false 17 (negsuc 0)) (lowest (pos 0) 16) (highest (pos 0) 16) ≡ fin false 1 (pos 3)
  -- "d −3, q 10: −35 to −25"
  pub exact_from_minus_35 : low_end (negsuc 2) 10 ≡ negsuc 69
  pub exact_to_minus_25 : high_end (negsuc 2) 10 ≡ negsuc 49
  pub from_minus_35 : lowest (negsuc 2) 10 ≡ fin true 35 (pos 0)
  pub to_minus_25 : highest (negsuc 2) 10 ≡ fin true 25 (pos 0)
  -- "d 2,047, q 255: 521,857.5 to 522,112.5"
  pub exact_from_521857½ : low_end (pos 2047) 255 ≡ pos 1043715
  pub exact_to_522112½ : high_end (pos 2047) 255 ≡ pos 1044225
  pub from_521857½ : lowest (pos 2047) 255 ≡ fin false 1043715 (negsuc 0)
  pub to_522112½ : highest (pos 2047) 255 ≡ fin false 1044225 (negsuc 0)
  -- "a = 1 + 2⁻²³, b = 1 − 2⁻²³, c = −1: fused −2⁻⁴⁶, `mul_add!` 0"
  pub fused_once : fused above_one below_one (fin true 1 (pos 0)) ≡ fin true 1 (negsuc 45)
  pub rounded_twice : mul_add above_one below_one (fin true 1 (pos 0)) ≡ fin false 0 (pos 0)
  -- "√2 has bits 3fb504f3; √4 is 2"
  pub root_2 : to_bits binary32 (root (fin false 1 (pos 1))) ≡ 0x3fb504f3
  pub root_4 : root (fin false 1 (pos 2)) ≡ fin false 1 (pos 1)
  -- "midpoint of 1 and 1 + 2⁻²³ is 1; of the largest f32 with itself, itself"
  pub midpoint_tie : midpoint (fin false 1 (pos 0)) above_one ≡ fin false 1 (pos 0)
  pub midpoint_largest : midpoint largest largest ≡ largest
  -- "`idct8x8` of first value 8, rest 0: all 64 are v = 1 − 2⁻²⁴, not 1"
  pub flat_block : idct8x8 (fin false 1 (pos 3) ∷ replicate 63 (fin false 0 (pos 0))) ≡ replicate 64 (fin false 16777215 (negsuc 23))
  -- "Width 16, height 8, block 0 first level 1, q 8, block 1 zero: the start has v in the left half of even rows, else 0": with `m`
  pub start_after_each : (aux_init Each wide 16 8).plane ≡ lit ++ (dark ++ (lit ++ (dark ++ (lit ++ (dark ++ (lit ++ dark))))))
  -- document 02, M-102, "reorders once as T.81 places blocks": with `o` v in all rows of the left half
  pub start_once : (aux_init Once wide 16 8).plane ≡ lit ++ (lit ++ (lit ++ (lit ++ (lit ++ (lit ++ (lit ++ lit))))))
  -- "factor 0.5, plane 3, prior 1: push gives 4 and 3"
  pub push_gives : pushed (fin false 1 (negsuc 0)) (record { plane = float 3 ∷ []; prior = f1 ∷ [] }) ≡ record { plane = float 4 ∷ []; prior = float 3 ∷ [] }
  -- "8 by 8 plane, each value 2 × row, one channel: first-order gradient −1 in row 0, 1 in row 7, else 0. Second order with second-order
  -- weight 1 adds −1 in row 6, 2 in row 7"
  pub first_order : slope.gradient ≡ replicate 8 (neg f1) ++ (replicate 48 f0 ++ replicate 8 f1)
  pub second_order : tgv_gradient 8 8 1 (λ c. false) f1 slope.across slope.down slope.gradient
      ≡ replicate 8 (neg f1) ++ (replicate 40 f0 ++ (replicate 8 (neg f1) ++ replicate 8 (float 3)))
  -- "planes 0, 0, 100: 255, 56, 128. One channel 0.875: 128"
  pub red_pixel : pixel (to_byte rounding.Truncate) 3 1 (f0 ∷ f0 ∷ of_bits binary32 0x42c80000 ∷ []) 0 ≡ 255 ∷ 56 ∷ 128 ∷ []
  pub grey_pixel : pixel (to_byte rounding.Truncate) 1 1 (of_bits binary32 0x3f600000 ∷ []) 0 ≡ 128 ∷ 128 ∷ 128 ∷ []
  -- document 02, M-100: "In the example of planes 0, 0, 100 green becomes 57"
  pub red_pixel_nearest : pixel (to_byte rounding.Nearest) 3 1 (f0 ∷ f0 ∷ of_bits binary32 0x42c80000 ∷ []) 0 ≡ 255 ∷ 57 ∷ 128 ∷ []
