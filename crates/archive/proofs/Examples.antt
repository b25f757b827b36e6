-- Worked examples of both calls, computed.
use mathlib.Core.Path.{◌≡◌, refl}
use mathlib.Core.Bool.{cond}
use mathlib.Core.List.{List, []}
use Prim.Native.Nat.{ℕ}
use lib.Dec.{eqb}
use lib.IntN.{ℤ, pos, negsuc}
use Rattle.answers.specs.Answers.{filled}
use Rattle.answers.specs.Lists.{listed}
use Rattle.zigzag.specs.Zigzag.{figure, sequence, to_raster, to_zigzag}
use Rattle.archive.specs.Archive.{val, stored_at, chain, restored_at, rearranging, restoring}

-- n values: a and b at the first places of the first two blocks, and 0
unfoldable pub firsts : ℤ → ℤ → ℕ → List ℤ
unfolding listed
firsts a b n = listed (λ k. cond (eqb k 0) a (cond (eqb k 64) b (pos 0))) n

-- 0, 1, .., 127, two blocks
unfoldable pub count : List ℤ
unfolding listed
count = listed pos 128

-- zigzag order, and the first level of block 1 as its difference from that of block 0
pub in_order : val (rearranging count count).written 3 ≡ pos 16
unfolding rearranging stored_at listed count to_raster sequence
in_order = refl

pub in_order_2 : val (rearranging count count).written 67 ≡ pos 80
unfolding rearranging stored_at listed count to_raster sequence
in_order_2 = refl

pub difference : val (rearranging count count).written 64 ≡ pos 64
unfolding rearranging stored_at listed count to_raster sequence
difference = refl

-- the largest difference, 4,094, from -2,047 to 2,047
pub largest : val (restoring (firsts (negsuc 2046) (pos 4094) 128) count).written 64 ≡ pos 2047
unfolding restoring restored_at chain listed count firsts to_zigzag figure
largest = refl

-- a chain that leaves the range, also by as much as an i16 holds; a level that does
pub chain_left : (restoring (firsts (pos 2047) (pos 1) 128) count).number ≡ 5
unfolding restoring restored_at chain listed count firsts to_zigzag figure
chain_left = refl

pub chain_far : (restoring (firsts (pos 2047) (negsuc 32767) 128) count).number ≡ 5
unfolding restoring restored_at chain listed count firsts to_zigzag figure
chain_far = refl

pub level_left : (rearranging (firsts (pos 0) (pos 2048) 128) count).number ≡ 5
unfolding rearranging stored_at listed count firsts to_raster sequence
level_left = refl

-- 8 comes before 5; no values are a whole number of blocks
pub length_first : (rearranging (firsts (pos 2048) (pos 0) 63) (firsts (pos 0) (pos 0) 63)).number ≡ 8
unfolding rearranging stored_at listed firsts to_raster sequence
length_first = refl

pub none : rearranging [] [] ≡ filled 0 []
unfolding rearranging stored_at listed
none = refl
