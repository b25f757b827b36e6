-- What `upsample_pixels` leaves at each pixel.
use mathlib.Core.Path.{◌≡◌, ap, ◌∙◌, sym}
use mathlib.Core.List.{List}
use Prim.Native.Nat.{ℕ, ◌+◌, ◌*◌, ◌/◌, ◌%◌, ◌<◌, ◌≤◌}
use native.Mathlib.Nat.{lt_of_lt_of_le, mul_comm, ne_of_gt}
use lib.ListN.{length}
use lib.Ieee.{Float, nan}
use Rattle.fold.specs.Fold.{upto}
use Rattle.fold.proofs.Grid.{column_of, in_grid, row_of}
use Rattle.fold.proofs.Loops.{upto_ext, upto_nest}
use Rattle.fold.proofs.Scatter.{sent_other}
use Rattle.fold.proofs.Stores.{store_at, stored-at}
use Rattle.float.specs.Names.{val}
use Rattle.utils.specs.Auxiliary.{sample_of, upsample_at, upsample_pixels, upsample_row}
use Rattle.utils.proofs.Opened.{upsample_is}

module _ (image : List Float) (w h horizontal vertical W H : ℕ) (out : List Float) where
  -- the sample for place p of the full plane
  abbrev sample : ℕ → Float
  sample p = val image (sample_of w h horizontal vertical (p / W) (p % W))

  -- both loops as one, over the places
  flat : upsample_pixels image w h horizontal vertical W H out ≡ upto (store_at nan sample) (H * W) out
  flat =
      sym (upsample_is image w h horizontal vertical W H out)
      ∙ upto_ext (upsample_row image w h horizontal vertical W) (λ y a. upto (λ x. store_at nan sample (y * W + x)) W a) H out
      (λ y a l. upto_ext (upsample_at image w h horizontal vertical W y) (λ x. store_at nan sample (y * W + x)) W a
      (λ x b m. rw (row_of y W x m, column_of y W x m)))
      ∙ upto_nest (store_at nan sample) W H out

  -- pixel (x, y) holds the sample (min (x / horizontal) (w - 1), min (y / vertical) (h - 1))
  pub upsampled_at : W * H ≤ length out → (y x : ℕ) → y < H → x < W
      → val (upsample_pixels image w h horizontal vertical W H out) (y * W + x) ≡ val image (sample_of w h horizontal vertical y x)
  upsampled_at long y x l m =
      ap (λ (s : List Float). val s (y * W + x)) flat
      ∙ stored-at nan sample out (H * W) (rw mul_comm long) (y * W + x) (in_grid y H x W l m)
      ∙ rw (row_of y W x m, column_of y W x m)

  -- what stands past the pixels stays
  pub upsampled_past : (p : ℕ) → W * H ≤ p → val (upsample_pixels image w h horizontal vertical W H out) p ≡ val out p
  upsampled_past p g =
      let past : H * W ≤ p = rw (mul_comm H W) g in
      ap (λ (s : List Float). val s p) flat
      ∙ sent_other nan sample (λ i. i) (H * W) out p (λ i l. ne_of_gt (lt_of_lt_of_le l past))
