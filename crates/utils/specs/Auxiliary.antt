-- auxiliary.rs: a channel's samples repeated to the full plane.
use Rattle.std.specs.Prelude.{List, ℕ, ◌+◌, ◌-◌, ◌*◌, ◌/◌, min, set, Float}
use Rattle.fold.specs.Fold.{upto}
use Rattle.float.specs.Names.{val}

-- the place of the sample (cx, cy) for the pixel (x, y), no further than the last one: w by h samples, factors horizontal and vertical
abbrev pub sample_of : ℕ → ℕ → ℕ → ℕ → ℕ → ℕ → ℕ
sample_of w h horizontal vertical y x = min (y / vertical) (h - 1) * w + min (x / horizontal) (w - 1)

-- `upsample_pixels`, for W by H pixels: the pixels of a row, the rows
module _ (image : List Float) (w h horizontal vertical W : ℕ) where
  abbrev pub upsample_at : ℕ → ℕ → List Float → List Float
  upsample_at y x out = set out (y * W + x) (val image (sample_of w h horizontal vertical y x))

  abbrev pub upsample_row : ℕ → List Float → List Float
  upsample_row y out = upto (upsample_at y) W out

  unfoldable pub upsample_pixels : ℕ → List Float → List Float
  unfolding upto
  upsample_pixels H out = upto upsample_row H out
