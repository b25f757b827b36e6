-- Where each pixel stands in the picture, and what it holds. Assumes nothing.
use Rattle.std.proofs.Common.{◌≡◌, ℕ, ◌+◌, ◌*◌, ◌<◌, Bool, true, false, cond, eqb, List, [], ◌∷◌, length, get_or, refl, ◌∙◌, mul_assoc, mul_comm, arith, eq-eqb}
use lib.Ieee.{Float}
use Rattle.float.specs.Names.{val, ◌⊕◌}
use Rattle.picture.specs.declared.Rounding.{Rounding}
use Rattle.picture.specs.Finish.{to_byte, shade, colour, grey, pixel, row, picture, f128, legal, finishing, done}
use Rattle.fold.proofs.Joins.{join_length, join_at}

module _ (byte : Float → ℕ) where
  -- ---- one channel gives three equal bytes, three give the colours of a place's three values
  pub one_channel : (n : ℕ) (planes : List Float) (at : ℕ) → let v = shade byte (val planes at ⊕ f128) in pixel byte 1 n planes at ≡ v ∷ v ∷ v ∷ []
  unfolding pixel
  one_channel n planes at = refl

  pub three_channels : (n : ℕ) (planes : List Float) (at : ℕ)
      → pixel byte 3 n planes at ≡ colour byte (val planes at ⊕ f128) (val planes (n + at)) (val planes (2 * n + at))
  unfolding pixel
  three_channels n planes at = refl

  -- ---- lengths
  pub pixel_length : (channels n : ℕ) (planes : List Float) (at : ℕ) → length (pixel byte channels n planes at) ≡ 3
  unfolding pixel
  pixel_length channels n planes at = go (eqb channels 3) (val planes at ⊕ f128) (val planes (n + at)) (val planes (2 * n + at))
    where
      go : (b : Bool) (y cb cr : Float) → length (cond b (colour byte y cb cr) (grey byte y)) ≡ 3
      go true y cb cr = refl
      go false y cb cr = refl

  pub row_length : (channels n : ℕ) (planes : List Float) (from width : ℕ) → length (row byte channels n planes from width) ≡ width * 3
  row_length channels n planes from width = join_length _ 3 (λ x. pixel_length _ _ _ _) width

  module _ (w h width height channels : ℕ) (planes : List Float) where
    pub picture_length : length (picture byte w h width height channels planes) ≡ 3 * (width * height)
    picture_length =
        join_length _ _ (λ y. row_length _ _ _ _ _) height ∙ omega (arith, mul_assoc height width 3, mul_comm height width)

    -- ---- the pixel (x, y) holds the colours of place y * w + x of the planes
    pub picture_at : (x y c : ℕ) → x < width → y < height → c < 3
        → get_or (picture byte w h width height channels planes) (3 * (y * width + x) + c) 0 ≡ get_or (pixel byte channels (w * h) planes (y * w + x)) c 0
    picture_at x y c i j k =
        let e : 3 * (y * width + x) + c ≡ y * (width * 3) + (x * 3 + c) = omega (arith, mul_assoc y width 3) in
        rw e
        (join_at (λ v. row byte channels (w * h) planes (v * w) width) (width * 3) (λ v. row_length _ _ _ _ _) 0 height y (x * 3 + c) j (omega arith)
        ∙ join_at (λ u. pixel byte channels (w * h) planes (y * w + u)) 3 (λ u. pixel_length _ _ _ _) 0 width x c i k)

-- ---- with legal sizes and lengths the picture is done
pub is_done : (rounds : Rounding) (w h width height channels : ℕ) (planes : List Float) (rgb : List ℕ) → legal w h width height channels ≡ true
    → length planes ≡ channels * (w * h) → length rgb ≡ 3 * (width * height)
    → finishing rounds w h width height channels planes rgb ≡ record { answer = done; bytes = picture (to_byte rounds) w h width height channels planes }
unfolding finishing
is_done rounds w h width height channels planes rgb g p b = rw (g, eq-eqb _ _ p, eq-eqb _ _ b)
