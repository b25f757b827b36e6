-- The picture of the solved planes: the function `finish` of lib.rs, as document 01's "Whole run and picture" has it.
use Rattle.std.specs.Prelude.{ℕ, ◌+◌, ◌*◌, ◌/◌, ◌%◌, min, Bool, cond, not, ◌&&◌, ◌||◌, List, [], ◌∷◌, length, ◌==◌, nat_le, Float, Result, Ok, Err}
use Rattle.std.specs.Float.{nan, inf, fin, binary32}
use Rattle.std.specs.Float.Ieee.{up, down, add, neg, of_bits, to_unsigned}
use Rattle.refusal.specs.declared.Refusal.{Refusal}
use Rattle.refusal.specs.Refusal.{number_of}
use Rattle.fold.specs.Fold.{upto}
use Rattle.fold.specs.Join.{join_upto}
use Rattle.float.specs.Ops.{mul_add, clamp}
use Rattle.float.specs.Names.{◌⊕◌, f0, f255, val}
use Rattle.picture.specs.declared.Rounding.{Rounding}
use Rattle.picture.specs.declared.Rounding.TheVariants as rounding

-- ---- a value

-- The nearest whole number, halves upward: the whole part of x + 1/2, where x is m * up e / down e. As `to_unsigned` it stays within a byte and gives 0 for NaN.
unfoldable pub nearest : Float → ℕ
nearest nan = 0
nearest (inf s) = cond s 0 255
nearest (fin s m e) = cond s 0 (min ((2 * (m * up e) + down e) / (2 * down e)) 255)

-- How a clamped value becomes a byte: Rust's `as u8`, which truncates and gives 0 for NaN, or the nearest whole number, as T.871 has it.
-- This definition alone decides it.
abbrev pub to_byte : Rounding → Float → ℕ
to_byte rounding.Truncate v = to_unsigned 8 v
to_byte rounding.Nearest v = nearest v

-- a letter as it is lent: 1 is the nearest, any other number truncated
abbrev pub rounding_from : ℕ → Rounding
rounding_from n = cond (n == 1) rounding.Nearest rounding.Truncate

-- 128.0, 1.402, 0.34414, 0.71414, 1.772
abbrev pub f128 : Float
f128 = of_bits binary32 0x43000000

abbrev pub cr_red : Float
cr_red = of_bits binary32 0x3fb374bc

abbrev pub cb_green : Float
cb_green = of_bits binary32 0x3eb0331e

abbrev pub cr_green : Float
cr_green = of_bits binary32 0x3f36d1e1

abbrev pub cb_blue : Float
cb_blue = of_bits binary32 0x3fe2d0e5

-- given how a clamped value becomes a byte
module _ (byte : Float → ℕ) where
  -- `.clamp(0.0, 255.0) as u8`
  abbrev pub shade : Float → ℕ
  shade x = byte (clamp x f0 f255)

  -- ---- a pixel: its red, green and blue byte

  -- of three channels; y has its 128 already
  unfoldable pub colour : Float → Float → Float → List ℕ
  unfolding mul_add clamp neg of_bits
  colour y cb cr =
      shade (mul_add cr_red cr y)
      ∷ shade (mul_add cr_green (neg cr) (mul_add cb_green (neg cb) y))
      ∷ shade (mul_add cb_blue cb y)
      ∷ []

  -- of one channel
  unfoldable pub grey : Float → List ℕ
  unfolding clamp of_bits
  grey y = shade y ∷ shade y ∷ shade y ∷ []

  -- The pixel at a place of the planes. These have n values each and stand one after the other. "adds 128 to channel 0"
  unfoldable pub pixel : ℕ → ℕ → List Float → ℕ → List ℕ
  unfolding colour grey add of_bits
  pixel channels n planes at =
      let y = val planes at ⊕ f128 in
      cond (channels == 3) (colour y (val planes (n + at)) (val planes (2 * n + at))) (grey y)

  -- ---- the picture

  -- the pixels of a row whose first is that of place `from`
  abbrev pub row : ℕ → ℕ → List Float → ℕ → ℕ → List ℕ
  row channels n planes from width = join_upto (λ x. pixel channels n planes (from + x)) width

  -- `RgbImage::from_fn`, row by row: the pixel (x, y) is that of place y * w + x of planes w wide and h high
  abbrev pub picture : ℕ → ℕ → ℕ → ℕ → ℕ → List Float → List ℕ
  picture w h width height channels planes = join_upto (λ y. row channels (w * h) planes (y * w) width) height

-- ---- the call

-- "multiples of 8, 8 to 512"
abbrev pub side : ℕ → Bool
side n = (n % 8 == 0 && nat_le 8 n) && nat_le n 512

-- "1 to W", "1 to H"
abbrev pub within : ℕ → ℕ → Bool
within most n = nat_le 1 n && nat_le n most

-- "It takes W, H, picture sides and channel count (else 13)", as a sheet's header has them
abbrev pub legal : ℕ → ℕ → ℕ → ℕ → ℕ → Bool
legal w h width height channels =
    side w && (side h && (within w width && (within h height && (channels == 1 || channels == 3))))

-- "Lent planes, channels × W × H values"; "the lent RGB bytes are 3 × picture width × height, else 8"
abbrev pub fitting : ℕ → ℕ → ℕ → ℕ → ℕ → ℕ → ℕ → Bool
fitting w h width height channels values bytes = values == channels * (w * h) && bytes == 3 * (width * height)

-- document 01's answers, and which of them the code's answer is: done, or the refusal's number in the table
pub data Verdict : Type 0 where
  done : Verdict
  refused : ℕ → Verdict

abbrev pub verdict : Result Unit Refusal → Verdict
verdict (Ok x) = done
verdict (Err r) = refused (number_of r)

-- what a call answers, and the bytes that it leaves
pub record Finished : Type 0 where
  pub answer : Verdict
  pub bytes : List ℕ

-- the call: 13, then 8; a refusal leaves the lent bytes, rgb, unchanged
unfoldable pub finishing : Rounding → ℕ → ℕ → ℕ → ℕ → ℕ → List Float → List ℕ → Finished
unfolding pixel upto nearest to_unsigned
finishing rounds w h width height channels planes rgb =
    cond (not (legal w h width height channels)) (record { answer = refused 13; bytes = rgb })
    (cond (not (fitting w h width height channels (length planes) (length rgb))) (record { answer = refused 8; bytes = rgb })
    (record { answer = done; bytes = picture (to_byte rounds) w h width height channels planes }))
