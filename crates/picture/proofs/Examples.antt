-- The rows of document 01's table of examples that concern the picture, and a few more, each by computation.
use Rattle.std.proofs.Common.{◌≡◌, ℕ, false, List, [], ◌∷◌, ◌++◌, replicate, negsuc, refl}
use lib.Ieee.{Float, nan, inf, fin, binary32, of_bits, of_int, to_unsigned}
use Rattle.float.specs.Names.{f0, float}
use Rattle.picture.specs.declared.Rounding.TheVariants as rounding
use Rattle.fold.specs.Join.{join_upto}
use Rattle.picture.specs.Finish.{nearest, to_byte, pixel, finishing, done, refused}

-- 100.0, 0.875
abbrev pub f100 : Float
f100 = of_bits binary32 0x42c80000

abbrev pub seven_eighths : Float
seven_eighths = of_bits binary32 0x3f600000

-- "planes 0, 0, 100: 255, 56, 128"
pub red : pixel (to_byte rounding.Truncate) 3 1 (f0 ∷ f0 ∷ f100 ∷ []) 0 ≡ 255 ∷ 56 ∷ 128 ∷ []
unfolding pixel to_unsigned
red = refl

-- the nearest: "In the example of planes 0, 0, 100 green becomes 57"
pub red_nearest : pixel (to_byte rounding.Nearest) 3 1 (f0 ∷ f0 ∷ f100 ∷ []) 0 ≡ 255 ∷ 57 ∷ 128 ∷ []
unfolding pixel nearest
red_nearest = refl

-- "halves upward": 127.5 and 128.5, and the values next to 0.5
pub halves_upward : nearest (fin false 255 (negsuc 0)) ≡ 128
unfolding nearest
halves_upward = refl

pub not_to_even : nearest (fin false 257 (negsuc 0)) ≡ 129
unfolding nearest
not_to_even = refl

pub under_half : nearest (of_bits binary32 0x3effffff) ≡ 0
unfolding nearest of_bits
under_half = refl

pub half : nearest (of_bits binary32 0x3f000000) ≡ 1
unfolding nearest of_bits
half = refl

-- "One channel 0.875: 128"
pub grey_cut : pixel (to_byte rounding.Truncate) 1 1 (seven_eighths ∷ []) 0 ≡ 128 ∷ 128 ∷ 128 ∷ []
unfolding pixel to_unsigned
grey_cut = refl

-- "NaN gives 0"; infinities are clamped
pub no_number : pixel (to_byte rounding.Truncate) 1 1 (nan ∷ []) 0 ≡ 0 ∷ 0 ∷ 0 ∷ []
unfolding pixel to_unsigned
no_number = refl

pub no_number_nearest : pixel (to_byte rounding.Nearest) 1 1 (nan ∷ []) 0 ≡ 0 ∷ 0 ∷ 0 ∷ []
unfolding pixel nearest
no_number_nearest = refl

pub infinite : pixel (to_byte rounding.Truncate) 1 1 (inf false ∷ []) 0 ≡ 255 ∷ 255 ∷ 255 ∷ []
unfolding pixel to_unsigned
infinite = refl

-- the whole call, on 8 by 8 planes; the second picture is 2 by 2, of a plane whose value at place k is k
abbrev pub sevens : ℕ → List ℕ
sevens n = replicate n 7

pub whole_red : finishing rounding.Truncate 8 8 2 1 3 (replicate 128 f0 ++ replicate 64 f100) (sevens 6)
    ≡ record { answer = done; bytes = 255 ∷ 56 ∷ 128 ∷ 255 ∷ 56 ∷ 128 ∷ [] }
unfolding finishing
whole_red = refl

pub top_left : finishing rounding.Truncate 8 8 2 2 1 (join_upto (λ k. float k ∷ []) 64) (sevens 12)
    ≡ record { answer = done; bytes = 128 ∷ 128 ∷ 128 ∷ 129 ∷ 129 ∷ 129 ∷ 136 ∷ 136 ∷ 136 ∷ 137 ∷ 137 ∷ 137 ∷ [] }
unfolding finishing of_int
top_left = refl

-- 13 for a side, a picture side or a channel count, before 8 for a length; the bytes stay
pub bad_side : finishing rounding.Truncate 12 8 2 1 1 [] (sevens 6) ≡ record { answer = refused 13; bytes = sevens 6 }
unfolding finishing
bad_side = refl

pub too_wide : finishing rounding.Truncate 8 8 9 1 1 (replicate 64 f0) (sevens 27) ≡ record { answer = refused 13; bytes = sevens 27 }
unfolding finishing
too_wide = refl

pub two_channels : finishing rounding.Truncate 8 8 1 1 2 (replicate 128 f0) (sevens 3) ≡ record { answer = refused 13; bytes = sevens 3 }
unfolding finishing
two_channels = refl

pub short_planes : finishing rounding.Truncate 8 8 1 1 3 (replicate 64 f0) (sevens 3) ≡ record { answer = refused 8; bytes = sevens 3 }
unfolding finishing
short_planes = refl

pub long_bytes : finishing rounding.Truncate 8 8 1 1 1 (replicate 64 f0) (sevens 4) ≡ record { answer = refused 8; bytes = sevens 4 }
unfolding finishing
long_bytes = refl
