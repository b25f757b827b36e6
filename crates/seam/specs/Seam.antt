-- Which sheets fit together. Document 02, M-107: "two sheet texts .. of equal full and own heights, channels, mode, settings, weights, iterations,
-- factors and tables. .. It also needs equal picture heights, each channel's w × across equal to W on both sides, and a left picture as wide as its W."
use Rattle.std.specs.Prelude.{ℕ, zero, suc, ◌*◌, List, [], ◌∷◌, Bool, true, false, not, ◌&&◌, eqb, zip, Option, Some, None}
use Rattle.std.specs.List.{list_all}
use Rattle.std.specs.Float.{binary32}
use Rattle.std.specs.Float.Ieee.{to_bits}
use Rattle.contents.specs.declared.Weight.{Weight}
use Rattle.contents.specs.declared.Letter.{Letter}
use Rattle.contents.specs.declared.Letter.TheVariants as letter
use Rattle.contents.specs.declared.Header.{Header}
use Rattle.contents.specs.declared.Settings.{Settings}
use Rattle.contents.specs.declared.Channel.{Channel}
use Rattle.contents.specs.declared.Sheet.{Sheet}
use Rattle.contents.specs.Weights.{value_of}
use Rattle.contents.specs.Hold.{hold_at}
use Rattle.contents.specs.Sheets.{channels_of}
use Rattle.sheet.specs.Reading.{Contents}

abbrev pub same : Bool → Bool → Bool
same true b = b
same false b = not b

abbrev pub same_numbers : List ℕ → List ℕ → Bool
same_numbers [] [] = true
same_numbers [] (y ∷ ys) = false
same_numbers (x ∷ xs) [] = false
same_numbers (x ∷ xs) (y ∷ ys) = eqb x y && same_numbers xs ys

-- "Weights compare by their bits": w1 and h3f800000 are equal
abbrev pub same_weight : Weight → Weight → Bool
same_weight a b = eqb (to_bits binary32 (value_of a)) (to_bits binary32 (value_of b))

-- place by place
abbrev pub same_weights : List Weight → List Weight → Bool
same_weights vs ws = list_all (λ (p : Weight × Weight). same_weight p.0 p.1) (zip vs ws)

-- full heights, channels, mode, picture heights, and a left picture as wide as its W
abbrev pub same_shape : Header → Header → Bool
same_shape h k =
    eqb h.height k.height
    && (eqb h.channels k.channels && (same h.joint k.joint && (eqb h.picture_height k.picture_height && eqb h.picture_width h.width)))

abbrev pub same_header : Header → Header → Bool
same_header h k = same_shape h k && (same_numbers h.iterations k.iterations && (same_weights h.smoothing k.smoothing && same_weights h.data_weights k.data_weights))

-- "settings by meaning, an absent line being its default": `t` and `m` are the defaults, n and o the other letters
abbrev pub second : Option Letter → Bool
second None = false
second (Some letter.First) = false
second (Some letter.Second) = true

abbrev pub same_letters : Settings → Settings → Bool
same_letters x y = same (second x.rounding) (second y.rounding) && same (second x.start) (second y.start)

-- M-108: "Stitching compares the counts of existing channels": of the first n
abbrev pub same_holds : ℕ → Sheet → Sheet → Bool
same_holds zero s t = true
same_holds (suc n) s t = same_holds n s t && eqb (hold_at s n) (hold_at t n)

-- own heights and factors, and w × across equal to the full widths w and v
abbrev pub same_channel : ℕ → ℕ → Channel → Channel → Bool
same_channel w v c d =
    eqb c.height d.height
    && (eqb c.across d.across && (eqb c.down d.down && (eqb (c.width * c.across) w && eqb (d.width * d.across) v)))

abbrev pub same_channels : ℕ → ℕ → List Channel → List Channel → Bool
same_channels w v cs ds = list_all (λ (p : Channel × Channel). same_channel w v p.0 p.1) (zip cs ds)

abbrev pub same_sheet : Sheet → Sheet → Bool
same_sheet s t =
    same_header s.header t.header
    && (same_letters s.settings t.settings
    && (same_holds s.header.channels s t && same_channels s.header.width t.header.width (channels_of s) (channels_of t)))

-- All needs are met; "16 "seam", any of those needs unmet"
unfoldable pub seam : Contents → Contents → Bool
unfolding to_bits value_of hold_at
seam c d = same_sheet c.sheet d.sheet && same_numbers c.held.lent.tables d.held.lent.tables
