-- A sheet's channels, and what stands beside it: levels, tables and the kinds of its blocks.
use Rattle.std.specs.Prelude.{ℕ, zero, suc, ◌+◌, ◌*◌, List, [], ◌∷◌, Bool, false, take, ℤ, None}
use Rattle.contents.specs.declared.Header.{Header}
use Rattle.contents.specs.declared.Channel.{Channel}
use Rattle.contents.specs.declared.Sheet.{Sheet}
use Rattle.contents.specs.declared.Mark.{Mark}
use Rattle.contents.specs.declared.Weight.{Weight}
use Rattle.contents.specs.declared.Weight.TheVariants as weight
use Rattle.contents.specs.declared.Settings.{Settings}
use Rattle.contents.specs.Three.{three_at}

-- What goes to the lent buffers: the lowest and the highest level of each place, and the tables
pub record Lent : Type 0 where
  pub lows : List ℤ
  pub highs : List ℤ
  pub tables : List ℕ

abbrev pub lent : List ℤ → List ℤ → List ℕ → Lent
lent ls hs ts = record { lows = ls; highs = hs; tables = ts }

-- A mark, and the number of its block in the order of the text
pub record Marked : Type 0 where
  pub at : Mark
  pub block : ℕ

abbrev pub marked : Mark → ℕ → Marked
marked m b = record { at = m; block = b }

-- What a text holds beside its sheet: these, of each block whether its line was `G`, with 64 pairs, or `B`, with 64 levels, and the
-- marks in the order of their lines
pub record Held : Type 0 where
  pub lent : Lent
  pub ranged : List Bool
  pub marks : List Marked

abbrev pub held : Lent → List Bool → List Marked → Held
held b rs ms = record { lent = b; ranged = rs; marks = ms }

abbrev pub nothing : Held
nothing = held (lent [] [] []) [] []

-- no weight, no header, no settings, no channel
abbrev pub no_weight : Weight
no_weight = weight.Whole 0

abbrev pub no_header : Header
no_header =
    record {
      width = 0;
      height = 0;
      picture_width = 0;
      picture_height = 0;
      channels = 0;
      joint = false;
      iterations = 0 ∷ 0 ∷ 0 ∷ [];
      smoothing = no_weight ∷ no_weight ∷ no_weight ∷ [];
      data_weights = no_weight ∷ no_weight ∷ no_weight ∷ [];
    }

abbrev pub no_settings : Settings
no_settings = record { rounding = None; start = None; hold = None }

abbrev pub no_channel : Channel
no_channel = record { width = 0; height = 0; across = 0; down = 0 }

-- the smoothing weight and the data weight at a channel's place
abbrev pub smoothing_at : Header → ℕ → Weight
smoothing_at h c = three_at no_weight c h.smoothing

abbrev pub data_at : Header → ℕ → Weight
data_at h c = three_at no_weight c h.data_weights

-- channel j of a sheet
abbrev pub channel_at : Sheet → ℕ → Channel
channel_at s j = three_at no_channel j s.channels

-- the levels of the first j channels
abbrev pub levels_to : Sheet → ℕ → ℕ
levels_to s zero = 0
levels_to s (suc j) = levels_to s j + (channel_at s j).width * (channel_at s j).height

-- the channels in use
abbrev pub channels_of : Sheet → List Channel
channels_of s = take s.header.channels s.channels
