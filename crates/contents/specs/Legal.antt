-- What holds of every sheet that is read: document 01's rules as facts. A theorem of the reader, `legal` of grammar/proofs/LegalLaws.antt.
use Rattle.std.specs.Prelude.{ℕ, ◌%◌, ◌≤◌, ◌<◌, ◌*◌, ◌≡◌, ℤ, pos, negsuc, List, [], ◌∷◌, ◌++◌, ◌⊎◌, Bool, true, false, length, take, drop}
use Rattle.contents.specs.declared.Weight.{Weight}
use Rattle.contents.specs.declared.Weight.TheVariants as weight
use Rattle.std.specs.Int.Signed.{le_z}
use Rattle.contents.specs.declared.Limits.{Limits}
use Rattle.contents.specs.declared.Header.{Header}
use Rattle.contents.specs.declared.Channel.{Channel}
use Rattle.contents.specs.declared.Sheet.{Sheet}
use Rattle.contents.specs.Hold.{iterations_at, LegalHold}
use Rattle.contents.specs.Sheets.{Lent, Marked, Held, no_channel, smoothing_at, data_at, channel_at, levels_to}
use Rattle.contents.specs.Marks.{block_of, has_block, among}

pub record Between (a b n : ℕ) : Type 0 where
  pub low : a ≤ n
  pub top : n ≤ b

-- a multiple of 8 from 8 to the most
pub record LegalSide (most n : ℕ) : Type 0 where
  pub whole : n % 8 ≡ 0
  pub low : 8 ≤ n
  pub top : n ≤ most

-- the bits of a finite f32 with no sign bit, or 0 to 255
abbrev pub LegalWeight : Weight → Type 0
LegalWeight (weight.Bits n) = n < 0x7f800000
LegalWeight (weight.Whole n) = n ≤ 255

-- −2,047 to 2,047; negsuc n is −(n + 1)
abbrev pub LegalLevel : ℤ → Type 0
LegalLevel (pos n) = n ≤ 2047
LegalLevel (negsuc n) = n ≤ 2046

-- What a caller may allow
pub record LegalLimits (limits : Limits) : Type 0 where
  pub side : LegalSide 512 limits.side
  pub iterations : limits.iterations ≤ 1000

pub record LegalHeader (limits : Limits) (h : Header) : Type 0 where
  pub width : LegalSide limits.side h.width
  pub height : LegalSide limits.side h.height
  pub shown_width : Between 1 h.width h.picture_width
  pub shown_height : Between 1 h.height h.picture_height
  pub channels : (h.channels ≡ 1) ⊎ (h.channels ≡ 3)
  pub three_iterations : length h.iterations ≡ 3
  pub three_smoothing : length h.smoothing ≡ 3
  pub three_data : length h.data_weights ≡ 3
  pub iterations : (c : ℕ) → iterations_at h c ≤ limits.iterations
  pub smoothing : (c : ℕ) → LegalWeight (smoothing_at h c)
  pub data_weights : (c : ℕ) → LegalWeight (data_at h c)

-- An own side is a side, and by its cover no larger than the full one
pub record LegalChannel (h : Header) (c : Channel) : Type 0 where
  pub width : LegalSide h.width c.width
  pub height : LegalSide h.height c.height
  pub across : Between 1 4 c.across
  pub down : Between 1 4 c.down
  pub wide : c.width * c.across ≤ h.width
  pub high : c.height * c.down ≤ h.height

abbrev pub LegalQuantisers : List ℕ → Type 0
LegalQuantisers [] = Unit {0}
LegalQuantisers (q ∷ qs) = Between 1 255 q × LegalQuantisers qs

abbrev pub LegalLevels : List ℤ → Type 0
LegalLevels [] = Unit {0}
LegalLevels (z ∷ zs) = LegalLevel z × LegalLevels zs

-- "14 "range", low above high" (M-105)
abbrev pub LegalRanges : List ℤ → List ℤ → Type 0
LegalRanges [] hs = Unit {0}
LegalRanges (l ∷ ls) [] = Unit {0}
LegalRanges (l ∷ ls) (h ∷ hs) = (le_z l h ≡ true) × LegalRanges ls hs

pub record LegalSheet (limits : Limits) (s : Sheet) (h : Lent) : Type 0 where
  pub limits_legal : LegalLimits limits
  pub header : LegalHeader limits s.header
  pub hold : LegalHold s.header s.settings.hold
  pub three_channels : length s.channels ≡ 3
  pub channel : (j : ℕ) → j < s.header.channels → LegalChannel s.header (channel_at s j)
  pub spare : (j : ℕ) → s.header.channels ≤ j → j < 3 → channel_at s j ≡ no_channel
  pub lows_count : length h.lows ≡ levels_to s s.header.channels
  pub highs_count : length h.highs ≡ levels_to s s.header.channels
  pub tables_count : length h.tables ≡ 64 * s.header.channels
  pub lows : LegalLevels h.lows
  pub highs : LegalLevels h.highs
  pub ranges : LegalRanges h.lows h.highs
  pub tables : LegalQuantisers h.tables

-- "a `B` level stands in both": where a block isn't ranged, its lows are its highs
abbrev pub LegalKinds : List Bool → List ℤ → List ℤ → Type 0
LegalKinds [] ls hs = Unit {0}
LegalKinds (r ∷ rs) ls hs = (r ≡ false → take 64 ls ≡ take 64 hs) × LegalKinds rs (drop 64 ls) (drop 64 hs)

-- Which lines its blocks may have: one kind for each block
pub record LegalBlocks (h : Held) : Type 0 where
  pub kinds_count : 64 * length h.ranged ≡ length h.lent.lows
  pub kinds : LegalKinds h.ranged h.lent.lows h.lent.highs

-- A mark after those before it: "channel or block absent or marked twice" is 18 (M-110)
pub record LegalMark (s : Sheet) (before : List Marked) (m : Marked) : Type 0 where
  pub block : m.block ≡ block_of s m.at
  pub has : has_block s m.at ≡ true
  pub once : among m.block before ≡ false

abbrev pub LegalMarks : Sheet → List Marked → List Marked → Type 0
LegalMarks s before [] = Unit {0}
LegalMarks s before (m ∷ ms) = LegalMark s before m × LegalMarks s (before ++ m ∷ []) ms
