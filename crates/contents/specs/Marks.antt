-- Marked blocks, and what a partner sees (document 02, M-110).
use Rattle.std.specs.Prelude.{ℕ, suc, ◌+◌, ◌*◌, ◌/◌, ◌%◌, List, [], ◌∷◌, Bool, false, not, cond, ◌&&◌, ◌||◌, eqb, ltb, ℤ, pos}
use Rattle.contents.specs.declared.Channel.{Channel}
use Rattle.contents.specs.declared.Sheet.{Sheet}
use Rattle.contents.specs.declared.Mark.{Mark}
use Rattle.contents.specs.declared.Reader.{Reader}
use Rattle.contents.specs.declared.Reader.TheVariants as reader
use Rattle.contents.specs.Sheets.{Lent, lent, Marked, Held, channel_at}
use Rattle.contents.specs.Three.{of_three}

-- "w × h / 64" blocks of a channel; those of the channels before channel c, and of all
abbrev pub blocks_in : Channel → ℕ
blocks_in c = c.width * c.height / 64

abbrev pub blocks_before : Sheet → ℕ → ℕ
blocks_before s c = of_three c 0 (blocks_in (channel_at s 0)) (blocks_in (channel_at s 0) + blocks_in (channel_at s 1))

abbrev pub all_blocks : Sheet → ℕ
all_blocks s = blocks_in (channel_at s 0) + blocks_in (channel_at s 1) + blocks_in (channel_at s 2)

-- "channel, block row and block column (from 0)": the number of that block in the order of the text, "blocks .. row by row"
unfoldable pub block_of : Sheet → Mark → ℕ
block_of s m = blocks_before s m.channel + m.row * ((channel_at s m.channel).width / 8) + m.column

-- "channel or block absent" where this is false
unfoldable pub has_block : Sheet → Mark → Bool
has_block s m =
    ltb m.channel s.header.channels
    && (ltb m.row ((channel_at s m.channel).height / 8) && ltb m.column ((channel_at s m.channel).width / 8))

-- block b is among the marked ones
abbrev pub among : ℕ → List Marked → Bool
among b [] = false
among b (m ∷ ms) = eqb b m.block || among b ms

-- "63 zeros after the first level of a marked block": place i of a sheet's levels is not shown
abbrev pub hidden : List Marked → ℕ → Bool
hidden ms i = among (i / 64) ms && not (eqb (i % 64) 0)

-- the levels from place i on, as a partner gets them
abbrev pub hide : List Marked → ℕ → List ℤ → List ℤ
hide ms i [] = []
hide ms i (z ∷ zs) = cond (hidden ms i) (pos 0) z ∷ hide ms (suc i) zs

-- "The staff reader gets all levels; the partner reader gets the same but for 63 zeros after the first level of a marked block", "A marked
-- `G` block keeps its first pair, and the other pairs read as 0 and 0"
abbrev pub seen_by : Reader → Held → Lent
seen_by reader.Staff h = h.lent
seen_by reader.Partner h = lent (hide h.marks 0 h.lent.lows) (hide h.marks 0 h.lent.highs) h.lent.tables
