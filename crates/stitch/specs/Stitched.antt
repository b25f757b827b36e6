-- Two sheets side by side. Document 02, M-107: "The output is one text whose full, own and picture widths are the sums, the left sheet's blocks first in
-- each row of blocks. `B` and `G` lines are copied as written." M-110: "Stitching keeps the marks of both sheets, the left's lines first, the right's block
-- columns moved by the left's number in that channel."
use Rattle.std.specs.Prelude.{ℕ, zero, suc, ◌+◌, ◌*◌, ◌/◌, List, [], ◌∷◌, ◌++◌, map, take, drop}
use Rattle.contents.specs.declared.Header.{Header}
use Rattle.contents.specs.declared.Channel.{Channel}
use Rattle.contents.specs.declared.Sheet.{Sheet}
use Rattle.contents.specs.declared.Mark.{Mark}
use Rattle.contents.specs.Sheets.{lent, Marked, marked, Held, held, channel_at, channels_of}
use Rattle.contents.specs.Marks.{blocks_in, block_of}

-- the left header with both widths summed
abbrev pub wider : Header → Header → Header
wider h k =
    record {
      width = h.width + k.width;
      height = h.height;
      picture_width = h.picture_width + k.picture_width;
      picture_height = h.picture_height;
      channels = h.channels;
      joint = h.joint;
      iterations = h.iterations;
      smoothing = h.smoothing;
      data_weights = h.data_weights;
    }

-- the left channel with the own width summed
abbrev pub besides : Channel → Channel → Channel
besides c d = record { width = c.width + d.width; height = c.height; across = c.across; down = c.down }

-- "the left sheet's lines are copied": all else is the left sheet's, its settings as they are written too
abbrev pub stitched_sheet : Sheet → Sheet → Sheet
stitched_sheet s t =
    record {
      header = wider s.header t.header;
      settings = s.settings;
      channels = besides (channel_at s 0) (channel_at t 0) ∷ besides (channel_at s 1) (channel_at t 1) ∷ besides (channel_at s 2) (channel_at t 2) ∷ [];
    }

-- a channel's rows of blocks, and the blocks in a row
abbrev pub rows_in : Channel → ℕ
rows_in c = c.height / 8

abbrev pub columns_in : Channel → ℕ
columns_in c = c.width / 8

module _ {A : Type 0} where
  -- n rows, in each a of the one list and then b of the other
  abbrev pub weave : ℕ → ℕ → ℕ → List A → List A → List A
  weave zero a b xs ys = []
  weave (suc n) a b xs ys = take a xs ++ (take b ys ++ weave n a b (drop a xs) (drop b ys))

  -- "the left sheet's blocks first in each row of blocks", channel after channel, with u values for each block
  abbrev pub woven : ℕ → List Channel → List Channel → List A → List A → List A
  woven u [] ds xs ys = []
  woven u (c ∷ cs) [] xs ys = []
  woven u (c ∷ cs) (d ∷ ds) xs ys =
      weave (rows_in c) (u * columns_in c) (u * columns_in d) xs ys ++ woven u cs ds (drop (u * blocks_in c) xs) (drop (u * blocks_in d) ys)

-- the levels and the kinds of the lines of both, the left's tables
abbrev pub woven_held : List Channel → List Channel → Held → Held → Held
woven_held cs ds h k =
    held (lent (woven 64 cs ds h.lent.lows k.lent.lows) (woven 64 cs ds h.lent.highs k.lent.highs) h.lent.tables)
    (woven 1 cs ds h.ranged k.ranged) []

-- a mark of the right sheet, moved by the blocks in a row of the left sheet's channel
abbrev pub moved_by : Sheet → Mark → Mark
moved_by s m = record { channel = m.channel; row = m.row; column = columns_in (channel_at s m.channel) + m.column }

-- the left's marks, then the right's, with the numbers of their blocks in both sheets side by side
abbrev pub stitched_marks : Sheet → Sheet → List Marked → List Marked → List Marked
stitched_marks s t ms ns =
    map (λ (m : Marked). marked m.at (block_of (stitched_sheet s t) m.at)) ms
    ++ map (λ (m : Marked). marked (moved_by s m.at) (block_of (stitched_sheet s t) (moved_by s m.at))) ns

-- what two sheets side by side hold
abbrev pub stitched_held : Sheet → Sheet → Held → Held → Held
stitched_held s t h k =
    let b = woven_held (channels_of s) (channels_of t) h k in held b.lent b.ranged (stitched_marks s t h.marks k.marks)
