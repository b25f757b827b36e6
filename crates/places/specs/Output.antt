-- What holds of every output of stitching. Theorems, `stitched` of proofs/OutputLaws.antt and `either_order` of proofs/ThreeTextLaws.antt.
use Rattle.std.specs.Prelude.{ℕ, ◌-◌, ◌*◌, ◌≡◌, Bool, true, false, List, ltb, ℤ, take, drop}
use Rattle.contents.specs.declared.Mark.{Mark}
use Rattle.contents.specs.declared.Reader.{Reader}
use Rattle.contents.specs.declared.Sheet.{Sheet}
use Rattle.contents.specs.Sheets.{channel_at}
use Rattle.contents.specs.Marks.{block_of, has_block, seen_by}
use Rattle.sheet.specs.Reading.{Contents, read_text}
use Rattle.sheet.specs.Reading.Outcome.{Gives}
use Rattle.stitch.specs.Stitched.{stitched_sheet, columns_in}
use Rattle.stitch.specs.Calls.{whole, stitching}
use Rattle.stitch.specs.Calls.Stitch.{Text}

-- the 64 levels of the block at a place: channel, block row and block column
abbrev pub block_at : Sheet → Mark → List ℤ → List ℤ
block_at s m ls = take 64 (drop (64 * block_of s m) ls)

-- a reader gets the same of the block m of the one text as of the block n of the other
pub record SameBlock (who : Reader) (o : Contents) (m : Mark) (c : Contents) (n : Mark) : Type 0 where
  pub there : has_block c.sheet n ≡ true
  pub lows : block_at o.sheet m (seen_by who o.held).lows ≡ block_at c.sheet n (seen_by who c.held).lows
  pub highs : block_at o.sheet m (seen_by who o.held).highs ≡ block_at c.sheet n (seen_by who c.held).highs

-- its place in the right sheet
abbrev pub back_by : Sheet → Mark → Mark
back_by s m = record { channel = m.channel; row = m.row; column = m.column - columns_in (channel_at s m.channel) }

-- the block is the left text's where its column is below the left sheet's, else the right text's
abbrev pub From : Bool → Reader → Contents → Mark → Contents → Contents → Type 0
From true who o m c d = SameBlock who o m c m
From false who o m c d = SameBlock who o m d (back_by c.sheet m)

-- "Reading the output gives exactly the two sheets' blocks at their places", to either reader
pub record Stitched (left right text : List ℕ) : Type 0 where
  pub one : Contents
  pub other : Contents
  pub both : Contents
  pub left_reads : read_text whole left ≡ Gives one
  pub right_reads : read_text whole right ≡ Gives other
  pub reads : read_text whole text ≡ Gives both
  pub sheet : both.sheet ≡ stitched_sheet one.sheet other.sheet
  pub tables : both.held.lent.tables ≡ one.held.lent.tables
  pub blocks : (who : Reader) (m : Mark) → has_block both.sheet m ≡ true → From (ltb m.column (columns_in (channel_at one.sheet m.channel))) who both m one other

-- Three sheets in either order: where a and b make ab, and b and c make bc, ab with c gives what a with bc gives, the same text or the same refusal (2, where the three are too wide)
pub record EitherOrder (a b c ab bc : List ℕ) : Type 0 where
  pub same : stitching a b ≡ Text ab → stitching b c ≡ Text bc → stitching ab c ≡ stitching a bc
