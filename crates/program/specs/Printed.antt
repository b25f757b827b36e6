-- What the program `smooth` prints for a text (document 01, "Whole run and picture", last paragraph): demands 1 and 2 from end to end.
use Rattle.std.specs.Prelude.{ℕ, Option, suc, ◌+◌, ◌*◌, ◌≡◌, ◌≤◌, cond, List, [], ◌++◌, leb, length, Float}
use Rattle.contents.specs.declared.Limits.{Limits}
use Rattle.contents.specs.declared.Letter.{Letter}
use Rattle.contents.specs.Letters.{chosen}
use Rattle.contents.specs.declared.Header.{Header}
use Rattle.contents.specs.declared.Sheet.{Sheet}
use Rattle.contents.specs.Sheets.{Lent}
use Rattle.sheet.specs.Reading.{Outcome, Contents, read_text}
use Rattle.sheet.specs.Reading.Outcome.{Gives, Refused}
use Rattle.start.specs.Coef.{Levels, pairs}
use Rattle.fold.specs.Join.{join_upto}
use Rattle.fold.specs.Part.{part}
use Rattle.solve.specs.Solve.{iterations_at, steps_before, planes, blows, totals_of, clipped_at}
use Rattle.picture.specs.declared.Rounding.{Rounding}
use Rattle.picture.specs.declared.Rounding.TheVariants as rounding
use Rattle.picture.specs.Finish.{to_byte, picture}
use Rattle.copying.specs.declared.Writer.{Writer}
use Rattle.output.specs.Output.{picture_text, picture_room, refusal_text, totals_text, clipped_text, Adds}

-- "A line `F` with `t` or `n` may follow the `S` line; without it `t` holds" (M-100)
abbrev pub rounding_of : Option Letter → Rounding
rounding_of letter = chosen letter rounding.Truncate rounding.Nearest

-- the text of a header's picture of these planes, by a rounding
unfoldable pub painted : Rounding → Header → List Float → List ℕ
painted r h ps =
    let width = h.picture_width in
    let height = h.picture_height in
    picture_text width height (picture (to_byte r) h.width h.height width height h.channels ps)

-- The lines `T` of channel c's run alone, of all runs' totals (M-103).
abbrev pub run_lines : Sheet → List Float → ℕ → List ℕ
run_lines s totals c = totals_text c (iterations_at s c) (part totals (steps_before s c * 2) (steps_before s (suc c) * 2))

-- "channel of the run's start (0 in joint mode)", "run after run": in joint mode the one run's lines, in separate mode each channel's
unfoldable pub totals_lines : Sheet → List Float → List ℕ
totals_lines s totals =
    cond s.header.joint (totals_text 0 (iterations_at s 0) totals) (join_upto (run_lines s totals) s.header.channels)

-- "a line `K`, channel, number, channels rising" (M-104): of n channels, f having each one's number
unfoldable pub clipped_lines : ℕ → (ℕ → ℕ) → List ℕ
clipped_lines n f = join_upto (λ c. clipped_text c (f c)) n

-- the lines `T` of all runs, the lines `K` "between the `T` lines and `I`", and the picture
abbrev pub solved_text : Sheet → Levels → List ℕ → List ℕ
solved_text s levels tables =
    totals_lines s (totals_of s levels tables)
    ++ (clipped_lines s.header.channels (clipped_at s levels tables) ++ painted (rounding_of s.settings.rounding) s.header (planes s levels tables))

-- "A blown channel ends the program with 10"; "The line is 0 for 10"; "A sheet that ends with 10 prints no `T` line"
unfoldable pub sheet_text : Sheet → Levels → List ℕ → List ℕ
sheet_text s levels tables = cond (blows s levels tables) (refusal_text 10 0) (solved_text s levels tables)

-- the levels of what was read, "lows and highs" (M-105)
abbrev pub levels_of : Lent → Levels
levels_of b = pairs b.lows b.highs

-- "A refusal prints only `X`, number and line"
unfoldable pub says : Outcome Contents → List ℕ
says (Gives c) = sheet_text c.sheet (levels_of c.held.lent) c.held.lent.tables
says (Refused k line) = refusal_text k line

-- "W and H above 32 are 2 there"; "the batch program keeps 1,000" (M-106)
abbrev pub limits : Limits
limits = record { side = 32; iterations = 1000 }

unfoldable pub printed : List ℕ → List ℕ
printed text = says (read_text limits text)

-- No text that it prints takes more room: a picture of 32 by 32, after 1,000 lines `T` of at most 43 bytes for each of three runs, and three lines `K` of at
-- most 9 bytes, since no channel has more than 1,024 coefficients
abbrev pub most_picture : ℕ
most_picture = picture_room 32 32

abbrev pub most_totals : ℕ
most_totals = 3 * (1000 * 43)

abbrev pub most_printed : ℕ
most_printed = most_totals + (27 + most_picture)

-- what the functions ask of the room that they are lent: each of the six has (channels of the sheet) × W × H values
abbrev pub SixLong : Header → List Float → List Float → List Float → List Float → List Float → List Float → Type 0
SixLong h plane prior gradient across down saved =
    let n = h.channels * (h.width * h.height) in
    (length plane ≡ n) × (length prior ≡ n) × (length gradient ≡ n) × (length across ≡ n) × (length down ≡ n) × (length saved ≡ n)

-- a text of at most `most` bytes, written whole into a lent output from its place on
abbrev pub AddsTo : ℕ → Writer → List ℕ → Writer → Type 0
AddsTo most before text after = Adds before text after × (after.at ≤ before.at + most)
