-- Kept: the check finds none of these alone (scripts/answers tries each).
-- `output::put_picture` meets its contract.
use borrow.Author.Rules.{rules}
use mathlib.Core.Path.{◌≡◌, ap, ◌∙◌}
use Prim.Native.Nat.{ℕ, ◌+◌, ◌*◌, ◌≤◌, ◌<◌}
use native.Mathlib.Omega.{arith}
use Rattle.fold.proofs.Grid.{row_end}
use Rattle.output.specs.Output.{each, numbers_line, row_line, picture_text}
use Rattle.copying.proofs.PartLaws.{put_none, put_more, put_as}
use Rattle.output.proofs.Chunks.{row_as}
use Rattle.output.proofs.Lines.{lines_more, lines_done}
use Rattle.output.proofs.Sizes.{row_length, row_more, numbers_length, sides_length}
use Rattle.output.proofs.put_picture.Goals as goal

-- row y lies within the picture, and its line within the room
within : (y width height : ℕ) → y < height
    → (y * width + width ≤ height * width) × (y * (7 * width + 2) + (7 * width + 2) ≤ height * (7 * width + 2))
within y width height l = (row_end y height width l, row_end y height (7 * width + 2) l)

pub put_numbers-requires : goal.put_numbers-requires
put_numbers-requires c =
    omega (arith, numbers_length 73 c.args.width c.args.height, sides_length 73 c.args.width c.args.height c.requires.0 c.requires.1)

pub loop-y-init : goal.loop-y-init
unfolding each
loop-y-init c = record { at = omega arith; put = put_none _ }

pub put_row-requires : goal.put_row-requires
put_row-requires c =
    let w = within c.loop-y.y c.args.width c.args.height (omega arith) in
    -- where the rows begin: the first line has at most 10 bytes
    let f = sides_length 73 c.args.width c.args.height c.requires.0 c.requires.1 in
    search rules

pub loop-y-preserved : goal.loop-y-preserved
loop-y-preserved c =
    let a = c.args in
    let w = within c.loop-y.y a.width a.height (omega arith) in
    let m = row_more c.loop-y.y a.width in
    let p = put_as (row_as a.width (a.width * a.height) (c.loop-y.y * a.width) a.rgb.now _ (omega (arith, w.0)) (search rules) (omega (arith, m, w.0))) c.put_row.ensures in
    let n = p.next ∙ ap (λ (k : ℕ). c.loop-y.to.at + k) (row_length a.width a.rgb.now (c.loop-y.y * a.width)) in
    record { at = omega (arith, row_more c.loop-y.y (7 * a.width + 2), n); put = put_as (lines_more _ _) (put_more c.loop-y.invariant.put p) }

pub returns : goal.returns
unfolding picture_text
returns c =
    let e : c.loop-y.y ≡ c.args.height = omega arith in
    put_as (lines_done (numbers_line 73 c.args.width c.args.height) (λ i. row_line c.args.width c.args.rgb.now (i * c.args.width)) _ _ e)
    (put_more c.put_numbers.ensures c.loop-y.invariant.put)
