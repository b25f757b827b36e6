-- A whole sheet's text, and the empty one, printed by computation.
use Prim.Native.Nat.{ℕ}
use mathlib.Core.Path.{◌≡◌, refl, ap, ◌∙◌}
use mathlib.Core.List.{List, [], ◌∷◌, ◌++◌}
use mathlib.Core.Bool.{Bool, false, cond}
use lib.ListN.{replicate}
use lib.IntN.{ℤ, pos}
use lib.Count.{count_trailing_zeros}
use lib.Ieee.{Float, binary32, add, sub, mul, div, sum, round, units, odd, size, span, climb, of_bits, of_fields, neg, ne, eq, lt, of_int, to_unsigned}
use Rattle.fold.specs.Fold.{upto}
use Rattle.float.specs.Ops.{mul_add, product, clamp}
use Rattle.utils.specs.Blocks.{from_blocks}
use Rattle.utils.specs.Dct.{on_line, idct8, idct8x8}
use Rattle.utils.specs.Auxiliary.{upsample_pixels}
use Rattle.interval.specs.Interval.{dequantised, mid}
use Rattle.start.specs.Coef.{Levels, pairs, dequantise, image_block, image_data, init_dct_target}
use Rattle.start.specs.Auxiliary.{init_pixels, aux_init}
use Rattle.calls.specs.Jobs.{fixed, kept}
use Rattle.demand.specs.Solver.{coef_of}
use Rattle.contents.specs.declared.Weight.TheVariants as weight
use Rattle.text.specs.Numbers.{number_of, number_at}
use Rattle.text.specs.Weights.{bit_form, weight_of, weight_at}
use Rattle.text.specs.Levels.{level_of}
use Rattle.text.specs.Fields.{field_of}
use Rattle.digits.specs.Written.{decimal}
use Rattle.contents.specs.declared.Sheet.{Sheet}
use Rattle.lines.specs.Lines.{rules_of, fields_fault, header_of, channel_of, record_of}
use Rattle.contents.specs.Sheets.{lent, held, no_channel, no_settings}
use Rattle.progress.specs.Progress.{blank, line_tag, taken_if}
use Rattle.sheet.specs.Reading.{contents, line_fault, read_text}
use Rattle.rounds.specs.Whole.{run_blows, last, run_of}
use Rattle.solve.specs.Solve.{joint, alone, separately, whole_of, planes, blows, totals_of, clipped_at}
use Rattle.calls.specs.Buffers.{joined}
use Rattle.picture.specs.declared.Rounding.TheVariants as rounding
use Rattle.picture.specs.Finish as Finish
use Rattle.output.specs.Output as Output
use Rattle.output.specs.Output.{picture_text, refusal_text, totals_text, clipped_text}
use Rattle.program.specs.Examples.{bytes, whole_text, whole_answer, empty_answer}
use Rattle.program.specs.Printed.{limits, painted, totals_lines, clipped_lines, sheet_text, says, printed}

abbrev sheet : Sheet
sheet =
    record {
      header = record {
        width = 8;
        height = 8;
        picture_width = 2;
        picture_height = 1;
        channels = 1;
        joint = false;
        iterations = 0 ∷ 0 ∷ 0 ∷ [];
        smoothing = weight.Whole 0 ∷ weight.Whole 0 ∷ weight.Whole 0 ∷ [];
        data_weights = weight.Whole 0 ∷ weight.Whole 0 ∷ weight.Whole 0 ∷ [];
      };
      settings = no_settings;
      channels = record { width = 8; height = 8; across = 1; down = 1 } ∷ no_channel ∷ no_channel ∷ [];
    }

abbrev ones : List ℤ
ones = pos 1 ∷ replicate 63 (pos 0)

abbrev levels : Levels
levels = pairs ones ones

abbrev tables : List ℕ
tables = replicate 64 8

reads : read_text limits whole_text ≡ contents sheet (held (lent ones ones tables) (false ∷ []) [])
unfolding read_text blank line_tag taken_if record_of header_of channel_of line_fault fields_fault rules_of number_at weight_at number_of bit_form weight_of level_of field_of
reads = refl

-- N = 0: the unprojected start, "all 64 are v = 1 − 2⁻²⁴, not 1"
start : planes sheet levels tables ≡ replicate 64 (of_bits binary32 0x3f7fffff)
unfolding whole_of run_of separately last joined fixed coef_of joint alone aux_init init_pixels image_data image_block init_dct_target dequantise dequantised mid idct8x8 on_line idct8 from_blocks upsample_pixels upto count_trailing_zeros add sub mul div sum round units odd size span climb of_bits of_fields neg ne eq lt of_int mul_add product clamp
start = refl

unblown : blows sheet levels tables ≡ false
unfolding whole_of run_of separately run_blows alone
unblown = refl

-- no step, no line `T` (M-103)
untotalled : totals_lines sheet (totals_of sheet levels tables) ≡ []
unfolding totals_lines upto totals_text Output.each
untotalled = refl

-- "Without steps it is 0, and the whole example gains `K` tab `0` tab `0`" (M-104)
unclipped : clipped_lines 1 (clipped_at sheet levels tables) ≡ bytes "K\t0\t0\n"
unfolding clipped_lines upto whole_of separately alone kept clipped_text decimal
unclipped = refl

grey : painted rounding.Truncate sheet.header (replicate 64 (of_bits binary32 0x3f7fffff)) ≡ bytes "I\t2\t1\nR\t818181\t818181\n"
unfolding painted picture_text Output.each Finish.pixel upto to_unsigned
grey = refl

otherwise : (x : Bool) (one other : List ℕ) → x ≡ false → cond x one other ≡ other
otherwise x one other e = ap (λ (y : Bool). cond y one other) e

-- "`smooth` prints two lines, `I` tab `2` tab `1`, then `R` tab `818181` tab `818181`", after the line `K`
pub whole_example : printed whole_text ≡ whole_answer
unfolding printed says sheet_text
whole_example =
    let t = totals_lines sheet (totals_of sheet levels tables) in
    let k = clipped_lines 1 (clipped_at sheet levels tables) in
    ap says reads ∙ otherwise (blows sheet levels tables) _ (t ++ (k ++ painted rounding.Truncate sheet.header (planes sheet levels tables))) unblown
    ∙ ap (λ (ps : List Float). t ++ (k ++ painted rounding.Truncate sheet.header ps)) start ∙ (λ i. untotalled i ++ (unclipped i ++ grey i))

-- "For 7 it is the unended line, the one after the last when `E` is missing": no line at all
pub empty_text : printed [] ≡ empty_answer
unfolding printed says read_text blank line_tag taken_if record_of header_of channel_of line_fault fields_fault rules_of number_at weight_at number_of bit_form weight_of level_of field_of refusal_text decimal
empty_text = refl
