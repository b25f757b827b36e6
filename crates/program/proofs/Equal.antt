-- What is printed is a function of the sheet, its lows, highs and tables, which `B` and `G` lines of equal pairs give alike.
use Prim.Native.Nat.{ℕ}
use mathlib.Core.Path.{◌≡◌, refl, sym, ap, ◌∙◌}
use mathlib.Core.List.{List}
use mathlib.Core.Bool.{Bool}
use Rattle.contents.specs.declared.Limits.{Limits}
use Rattle.contents.specs.declared.Sheet.{Sheet}
use Rattle.contents.specs.Sheets.{Lent, Marked, held}
use Rattle.sheet.specs.Reading.{contents}
use Rattle.grammar.proofs.CanonicalLaws.{equal_pairs}
use Rattle.program.specs.Printed.{says}
use Rattle.program.specs.Equal.{EqualShown}

same : (s : Sheet) (b : Lent) (one other : List Bool) (ms : List Marked) → says (contents s (held b other ms)) ≡ says (contents s (held b one ms))
unfolding says
same s b one other ms = refl

pub equal_shown : (limits : Limits) (text : List ℕ) (s : Sheet) (b : Lent) (one other : List Bool) (ms : List Marked) → EqualShown limits text s b one other ms
equal_shown limits text s b one other ms =
    record { shown = λ e k. ap says ((equal_pairs limits text s b one other ms).same e k) ∙ same s b one other ms ∙ sym (ap says e) }
