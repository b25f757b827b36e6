-- Callers that accept a text see the same picture, since they read the same sheet.
use Prim.Native.Nat.{ℕ}
use mathlib.Core.Path.{◌≡◌, sym, ap, ◌∙◌}
use mathlib.Core.List.{List}
use Rattle.contents.specs.declared.Limits.{Limits}
use Rattle.sheet.specs.Reading.{Contents, read_text}
use Rattle.sheet.specs.Reading.Outcome.{Gives}
use Rattle.grammar.proofs.PageLaws.{both_callers}
use Rattle.program.specs.Printed.{says}
use Rattle.program.specs.Callers.{planes_of, BothShown}

pub both_shown : (one other : Limits) (text : List ℕ) (c d : Contents) → read_text one text ≡ Gives c → read_text other text ≡ Gives d → BothShown one other text c d
both_shown one other text c d e f =
    let same = (both_callers one other text).same c d e f in
    record { solved = ap planes_of same; shown = ap says (e ∙ ap (λ (x : Contents). Gives x) same ∙ sym f) }
