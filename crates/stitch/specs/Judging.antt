-- What judging both texts promises: the sheets where they fit, else the refusal.
use Rattle.std.specs.Prelude.{ℕ, ◌+◌, List, cond, ◌&&◌, leb, Result, Ok, Err}
use Rattle.contents.specs.declared.Sheet.{Sheet}
use Rattle.sheet.specs.Reading.{Outcome, Contents}
use Rattle.sheet.specs.Reading.Outcome.{Gives, Refused}
use Rattle.sheet.specs.declared.Outlined.{Outlined}
use Rattle.sheet.specs.Calls.{outline_in}
use Rattle.stitch.specs.declared.Fit.{Fit}
use Rattle.stitch.specs.Numbers.{Numbers}
use Rattle.seam.specs.Seam.{same_numbers, seam}
use Rattle.seam.specs.Used.{same_used}

-- a text's sheet and tables, or the refusal of the text that `which` names
abbrev pub outlining : ℕ → Outcome Contents → Result Outlined Numbers
outlining which (Gives c) = Ok (outline_in c)
outlining which (Refused k line) = Err (record { number = k; which = which; line = line })

-- a refusal of neither text
abbrev pub neither : ℕ → Numbers
neither k = record { number = k; which = 0; line = 0 }

-- two sheets that fit, or the refusal
abbrev pub judging : Outcome Contents → Outcome Contents → Result Fit Numbers
judging (Refused k line) r = Err (record { number = k; which = 1; line = line })
judging (Gives c) (Refused k line) = Err (record { number = k; which = 2; line = line })
judging (Gives c) (Gives d) =
    cond (seam c d)
    (cond (leb (c.sheet.header.width + d.sheet.header.width) 512) (Ok (record { left = c.sheet; right = d.sheet })) (Err (neither 2)))
    (Err (neither 16))

-- the same of two sheets and their tables, the tables in places of one number
abbrev pub fit_of : Sheet → Sheet → List ℕ → List ℕ → Result Fit Numbers
fit_of s t a b =
    cond (same_used s t && same_numbers a b)
    (cond (leb (s.header.width + t.header.width) 512) (Ok (record { left = s; right = t })) (Err (neither 2)))
    (Err (neither 16))
