-- Two callers of one sheet. Document 02, M-106: the review page "calls the solver with at most 50 iterations, while the batch program keeps
-- 1,000." A theorem, `both_shown` of proofs/Callers.antt.
use Rattle.std.specs.Prelude.{ℕ, ◌≡◌, List, Float}
use Rattle.contents.specs.declared.Limits.{Limits}
use Rattle.sheet.specs.Reading.{Contents, read_text}
use Rattle.solve.specs.Solve.{planes}
use Rattle.program.specs.Printed.{levels_of, says}

-- the solved planes of what was read
abbrev pub planes_of : Contents → List Float
planes_of c = planes c.sheet (levels_of c.held.lent) c.held.lent.tables

-- "A sheet that both callers accept gives both the same planes", and so the same text of a picture or of 10
pub record BothShown (one other : Limits) (text : List ℕ) (c d : Contents) : Type 0 where
  pub solved : planes_of c ≡ planes_of d
  pub shown : says (read_text one text) ≡ says (read_text other text)
