-- What the caller's limit of iterations changes. Document 02, M-106: "The limit is a parameter of the reading and measuring
-- calls from 0 to 1,000." Theorems, `both_callers` and `raised` of proofs/PageLaws.antt.
use Rattle.std.specs.Prelude.{ℕ, ◌≡◌, List, ◌⊎◌}
use Rattle.contents.specs.declared.Limits.{Limits}
use Rattle.sheet.specs.Reading.{Contents, read_text}
use Rattle.sheet.specs.Reading.Outcome.{Gives, Refused}

-- "A sheet that both callers accept gives both the same planes": the same sheet, levels and tables, of which the planes are a
-- function. The limits may differ in their sides too.
pub record BothCallers (one other : Limits) (text : List ℕ) : Type 0 where
  pub same : (c d : Contents) → read_text one text ≡ Gives c → read_text other text ≡ Gives d → c ≡ d

-- a caller's limits, with this limit of iterations
abbrev pub raised_to : Limits → ℕ → Limits
raised_to limits most = record { side = limits.side; iterations = most }

-- A text at a limit, and at a larger one that a caller may set: `most` lies between the first and 1,000
pub record Raised (limits : Limits) (most : ℕ) (text : List ℕ) : Type 0 where
  -- it is 15, at the header's line, or nothing changes
  pub page : (read_text limits text ≡ Refused 15 1) ⊎ (read_text limits text ≡ read_text (raised_to limits most) text)
  -- so a text accepted at a limit is accepted at every larger one
  pub accepted : (c : Contents) → read_text limits text ≡ Gives c → read_text (raised_to limits most) text ≡ Gives c
  -- and a text refused by any number but 15 is refused at every larger limit by the same number and line
  pub refused : (k line : ℕ) → (k ≡ 15 → ⊥) → read_text limits text ≡ Refused k line → read_text (raised_to limits most) text ≡ Refused k line
