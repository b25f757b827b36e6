-- A refusal's line is one of the text's lines, or the one after: its number is small.
use Rattle.refusal.specs.declared.Refusal.{Refusal}
use Rattle.std.proofs.Common.{Some, None, Option, Ok, Err, Result}
use mathlib.Core.Bool.{Bool, true, false, cond}
use mathlib.Core.List.{List, [], ◌∷◌}
use Prim.Native.Nat.{ℕ, ◌+◌, ◌≤◌}
use native.Mathlib.Omega.{arith}
use lib.Dec.{eqb}
use lib.ListN.{length}
use Rattle.text.specs.Pieces.{split}
use Rattle.text.proofs.PieceLaws.{split_length}
use Rattle.contents.specs.declared.Limits.{Limits}
use Rattle.progress.specs.declared.State.{State}
use Rattle.lines.specs.Lines.{rules_of, holding, record_of}
use Rattle.contents.specs.Sheets.{Held, nothing}
use Rattle.progress.specs.Progress.{blank, line_tag}
use Rattle.sheet.specs.Reading.{Outcome, Contents, contents, taken_of, line_fault, nothing_left, on_fault, on_taken, read_from, allowed, read_text}
use Rattle.sheet.specs.Reading.Outcome.{Gives, Refused}

-- the line of a refusal is at most m
abbrev pub LineTo : ℕ → Outcome Contents → Type 0
LineTo m (Gives c) = Unit {0}
LineTo m (Refused k line) = line ≤ m

on-fault : (f : Option ℕ) (at m : ℕ) (x : Outcome Contents) → at ≤ m → LineTo m x → LineTo m (on_fault f at x)
on-fault None at m x h l = l
on-fault (Some k) at m x h l = h

on-taken : (t : Result State Refusal) (at m : ℕ) (f : State → Outcome Contents) → at ≤ m → ((s : State) → LineTo m (f s)) → LineTo m (on_taken t at f)
on-taken (Ok s) at m f h l = l s
on-taken (Err k) at m f h l = h

on_cond : (b : Bool) (m : ℕ) (x y : Outcome Contents) → LineTo m x → LineTo m y → LineTo m (cond b x y)
on_cond true m x y l k = l
on_cond false m x y l k = k

-- after E: a byte there is one more piece
ended : (rest : List (List ℕ)) (s : State) (H : Held) (at m : ℕ) → at + length rest ≤ m → LineTo m (cond (nothing_left rest) (contents s.sheet H) (Refused 7 (at + 1)))
ended [] s H at m h = tt
ended (p ∷ rest) s H at m h = on_cond (nothing_left (p ∷ rest)) m (contents s.sheet H) (Refused 7 (at + 1)) tt (omega arith)

from_line : (limits : Limits) (s : State) (H : Held) (at m : ℕ) (ps : List (List ℕ)) → at + length ps ≤ m → LineTo m (read_from limits s H at ps)
from_line limits s H at m [] h = omega arith
from_line limits s H at m (p ∷ rest) h =
    let fs = split 9 p in
    let tag = line_tag s fs in
    let rs = rules_of tag limits s.sheet.header fs in
    let E = cond (nothing_left rest) (contents s.sheet H) (Refused 7 (at + 1)) in
    let more = on_taken (taken_of s H.marks (record_of tag fs)) at (λ t. read_from limits t (holding H s.sheet tag rs fs) (at + 1) rest) in
    on-fault (line_fault rs p rest) at m (cond (eqb tag 69) E more) (omega arith)
    (on_cond (eqb tag 69) m E more (ended rest s H at m (omega arith))
    (on-taken (taken_of s H.marks (record_of tag fs)) at m (λ t. read_from limits t (holding H s.sheet tag rs fs) (at + 1) rest) (omega arith)
    (λ t. from_line limits t (holding H s.sheet tag rs fs) (at + 1) m rest (omega arith))))

pub line_bound : (limits : Limits) (text : List ℕ) → LineTo (length text + 2) (read_text limits text)
unfolding read_text
line_bound limits text =
    on_cond (allowed limits) (length text + 2) (read_from limits blank nothing 1 (split 10 text)) (Refused 2 0)
    (from_line limits blank nothing 1 (length text + 2) (split 10 text) (omega (arith, split_length 10 text))) (omega arith)
