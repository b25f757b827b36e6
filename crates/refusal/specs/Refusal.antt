-- The table of refusals: "No. | Word | In plain words" of README.
use Rattle.std.specs.Prelude.{ℕ, ◌-◌, ◌≡◌, List, [], ◌∷◌, ◌++◌, get_or, codes, decimal, Result, Ok, Err, refl}
use Rattle.refusal.specs.declared.Refusal.{Refusal}
use Rattle.refusal.specs.declared.Refusal.TheVariants as refusal

-- a word's number in the table
abbrev pub number_of : Refusal → ℕ
number_of refusal.Form = 1
number_of refusal.Size = 2
number_of refusal.Factor = 3
number_of refusal.Table = 4
number_of refusal.Level = 5
number_of refusal.Weight = 6
number_of refusal.Cut = 7
number_of refusal.Length = 8
number_of refusal.Turn = 9
number_of refusal.Blown = 10
number_of refusal.Done = 11
number_of refusal.Channel = 12
number_of refusal.Record = 13
number_of refusal.Range = 14
number_of refusal.Page = 15
number_of refusal.Seam = 16
number_of refusal.Hold = 17
number_of refusal.Mark = 18
number_of refusal.Segment = 19
number_of refusal.Precision = 20

-- its word there
abbrev pub word_of : Refusal → List ℕ
word_of refusal.Form = codes "form"
word_of refusal.Size = codes "size"
word_of refusal.Factor = codes "factor"
word_of refusal.Table = codes "table"
word_of refusal.Level = codes "level"
word_of refusal.Weight = codes "weight"
word_of refusal.Cut = codes "cut"
word_of refusal.Length = codes "length"
word_of refusal.Turn = codes "turn"
word_of refusal.Blown = codes "blown"
word_of refusal.Done = codes "done"
word_of refusal.Channel = codes "channel"
word_of refusal.Record = codes "record"
word_of refusal.Range = codes "range"
word_of refusal.Page = codes "page"
word_of refusal.Seam = codes "seam"
word_of refusal.Hold = codes "hold"
word_of refusal.Mark = codes "mark"
word_of refusal.Segment = codes "segment"
word_of refusal.Precision = codes "precision"

-- what is printed of it: its number, and its word in brackets
abbrev pub shown : Refusal → List ℕ
shown r = codes "refusal " ++ (decimal (number_of r) ++ (codes " (" ++ (word_of r ++ codes ")")))

-- the number that a call answers: 0 where nothing is refused
abbrev pub answer_number : {A : Type 0} → Result A Refusal → ℕ
answer_number (Ok x) = 0
answer_number (Err r) = number_of r

-- ---- laws: the table's lines are numbered from 1, so that no two refusals have one number

-- the table's words, line after line
abbrev pub words : List Refusal
words = refusal.Form ∷ refusal.Size ∷ refusal.Factor ∷ refusal.Table ∷ refusal.Level ∷ refusal.Weight ∷ refusal.Cut ∷ refusal.Length ∷ refusal.Turn ∷ refusal.Blown ∷ refusal.Done ∷ refusal.Channel ∷ refusal.Record ∷ refusal.Range ∷ refusal.Page ∷ refusal.Seam ∷ refusal.Hold ∷ refusal.Mark ∷ refusal.Segment ∷ refusal.Precision ∷ []

pub number_of-line : (r : Refusal) → get_or words (number_of r - 1) refusal.Form ≡ r
number_of-line refusal.Form = refl
number_of-line refusal.Size = refl
number_of-line refusal.Factor = refl
number_of-line refusal.Table = refl
number_of-line refusal.Level = refl
number_of-line refusal.Weight = refl
number_of-line refusal.Cut = refl
number_of-line refusal.Length = refl
number_of-line refusal.Turn = refl
number_of-line refusal.Blown = refl
number_of-line refusal.Done = refl
number_of-line refusal.Channel = refl
number_of-line refusal.Record = refl
number_of-line refusal.Range = refl
number_of-line refusal.Page = refl
number_of-line refusal.Seam = refl
number_of-line refusal.Hold = refl
number_of-line refusal.Mark = refl
number_of-line refusal.Segment = refl
number_of-line refusal.Precision = refl
