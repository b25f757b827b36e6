-- The limit of iterations: it speaks in the header's line alone, and there by 15.
use Rattle.refusal.specs.declared.Refusal.{Refusal}
use Rattle.std.proofs.Common.{Some, None, Ok, Err, Option, Result}
use Rattle.refusal.specs.declared.Refusal.TheVariants as refusal
use Prim.Native.Nat.{ℕ, ◌+◌, ◌≤◌}
use mathlib.Core.Path.{◌≡◌, refl, sym, ap, ◌∙◌}
use mathlib.Core.List.{List, [], ◌∷◌, ◌++◌}
use mathlib.Core.Bool.{Bool, true, false, not, cond, ◌&&◌}
use mathlib.Core.Logic.{◌⊎◌, inl, inr}
use native.Mathlib.Nat.{le_trans}
use lib.ListN.{length, replicate}
use lib.Dec.{eqb, leb, ltb}
use borrow.Author.Tests.{leb-true, le-leb}
use Rattle.text.specs.declared.field.Rule.{Rule}
use Rattle.text.specs.declared.field.Rule.TheVariants as rule
use Rattle.text.specs.declared.field.Field.TheVariants as field
use Rattle.text.specs.Pieces.{split}
use Rattle.text.specs.Numbers.{number_of, number_at}
use Rattle.text.specs.Fields.{is_side, count_field, field_of, fault_in}
use Rattle.contents.specs.declared.Limits.{Limits}
use Rattle.contents.specs.Legal.{Between}
use Rattle.contents.specs.Sheets.{Marked, Held, nothing}
use Rattle.contents.specs.Marks.{block_of, among}
use Rattle.lines.specs.declared.Record.{Record}
use Rattle.lines.specs.declared.Record.TheVariants as line
use Rattle.progress.specs.declared.State.{State}
use Rattle.lines.specs.Lines.{mode, header_rules, rules_of, or_else, first_fault, fields_fault, holding, header_of, record_of}
use Rattle.progress.specs.Progress.{headed, blank, line_tag, opened, covers, exists, taken_if}
use Rattle.sheet.specs.Reading.{Outcome, Contents, contents, taken_of, is_last, line_fault, nothing_left, on_fault, on_taken, read_from, allowed, read_text}
use Rattle.sheet.specs.Reading.Outcome.{Gives, Refused}
use Rattle.grammar.specs.Page.{BothCallers, raised_to, Raised}
use Rattle.progress.proofs.StateLaws.{Stands, stands, unbegun, first_tag}
use Rattle.progress.proofs.StateLaws.Stands.{Header-line, Setting-line, Block-line, Channel-line, End-line, Mark-line}
use Rattle.progress.proofs.StateLaws.SettingTag.{F-tag, A-tag, H-tag}
use Rattle.progress.proofs.StateLaws.BlockTag.{B-tag, G-tag}
use Rattle.lines.proofs.GoodLines.{holds_none}
use Rattle.grammar.proofs.LegalLaws.{line-is, no_gives}

-- After the header

-- a line's rules know no limit
rules_later : (one other : Limits) (s : State) (fs : List (List ℕ)) → s.begun ≡ true → (tag : ℕ) → Stands s tag → rules_of tag one s.sheet.header fs ≡ rules_of tag other s.sheet.header fs
unfolding rules_of
rules_later one other s fs b tag (Header-line p o) = unbegun s b p
rules_later one other s fs b tag (Setting-line i p (F-tag n o)) = rw o
rules_later one other s fs b tag (Setting-line i p (A-tag n o)) = rw o
rules_later one other s fs b tag (Setting-line i p (H-tag n o)) = rw o
rules_later one other s fs b tag (Block-line r p l (B-tag n o)) = rw o
rules_later one other s fs b tag (Block-line r p l (G-tag n o)) = rw o
rules_later one other s fs b tag (Channel-line p l r o) = rw o
rules_later one other s fs b tag (End-line p l r o) = rw o
rules_later one other s fs b tag (Mark-line p l r o) = rw o

-- a header stays read
abbrev begun_in : Result State Refusal → Bool
begun_in (Ok t) = t.begun
begun_in (Err k) = true

begun_kept : (s : State) (ms : List Marked) (r : Record) → s.begun ≡ true → begun_in (taken_of s ms r) ≡ true
unfolding taken_if
begun_kept s ms (line.Header h) b = refl
begun_kept s ms (line.Channel c) b = two (covers s.sheet.header c)
  where
    two : (x : Bool) → begun_in (cond x (Ok (opened s c)) (Err refusal.Size)) ≡ true
    two true = refl
    two false = refl
begun_kept s ms (line.Setting x) b = b
begun_kept s ms line.Block b = b
begun_kept s ms (line.Mark m) b = two (exists s.sheet m && not (among (block_of s.sheet m) ms))
  where
    two : (x : Bool) → begun_in (cond x (Ok s) (Err refusal.Mark)) ≡ true
    two true = b
    two false = refl

taken_same : (r : Result State Refusal) → begun_in r ≡ true → (k : ℕ) (f g : State → Outcome Contents) → ((t : State) → t.begun ≡ true → f t ≡ g t) → on_taken r k f ≡ on_taken r k g
taken_same (Ok t) b k f g h = h t b
taken_same (Err j) b k f g h = refl

after_header : (one other : Limits) (ps : List (List ℕ)) (s : State) (H : Held) (k : ℕ) → s.begun ≡ true → read_from one s H k ps ≡ read_from other s H k ps
after_header one other [] s H k b = refl
after_header one other (p ∷ rest) s H k b =
    let fs = split 9 p in
    let tag = line_tag s fs in
    let rules = rules_of tag other s.sheet.header fs in
    ap
    (λ (rs : List Rule). on_fault (line_fault rs p rest) k
    (cond (eqb tag 69)
    (cond (nothing_left rest) (contents s.sheet H) (Refused 7 (k + 1)))
    (on_taken (taken_of s H.marks (record_of tag fs)) k (λ t. read_from one t (holding H s.sheet tag rs fs) (k + 1) rest))))
    (rules_later one other s fs b tag (stands s fs tag refl))
    ∙ ap
    (λ (o : Outcome Contents). on_fault (line_fault rules p rest) k (cond (eqb tag 69) (cond (nothing_left rest) (contents s.sheet H) (Refused 7 (k + 1))) o))
    (taken_same (taken_of s H.marks (record_of tag fs)) (begun_kept s H.marks (record_of tag fs) b) k
    (λ t. read_from one t (holding H s.sheet tag rules fs) (k + 1) rest)
    (λ t. read_from other t (holding H s.sheet tag rules fs) (k + 1) rest)
    (λ t c. after_header one other rest t (holding H s.sheet tag rules fs) (k + 1) c))

-- what the header's line leads to
abbrev begin : List ℕ → State
begin p = record { begun = true; sheet = headed (header_of (split 9 p)); read = 0; left = 0 }

first_line : (limits : Limits) (p : List ℕ) (rest : List (List ℕ))
    → read_from limits blank nothing 1 (p ∷ rest) ≡ on_fault (line_fault (header_rules limits (split 9 p)) p rest) 1 (read_from limits (begin p) nothing 2 rest)
unfolding rules_of taken_if record_of
first_line limits p rest =
    let fs = split 9 p in
    rw (first_tag fs, holds_none nothing blank.sheet 83 (header_rules limits fs) fs refl refl refl refl)

-- The same contents

read_on : (limits : Limits) (text : List ℕ) (C : Contents) → read_text limits text ≡ Gives C → read_from limits blank nothing 1 (split 10 text) ≡ Gives C
unfolding read_text
read_on limits text C e = two (allowed limits) e
  where
    two : (b : Bool) → cond b (read_from limits blank nothing 1 (split 10 text)) (Refused 2 0) ≡ Gives C → read_from limits blank nothing 1 (split 10 text) ≡ Gives C
    two true o = o
    two false o = no_gives 2 0 C o

same_from : (one other : Limits) (ps : List (List ℕ)) (C D : Contents)
    → read_from one blank nothing 1 ps ≡ Gives C → read_from other blank nothing 1 ps ≡ Gives D → Gives C ≡ Gives D
same_from one other [] C D e f = no_gives 7 1 C e
same_from one other (p ∷ rest) C D e f =
    let l = line-is (header_rules one (split 9 p)) 1 p rest (read_from one (begin p) nothing 2 rest) C (sym (first_line one p rest) ∙ e) in
    let m = line-is (header_rules other (split 9 p)) 1 p rest (read_from other (begin p) nothing 2 rest) D (sym (first_line other p rest) ∙ f) in
    sym l.more ∙ after_header one other rest (begin p) nothing 2 refl ∙ m.more

pub both_callers : (one other : Limits) (text : List ℕ) → BothCallers one other text
both_callers one other text =
    record { same = λ c d e f. let q = same_from one other (split 10 text) c d (read_on one text c e) (read_on other text d f) in let x : c ≡ d = cc in x }

-- A larger limit

-- the fault a of a field or line at a limit, and b at a larger one
abbrev Paged : Option ℕ → Option ℕ → Type 0
Paged a b = (a ≡ Some 15) ⊎ (a ≡ b)

or_paged : (a b c d : Option ℕ) → Paged a b → Paged c d → Paged (or_else a c) (or_else b d)
or_paged a b c d (inl e) h = inl (rw e)
or_paged None b c d (inr e) (inl f) = inl f
or_paged None b c d (inr e) (inr f) = inr (rw (← e) f)
or_paged (Some k) b c d (inr e) h = inr (rw (← e))

module _ (most more : ℕ) (h : most ≤ more) where
  count_paged : (f : List ℕ) → Paged (fault_in (field_of (rule.Count most) f)) (fault_in (field_of (rule.Count more) f))
  unfolding field_of
  count_paged f = by (number_of f)
    where
      two : (n : ℕ) (a b : Bool) → leb n 1000 ≡ a → leb n most ≡ b
          → Paged (fault_in (cond a (cond b (Ok field.Good) (Err refusal.Page)) (Err refusal.Size))) (fault_in (cond a (cond (leb n more) (Ok field.Good) (Err refusal.Page)) (Err refusal.Size)))
      two n false b p q = inr refl
      two n true false p q = inl refl
      two n true true p q = inr (rw (le-leb n more (le_trans (leb-true n most q) h)))

      by : (r : Option ℕ) → Paged (fault_in (count_field most r)) (fault_in (count_field more r))
      by (Some n) = two n (leb n 1000) (leb n most) refl refl
      by None = inr refl

  count_first : (rs qs : List Rule) → ((fs : List (List ℕ)) → Paged (first_fault rs fs) (first_fault qs fs)) → (fs : List (List ℕ))
      → Paged (first_fault (rule.Count most ∷ rs) fs) (first_fault (rule.Count more ∷ qs) fs)
  count_first rs qs k [] = inr refl
  count_first rs qs k (f ∷ fs) = or_paged _ _ (first_fault rs fs) (first_fault qs fs) (count_paged f) (k fs)

same_first : (before rs qs : List Rule) → ((fs : List (List ℕ)) → Paged (first_fault rs fs) (first_fault qs fs)) → (fs : List (List ℕ)) → Paged (first_fault (before ++ rs) fs) (first_fault (before ++ qs) fs)
same_first [] rs qs k fs = k fs
same_first (r ∷ before) rs qs k [] = inr refl
same_first (r ∷ before) rs qs k (f ∷ fs) =
    or_paged (fault_in (field_of r f)) (fault_in (field_of r f)) (first_fault (before ++ rs) fs) (first_fault (before ++ qs) fs) (inr refl) (same_first before rs qs k fs)

header_paged : (limits : Limits) (most : ℕ) → limits.iterations ≤ most → (fs : List (List ℕ)) → Paged (first_fault (header_rules limits fs) fs) (first_fault (header_rules (raised_to limits most) fs) fs)
header_paged limits most h fs =
    let side = rule.Side limits.side in
    let weights = replicate 6 rule.Weight in
    let a = rule.Count limits.iterations in
    let b = rule.Count most in
    same_first (rule.Tag 83 ∷ side ∷ side ∷ rule.Range refusal.Size 1 (number_at fs 1) ∷ rule.Range refusal.Size 1 (number_at fs 2) ∷ rule.Channels ∷ mode ∷ []) (a ∷ a ∷ a ∷ weights) (b ∷ b ∷ b ∷ weights)
    (count_first limits.iterations most h (a ∷ a ∷ weights) (b ∷ b ∷ weights)
    (count_first limits.iterations most h (a ∷ weights) (b ∷ weights)
    (count_first limits.iterations most h weights weights (λ fs. inr refl))))
    fs

line_paged : (limits : Limits) (most : ℕ) → limits.iterations ≤ most → (p : List ℕ) (rest : List (List ℕ))
    → Paged (line_fault (header_rules limits (split 9 p)) p rest) (line_fault (header_rules (raised_to limits most) (split 9 p)) p rest)
unfolding line_fault fields_fault
line_paged limits most h p rest = by (ltb 1024 (length p)) (is_last rest) (eqb (length (split 9 p)) 16)
  where
    a : Option ℕ
    a = first_fault (header_rules limits (split 9 p)) (split 9 p)

    b : Option ℕ
    b = first_fault (header_rules (raised_to limits most) (split 9 p)) (split 9 p)

    by : (u v w : Bool) → Paged (cond u (Some 1) (cond v (Some 7) (cond w a (Some 1)))) (cond u (Some 1) (cond v (Some 7) (cond w b (Some 1))))
    by true v w = inr refl
    by false true w = inr refl
    by false false false = inr refl
    by false false true = header_paged limits most h (split 9 p)

raised_from : (limits : Limits) (most : ℕ) → limits.iterations ≤ most → (ps : List (List ℕ))
    → (read_from limits blank nothing 1 ps ≡ Refused 15 1) ⊎ (read_from limits blank nothing 1 ps ≡ read_from (raised_to limits most) blank nothing 1 ps)
raised_from limits most h [] = inr refl
raised_from limits most h (p ∷ rest) = by (line_paged limits most h p rest)
  where
    wide : Limits
    wide = raised_to limits most

    same : read_from limits (begin p) nothing 2 rest ≡ read_from wide (begin p) nothing 2 rest
    same = after_header limits wide rest (begin p) nothing 2 refl

    by : Paged (line_fault (header_rules limits (split 9 p)) p rest) (line_fault (header_rules wide (split 9 p)) p rest)
        → (read_from limits blank nothing 1 (p ∷ rest) ≡ Refused 15 1) ⊎ (read_from limits blank nothing 1 (p ∷ rest) ≡ read_from wide blank nothing 1 (p ∷ rest))
    by (inl e) = inl (first_line limits p rest ∙ ap (λ (k : Option ℕ). on_fault k 1 (read_from limits (begin p) nothing 2 rest)) e)
    by (inr e) = inr (first_line limits p rest ∙ (λ i. on_fault (e i) 1 (same i)) ∙ sym (first_line wide p rest))

raised_page : (limits : Limits) (most : ℕ) (text : List ℕ) → limits.iterations ≤ most → most ≤ 1000
    → (read_text limits text ≡ Refused 15 1) ⊎ (read_text limits text ≡ read_text (raised_to limits most) text)
unfolding read_text
raised_page limits most text h k = rw (le-leb limits.iterations 1000 (le_trans h k), le-leb most 1000 k) (two (is_side 512 limits.side))
  where
    X : Outcome Contents
    X = read_from limits blank nothing 1 (split 10 text)

    Y : Outcome Contents
    Y = read_from (raised_to limits most) blank nothing 1 (split 10 text)

    two : (b : Bool) → (cond (b && true) X (Refused 2 0) ≡ Refused 15 1) ⊎ (cond (b && true) X (Refused 2 0) ≡ cond (b && true) Y (Refused 2 0))
    two true = raised_from limits most h (split 10 text)
    two false = inr refl

pub raised : (limits : Limits) (most : ℕ) (text : List ℕ) → Between limits.iterations 1000 most → Raised limits most text
raised limits most text b =
    let page = raised_page limits most text b.low b.top in
    record { page = page; accepted = λ c e. given c e page; refused = λ n line u e. other n line u e page }
  where
    A : Outcome Contents
    A = read_text limits text

    B : Outcome Contents
    B = read_text (raised_to limits most) text

    given : (c : Contents) → A ≡ Gives c → (A ≡ Refused 15 1) ⊎ (A ≡ B) → B ≡ Gives c
    given c e (inl f) = no_gives 15 1 c (sym f ∙ e)
    given c e (inr f) = sym f ∙ e

    other : (n line : ℕ) → (n ≡ 15 → ⊥) → A ≡ Refused n line → (A ≡ Refused 15 1) ⊎ (A ≡ B) → B ≡ Refused n line
    other n line u e (inl f) = let q = sym e ∙ f in let x : n ≡ 15 = cc in absurd (u x)
    other n line u e (inr f) = sym f ∙ e
