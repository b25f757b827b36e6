-- What is copied after the last block is the marks of both sheets, the right's moved, and the line `E`.
use Prim.Native.Nat.{ℕ, zero, suc, ◌+◌, ◌/◌, ◌%◌}
use mathlib.Core.Path.{◌≡◌, refl, sym, ap, ◌∙◌}
use mathlib.Core.List.{List, [], ◌∷◌, ◌++◌, map, append_assoc}
use mathlib.Core.Bool.{Bool, true, false, cond}
use native.Mathlib.Omega.{arith}
use lib.Dec.{ltb}
use lib.ListN.{length}
use lib.Seq.{take_at, drop_at}
use borrow.Author.Tests.{ne_eqb, ltb-true}
use Rattle.contents.specs.declared.Mark.{Mark}
use Rattle.contents.specs.declared.Sheet.{Sheet}
use Rattle.contents.specs.Sheets.{Marked, marked}
use Rattle.contents.specs.Marks.{block_of}
use Rattle.digits.specs.Written.{digits_of, decimal, joined, ended}
use Rattle.text.specs.Pieces.{split}
use Rattle.text.proofs.JoinLaws.{free, all_free, above_decimal, above_free, joined_free, split_joined}
use Rattle.lines.specs.Lines.{mark_of}
use Rattle.grammar.specs.Written.{mark_fields, mark_lines, end_fields}
use Rattle.grammar.proofs.RowLaws.{SmallMark, mark_back, mark_free}
use Rattle.grammar.proofs.RoundTrip.{free_both, free_marks}
use Rattle.copying.specs.Parts.{up_to, past, count_of}
use Rattle.copying.proofs.PartLaws.{up_zero, past_zero}
use Rattle.stitch.specs.Stitched.{stitched_sheet, moved_by, stitched_marks}
use Rattle.stitch.specs.Bytes.{front_mark, moved_line, moved_lines, last_text}
use Rattle.stitch.proofs.LineLaws.{up_line, past_line, up_lines, past_lines, ended_both, before_line}

-- How many lines `N` there are: each has that byte once, and the line `E` has none

count_both : (b : ℕ) (xs ys : List ℕ) → count_of b (xs ++ ys) ≡ count_of b xs + count_of b ys
count_both b [] ys = omega arith
count_both b (x ∷ xs) ys = let e = count_both b xs ys in omega arith

count_digits : (k n : ℕ) → count_of 78 (digits_of k n) ≡ 0
count_digits zero n = refl
count_digits (suc k) n = two (ltb n 10) refl (count_digits k (n / 10))
  where
    last : (d : ℕ) → (48 + d ≡ 78 → ⊥) → count_of 78 ((48 + d) ∷ []) ≡ 0
    last d h = rw (ne_eqb (48 + d) 78 h)

    two : (t : Bool) → ltb n 10 ≡ t → count_of 78 (digits_of k (n / 10)) ≡ 0 → count_of 78 (cond t ((48 + n) ∷ []) (digits_of k (n / 10) ++ (48 + n % 10) ∷ [])) ≡ 0
    two true q ih = last n (λ e. omega (arith, ltb-true n 10 q))
    two false q ih =
        let e = last (n % 10) (λ e. omega arith) in
        omega (arith, count_both 78 (digits_of k (n / 10)) ((48 + n % 10) ∷ []))

count_decimal : (n : ℕ) → count_of 78 (decimal n) ≡ 0
unfolding decimal
count_decimal n = count_digits 6 n

count-field : (n : ℕ) (r : List ℕ) → count_of 78 (decimal n ++ 9 ∷ r) ≡ count_of 78 r
count-field n r = count_both 78 (decimal n) (9 ∷ r) ∙ omega (arith, count_decimal n)

count_mark : (m : Mark) (r : List ℕ) → count_of 78 (joined (mark_fields m) ++ 10 ∷ r) ≡ suc (count_of 78 r)
count_mark m r =
    let d = decimal m.column in
    let e = count-field m.channel (decimal m.row ++ 9 ∷ d) in
    let f = count-field m.row d in
    let g = count_decimal m.column in
    let h : count_of 78 (joined (mark_fields m)) ≡ 1 = omega (arith, e, f, g) in
    count_both 78 (joined (mark_fields m)) (10 ∷ r) ∙ omega (arith, h)

abbrev end_line : List (List ℕ)
end_line = joined end_fields ∷ []

count_marks : (ms : List Marked) → count_of 78 (ended (mark_lines ms ++ end_line)) ≡ length (mark_lines ms)
count_marks [] = refl
count_marks (m ∷ ms) = count_mark m.at (ended (mark_lines ms ++ end_line)) ∙ ap suc (count_marks ms)

-- A mark's line

tab_free : (n : ℕ) → free 9 (decimal n) ≡ true
tab_free n = above_free 48 9 (decimal n) (omega arith) (above_decimal n)

module _ (m : Mark) (r : List ℕ) where
  apart : joined (mark_fields m) ++ 10 ∷ r ≡ 78 ∷ 9 ∷ (decimal m.channel ++ 9 ∷ (decimal m.row ++ 9 ∷ (decimal m.column ++ 10 ∷ r)))
  apart = simp append_assoc

  three_fields : up_to 9 3 (joined (mark_fields m) ++ 10 ∷ r) ≡ 78 ∷ 9 ∷ (decimal m.channel ++ 9 ∷ (decimal m.row ++ 9 ∷ []))
  three_fields =
      let c = decimal m.channel in
      let d = decimal m.row in
      let x = decimal m.column ++ 10 ∷ r in
      ap (λ (l : List ℕ). up_to 9 3 l) apart
      ∙ up_line 9 2 (78 ∷ []) (c ++ 9 ∷ (d ++ 9 ∷ x)) refl
      ∙ ap (λ (l : List ℕ). 78 ∷ 9 ∷ l) (up_line 9 1 c (d ++ 9 ∷ x) (tab_free m.channel))
      ∙ ap (λ (l : List ℕ). 78 ∷ 9 ∷ (c ++ 9 ∷ l)) (up_line 9 0 d x (tab_free m.row))
      ∙ ap (λ (l : List ℕ). 78 ∷ 9 ∷ (c ++ 9 ∷ (d ++ 9 ∷ l))) (up_zero 9 x)

  line_free : free 10 (joined (mark_fields m)) ≡ true
  line_free = joined_free (mark_fields m) (mark_free 10 (omega arith) m)

  mark_read : SmallMark m → front_mark (joined (mark_fields m) ++ 10 ∷ r) ≡ m
  unfolding front_mark
  mark_read g =
      ap (λ (l : List ℕ). mark_of (split 9 l)) (before_line 10 (joined (mark_fields m)) r line_free)
      ∙ ap mark_of (split_joined (mark_fields m) (omega arith) (mark_free 9 (omega arith) m))
      ∙ mark_back m g

  moved-line : (s : Sheet) → SmallMark m → moved_line s (joined (mark_fields m) ++ 10 ∷ r) ≡ joined (mark_fields (moved_by s m)) ++ 10 ∷ []
  unfolding moved_line
  moved-line s g =
      let c = decimal m.channel in
      let d = decimal m.row in
      let k = (moved_by s m).column in
      (λ i. three_fields i ++ (decimal (moved_by s (mark_read g i)).column ++ 10 ∷ [])) ∙ parts c d (decimal k)
    where
      parts : (c d x : List ℕ) → (78 ∷ 9 ∷ (c ++ 9 ∷ (d ++ 9 ∷ []))) ++ (x ++ 10 ∷ []) ≡ (78 ∷ 9 ∷ (c ++ 9 ∷ (d ++ 9 ∷ x))) ++ 10 ∷ []
      parts c d x = simp append_assoc

  past_mark : past 10 1 (joined (mark_fields m) ++ 10 ∷ r) ≡ r
  past_mark = past_line 10 0 (joined (mark_fields m)) r line_free ∙ past_zero 10 r

-- All marks

abbrev pub AllSmall : List Marked → Type 0
AllSmall [] = Unit {0}
AllSmall (m ∷ ms) = SmallMark m.at × AllSmall ms

-- the marks of the output, by what they hold of the left's and of the right's
abbrev pub kept : (Mark → Mark) → Sheet → List Marked → List Marked
kept f b ms = map (λ (m : Marked). marked (f m.at) (block_of b (f m.at))) ms

pub kept_both : (f : Mark → Mark) (b : Sheet) (ms ns : List Marked) → kept f b (ms ++ ns) ≡ kept f b ms ++ kept f b ns
kept_both f b [] ns = refl
kept_both f b (m ∷ ms) ns = ap (λ (l : List Marked). marked (f m.at) (block_of b (f m.at)) ∷ l) (kept_both f b ms ns)

moved-lines : (s b : Sheet) (R : List (List ℕ)) (ms : List Marked) → AllSmall ms → moved_lines s (length (mark_lines ms)) (ended (mark_lines ms ++ R)) ≡ ended (mark_lines (kept (moved_by s) b ms))
moved-lines s b R [] g = refl
moved-lines s b R (m ∷ ms) g =
    let r = ended (mark_lines ms ++ R) in
    let X = joined (mark_fields (moved_by s m.at)) in
    (λ i. moved-line m.at r s g.0 i ++ moved_lines s (length (mark_lines ms)) (past_mark m.at r i))
    ∙ ap (λ (l : List ℕ). (X ++ 10 ∷ []) ++ l) (moved-lines s b R ms g.1)
    ∙ append_assoc X (10 ∷ []) (ended (mark_lines (kept (moved_by s) b ms)))

kept_lines : (b : Sheet) (ms : List Marked) → mark_lines (kept (λ m. m) b ms) ≡ mark_lines ms
kept_lines b [] = refl
kept_lines b (m ∷ ms) = ap (λ (l : List (List ℕ)). joined (mark_fields m.at) ∷ l) (kept_lines b ms)

lines_both : (ms ns : List Marked) → mark_lines (ms ++ ns) ≡ mark_lines ms ++ mark_lines ns
lines_both [] ns = refl
lines_both (m ∷ ms) ns = ap (λ (l : List (List ℕ)). joined (mark_fields m.at) ∷ l) (lines_both ms ns)

pub last_free : (ms : List Marked) → all_free 10 (mark_lines ms ++ joined end_fields ∷ []) ≡ true
last_free ms = free_both (mark_lines ms) end_line (free_marks ms) refl

pub last_lines : (s t : Sheet) (ms ns : List Marked) → AllSmall ns
    → last_text s (ended (mark_lines ms ++ joined end_fields ∷ [])) (ended (mark_lines ns ++ joined end_fields ∷ [])) ≡ ended (mark_lines (stitched_marks s t ms ns) ++ joined end_fields ∷ [])
last_lines s t ms ns g =
    let b = stitched_sheet s t in
    let M = mark_lines ms in
    let N = mark_lines (kept (moved_by s) b ns) in
    let u : up_to 10 (count_of 78 (ended (M ++ end_line))) (ended (M ++ end_line)) ≡ ended M =
    ap (λ (n : ℕ). up_to 10 n (ended (M ++ end_line))) (count_marks ms) ∙ up_lines (length M) (M ++ end_line) (last_free ms) ∙ ap ended (take_at M end_line (length M) refl) in
    let p : past 10 (count_of 78 (ended (M ++ end_line))) (ended (M ++ end_line)) ≡ ended end_line =
    ap (λ (n : ℕ). past 10 n (ended (M ++ end_line))) (count_marks ms) ∙ past_lines (length M) (M ++ end_line) (last_free ms) ∙ ap ended (drop_at M end_line (length M) refl) in
    let v : moved_lines s (count_of 78 (ended (mark_lines ns ++ end_line))) (ended (mark_lines ns ++ end_line)) ≡ ended N =
    ap (λ (n : ℕ). moved_lines s n (ended (mark_lines ns ++ end_line))) (count_marks ns) ∙ moved-lines s b end_line ns g in
    (λ i. u i ++ (v i ++ up_to 10 1 (p i)))
    ∙ ap (λ (l : List ℕ). ended M ++ l) (sym (ended_both N end_line))
    ∙ sym (ended_both M (N ++ end_line))
    ∙ ap ended (sym (append_assoc M N end_line))
    ∙ (λ i. ended ((sym (kept_lines b ms) i ++ N) ++ end_line))
    ∙ ap (λ (l : List (List ℕ)). ended (l ++ end_line)) (sym (lines_both (kept (λ m. m) b ms) (kept (moved_by s) b ns)))
