-- A walk over a text: what is left to read, read after what was read, gives the whole answer.
use Rattle.std.proofs.Common.{Some, None, Ok, Err, Result}
use Rattle.refusal.specs.declared.Refusal.{Refusal}
use Rattle.refusal.specs.declared.Refusal.TheVariants as refusal
use Rattle.refusal.specs.Refusal as table
use Prim.Native.Nat.{ℕ, zero, suc, ◌+◌, ◌-◌, ◌^◌, ◌<◌, ◌≤◌}
use mathlib.Core.Path.{◌≡◌, refl, sym, ap, ◌∙◌}
use mathlib.Core.List.{List, [], ◌∷◌, ◌++◌, append-nil}
use mathlib.Core.Bool.{Bool, true, false, not, cond, ◌&&◌, ◌||◌}
use native.Mathlib.Numerals.{add-one}
use native.Mathlib.Nat.{zero-add}
use native.Mathlib.Omega.{arith}
use lib.ListN.{length, get_or, drop, take, set, replicate, length-replicate, length-set, length-append, length-drop, drop_of_length-le}
use lib.Seq.{drop-cons, sets, get_or-set_same, get_or-set_other}
use lib.Dec.{eqb}
use lib.IntN.{ℤ}
use borrow.Author.Tests.{eq-eqb, ne_eqb, lt-ltb, le-ltb, eqb-true, eqb-false}
use Rattle.text.specs.declared.field.Rule.{Rule}
use Rattle.text.specs.declared.field.Rule.TheVariants as rule
use Rattle.text.specs.declared.field.Field.{Field}
use Rattle.text.specs.declared.field.Field.TheVariants as field
use Rattle.text.specs.declared.pieces.Line.{Line}
use Rattle.text.specs.Pieces.{split, before, onto}
use Rattle.text.specs.Cursor.{AtField, IsLine}
use Rattle.text.specs.Fields.{field_of, lows_in, highs_in, tables_in}
use Rattle.text.proofs.PieceLaws.{at_start, at_here, at_next, at-end, before_le, before_take, rest_whole, split_cut, split_whole, split_first, split_some, split_length}
use Rattle.contents.specs.declared.Limits.{Limits}
use Rattle.contents.specs.declared.Header.{Header}
use Rattle.contents.specs.declared.Channel.{Channel}
use Rattle.contents.specs.declared.Mark.{Mark}
use Rattle.contents.specs.declared.Sheet.{Sheet}
use Rattle.lines.specs.declared.Setting.{Setting}
use Rattle.lines.specs.declared.Setting.TheVariants as setting
use Rattle.lines.specs.declared.Record.TheVariants as line
use Rattle.lines.specs.declared.Record.{Record}
use Rattle.progress.specs.declared.State.{State}
use Rattle.sheet.specs.declared.walk.Walked.{Walked}
use Rattle.sheet.specs.declared.walk.Refused as walk
use Rattle.lines.specs.Lines.{header_rules, rounding_rules, start_rules, hold_rules, mark_rules, mark_of, marks_in, channel_rules, block_rules, range_rules, end_rules, rules_of, field_count, first_fault, fields_fault, line_adds, holding, header_of, channel_of, letter_in, hold_of, record_of}
use Rattle.contents.specs.Sheets.{Lent, lent, Marked, marked, Held, nothing}
use Rattle.contents.specs.Marks.{block_of, among}
use Rattle.progress.specs.Progress.{blank, line_tag, most_blocks, exists, taken_if}
use Rattle.sheet.specs.Reading.{Outcome, Contents, contents, taken_of, is_last, nothing_left, on_taken, line_fault, read_from, allowed, read_text}
use Rattle.sheet.specs.Reading.Outcome.{Refused}
use Rattle.lines.specs.Said.{said_before}
use Rattle.progress.specs.Taking.{twice_in, marked_in}
use Rattle.storing.specs.Stored.{Stored}
use Rattle.sheet.specs.Walk.{Bits, Walks}
use Rattle.progress.proofs.StateLaws.{exists_within}
use Rattle.lines.proofs.GoodLines.{lows_without, highs_without, tables_without}

-- Stores one after the other

sets_more : {A : Type 0} (l : List A) (i : ℕ) (us vs : List A) → sets (sets l i us) (i + length us) vs ≡ sets l i (us ++ vs)
sets_more l i [] vs = let e : i + 0 ≡ i = omega arith in rw e
sets_more l i (a ∷ us) vs =
    let e : i + suc (length us) ≡ suc i + length us = omega arith in
    rw e (sets_more (set l i a) (suc i) us vs)

-- What is left to store, after what was stored
record Storing {A : Type 0} (l₀ : List A) (n₀ : ℕ) (l : List A) (n : ℕ) (left all : List A) : Type 0 where
  place : n + length left ≡ n₀ + length all
  value : sets l n left ≡ sets l₀ n₀ all

storing_more : {A : Type 0} {l₀ : List A} {n₀ : ℕ} {l : List A} {n : ℕ} {all : List A} (vs left : List A) {l' : List A} {n' : ℕ}
    → Storing l₀ n₀ l n (vs ++ left) all → Stored l l' n n' vs → Storing l₀ n₀ l' n' left all
storing_more {l = l} {n = n} vs left s d =
    record {
      place = omega (arith, s.place, d.next, length-append vs left);
      value = rw (d.next, d.last) (sets_more l n vs left ∙ s.value);
    }

storing_end : {A : Type 0} {l₀ : List A} {n₀ : ℕ} {l : List A} {n : ℕ} {all : List A} → Storing l₀ n₀ l n [] all → Stored l₀ l n₀ n all
storing_end s = record { next = omega (arith, s.place); last = s.value }

stored_both : {A : Type 0} {l₀ l l' : List A} {n n' : ℕ} {us vs : List A} → Stored l₀ l 0 n us → Stored l l' n n' vs → Stored l₀ l' 0 n' (us ++ vs)
stored_both {l₀ = l₀} {us = us} {vs} d e =
    record {
      next = omega (arith, d.next, e.next, length-append us vs);
      last = e.last ∙ rw (d.last, d.next) (sets_more l₀ 0 us vs);
    }

stored_end : {A : Type 0} {l₀ l l' : List A} {n n' : ℕ} {us : List A} → Stored l₀ l 0 n us → Stored l l' n n' [] → Stored l₀ l' 0 n' us
stored_end d e = record { next = omega (arith, d.next, e.next); last = e.last ∙ d.last }

-- The fields of one line

pub rules_length : (t : ℕ) (limits : Limits) (top : Header) (fs : List (List ℕ)) → length (rules_of t limits top fs) ≡ field_count t
unfolding rules_of field_count
rules_length t limits top fs = eight (eqb t 66) (eqb t 71) (eqb t 67) (eqb t 83) (eqb t 70) (eqb t 65) (eqb t 72) (eqb t 78)
  where
    eight : (a b c d e f g h : Bool)
        → length (cond a block_rules (cond b (range_rules fs) (cond c channel_rules (cond d (header_rules limits fs) (cond e rounding_rules (cond f start_rules (cond g (hold_rules top) (cond h mark_rules end_rules))))))))
        ≡ cond a 65 (cond b 129 (cond c 69 (cond d 16 (cond e 2 (cond f 2 (cond g 4 (cond h 4 1)))))))
    eight true b c d e f g h = refl
    eight false true c d e f g h = refl
    eight false false true d e f g h = refl
    eight false false false true e f g h = refl
    eight false false false false true f g h = refl
    eight false false false false false true g h = refl
    eight false false false false false false true h = refl
    eight false false false false false false false true = refl
    eight false false false false false false false false = refl

-- E adds nothing
module _ (t : ℕ) (limits : Limits) (top : Header) (fs : List (List ℕ)) (e : t ≡ 69) where
  end_lows : line_adds lows_in (rules_of t limits top fs) fs ≡ []
  unfolding rules_of
  end_lows = rw e (lows_without end_rules fs refl)

  end_highs : line_adds highs_in (rules_of t limits top fs) fs ≡ []
  unfolding rules_of
  end_highs = rw e (highs_without end_rules fs refl)

  end_tables : line_adds tables_in (rules_of t limits top fs) fs ≡ []
  unfolding rules_of
  end_tables = rw e (tables_without end_rules fs refl)

-- the next places of the lent buffers
pub record Places : Type 0 where
  pub lows : ℕ
  pub highs : ℕ
  pub tables : ℕ

abbrev pub places : ℕ → ℕ → ℕ → Places
places n h m = record { lows = n; highs = h; tables = m }

-- the fields of a row by the rules rs, from field i on, after those before it
pub record Checking (rs : List Rule) (row : List ℕ) (count : ℕ) (into : Lent) (from : Places) (after : Lent) (next : Places) (i a : ℕ) (last : Field) : Type 0 where
  upto : i ≤ count
  field : i < count → AtField row i a
  pub said : Ok last ≡ said_before rs (split 9 row) i
  fault : first_fault (drop i rs) (drop i (split 9 row)) ≡ first_fault rs (split 9 row)
  lows : Storing into.lows from.lows after.lows next.lows (line_adds lows_in (drop i rs) (drop i (split 9 row))) (line_adds lows_in rs (split 9 row))
  highs : Storing into.highs from.highs after.highs next.highs (line_adds highs_in (drop i rs) (drop i (split 9 row))) (line_adds highs_in rs (split 9 row))
  tables : Storing into.tables from.tables after.tables next.tables (line_adds tables_in (drop i rs) (drop i (split 9 row))) (line_adds tables_in rs (split 9 row))
  pub low_most : next.lows ≤ from.lows + i
  pub high_most : next.highs ≤ from.highs + i
  pub listed_most : next.tables ≤ from.tables + i

pub check_begin : (rs : List Rule) (row : List ℕ) (count : ℕ) (into : Lent) (from : Places) → Checking rs row count into from into from 0 0 field.Good
check_begin rs row count into from =
    record {
      upto = omega arith;
      field = λ _. at_start row;
      said = refl;
      fault = refl;
      lows = record { place = refl; value = refl };
      highs = record { place = refl; value = refl };
      tables = record { place = refl; value = refl };
      low_most = omega arith;
      high_most = omega arith;
      listed_most = omega arith;
    }

few_lows : (f : Result Field Refusal) → length (lows_in f) ≤ 1
few_lows (Err k) = omega arith
few_lows (Ok (field.Quantiser q)) = omega arith
few_lows (Ok (field.Level z)) = omega arith
few_lows (Ok (field.Low z)) = omega arith
few_lows (Ok (field.High z)) = omega arith
few_lows (Ok field.Good) = omega arith

few_highs : (f : Result Field Refusal) → length (highs_in f) ≤ 1
few_highs (Err k) = omega arith
few_highs (Ok (field.Quantiser q)) = omega arith
few_highs (Ok (field.Level z)) = omega arith
few_highs (Ok (field.Low z)) = omega arith
few_highs (Ok (field.High z)) = omega arith
few_highs (Ok field.Good) = omega arith

few_tables : (f : Result Field Refusal) → length (tables_in f) ≤ 1
few_tables (Err k) = omega arith
few_tables (Ok (field.Quantiser q)) = omega arith
few_tables (Ok (field.Level z)) = omega arith
few_tables (Ok (field.Low z)) = omega arith
few_tables (Ok (field.High z)) = omega arith
few_tables (Ok field.Good) = omega arith

module _ {rs : List Rule} {row : List ℕ} {count : ℕ} {into : Lent} {from : Places} {after : Lent} {next : Places} {i a : ℕ} {last : Field}
    (s : Checking rs row count into from after next i a last) where
  module _ (h : i < count) where
    pub check_at : a ≤ length row
    check_at = (s.field h).inside

    -- the field as a slice
    module _ {x : List ℕ} (p : x ≡ before 9 (take (length row - a) (drop a row))) where
      whole : x ≡ before 9 (drop a row)
      whole = p ∙ ap (before 9) (rest_whole a row)

      pub field_end : a + length x ≡ a + length (before 9 (drop a row))
      field_end = ap (λ (l : List ℕ). a + length l) whole

      pub field_read : (r : Rule) {f : Result Field Refusal} → f ≡ field_of r x → f ≡ field_of r (take ((a + length x) - a) (drop a row))
      field_read r d = let w : (a + length x) - a ≡ length (before 9 (drop a row)) = omega (arith, field_end) in rw w (d ∙ ap (field_of r) (whole ∙ sym (before_take 9 (drop a row))))

    module _ {e : ℕ} (p : e ≡ a + length (before 9 (drop a row))) where
      pub check_in : e ≤ length row
      check_in = omega (arith, at-end (s.field h))

      module _ (cr : length rs ≡ count) (cf : length (split 9 row) ≡ count)
          {r : Rule} (q : r ≡ get_or rs i (rule.Tag 0)) {f : Result Field Refusal} (d : f ≡ field_of r (take (e - a) (drop a row))) where
        here : f ≡ field_of (get_or rs i (rule.Tag 0)) (get_or (split 9 row) i [])
        here =
            let b = length (before 9 (drop a row)) in
            let w : (a + b) - a ≡ b = omega arith in
            d ∙ rw (q, p, w, at_here (s.field h))

        rs_next : drop i rs ≡ get_or rs i (rule.Tag 0) ∷ drop (i + 1) rs
        rs_next = rw (add-one i) (drop-cons rs i (rule.Tag 0) (omega arith))

        fs_next : drop i (split 9 row) ≡ get_or (split 9 row) i [] ∷ drop (i + 1) (split 9 row)
        fs_next = rw (add-one i) (drop-cons (split 9 row) i [] (omega arith))

        pub check_bad : (k : Refusal) → f ≡ Err k → first_fault rs (split 9 row) ≡ Some (table.number_of k)
        check_bad k z = sym s.fault ∙ rw (rs_next, fs_next, sym here, z)

        pub check_step : (x : Field) → f ≡ Ok x → {l' : List ℤ} {n' : ℕ} → Stored after.lows l' next.lows n' (lows_in (Ok x)) → {h' : List ℤ} {k' : ℕ} → Stored after.highs h' next.highs k' (highs_in (Ok x))
            → {t' : List ℕ} {m' : ℕ} → Stored after.tables t' next.tables m' (tables_in (Ok x)) → Checking rs row count into from (lent l' h' t') (places n' k' m') (i + 1) (e + 1) x
        check_step x z u w v =
            record {
              upto = omega arith;
              field = λ g. rw p (at_next (s.field h) (omega arith));
              said = rw (add-one i) (sym z ∙ here);
              fault = sym (rw (rs_next, fs_next, sym here, z)) ∙ s.fault;
              lows = storing_more (lows_in (Ok x)) (line_adds lows_in (drop (i + 1) rs) (drop (i + 1) (split 9 row))) (rw (rs_next, fs_next, sym here, z) at s.lows) u;
              highs = storing_more (highs_in (Ok x)) (line_adds highs_in (drop (i + 1) rs) (drop (i + 1) (split 9 row))) (rw (rs_next, fs_next, sym here, z) at s.highs) w;
              tables = storing_more (tables_in (Ok x)) (line_adds tables_in (drop (i + 1) rs) (drop (i + 1) (split 9 row))) (rw (rs_next, fs_next, sym here, z) at s.tables) v;
              low_most = omega (arith, s.low_most, u.next, few_lows (Ok x));
              high_most = omega (arith, s.high_most, w.next, few_highs (Ok x));
              listed_most = omega (arith, s.listed_most, v.next, few_tables (Ok x));
            }

  module _ (cr : length rs ≡ count) (h : count ≤ i) where
    none_left : drop i rs ≡ []
    none_left = drop_of_length-le rs {i = i} (omega arith)

    pub check_good : first_fault rs (split 9 row) ≡ None
    check_good = sym (rw none_left at s.fault)

    check_low : Stored into.lows after.lows from.lows next.lows (line_adds lows_in rs (split 9 row))
    check_low = storing_end (rw none_left at s.lows)

    check_high : Stored into.highs after.highs from.highs next.highs (line_adds highs_in rs (split 9 row))
    check_high = storing_end (rw none_left at s.highs)

    check_listed : Stored into.tables after.tables from.tables next.tables (line_adds tables_in rs (split 9 row))
    check_listed = storing_end (rw none_left at s.tables)

-- One line of a text with the meaning T, whose pieces from this line on are p and rest

module _ (limits : Limits) (s : State) (H : Held) (k : ℕ) (p : List ℕ) (rest : List (List ℕ)) (T : Outcome Contents)
    (R : read_from limits s H k (p ∷ rest) ≡ T) where
  pub line_long : 1024 < length p → T ≡ Refused 1 k
  unfolding line_fault
  line_long h = sym R ∙ rw (lt-ltb 1024 (length p) h)

  pub line_last : length p ≤ 1024 → is_last rest ≡ true → T ≡ Refused 7 k
  unfolding line_fault
  line_last h e = sym R ∙ rw (le-ltb 1024 (length p) h, e)

  module _ (tag : ℕ) (g : tag ≡ line_tag s (split 9 p)) (h : length p ≤ 1024) (e : is_last rest ≡ false) where
    pub line_count : (length (split 9 p) ≡ field_count tag → ⊥) → T ≡ Refused 1 k
    unfolding line_fault fields_fault
    line_count n =
        sym R ∙ rw (sym g, le-ltb 1024 (length p) h, e, ne_eqb (length (split 9 p)) (length (rules_of tag limits s.sheet.header (split 9 p))) (λ q. n (q ∙ rules_length tag limits s.sheet.header (split 9 p))))

    module _ (n : length (split 9 p) ≡ field_count tag) where
      same : length (split 9 p) ≡ length (rules_of tag limits s.sheet.header (split 9 p))
      same = n ∙ sym (rules_length tag limits s.sheet.header (split 9 p))

      pub line-fault : (m : ℕ) → first_fault (rules_of tag limits s.sheet.header (split 9 p)) (split 9 p) ≡ Some m → T ≡ Refused m k
      unfolding line_fault fields_fault
      line-fault m f = sym R ∙ rw (sym g, le-ltb 1024 (length p) h, e, eq-eqb (length (split 9 p)) (length (rules_of tag limits s.sheet.header (split 9 p))) same, f)

      module _ (f : first_fault (rules_of tag limits s.sheet.header (split 9 p)) (split 9 p) ≡ None) where
        good : cond (eqb tag 69) (cond (nothing_left rest) (contents s.sheet H) (Refused 7 (k + 1)))
            (on_taken (taken_of s H.marks (record_of tag (split 9 p))) k
            (λ t. read_from limits t (holding H s.sheet tag (rules_of tag limits s.sheet.header (split 9 p)) (split 9 p)) (k + 1) rest)) ≡ T
        unfolding line_fault fields_fault
        good = rw (sym g, le-ltb 1024 (length p) h, e, eq-eqb (length (split 9 p)) (length (rules_of tag limits s.sheet.header (split 9 p))) same, f) at R

        pub line_end : tag ≡ 69 → nothing_left rest ≡ true → T ≡ contents s.sheet H
        line_end t o = sym good ∙ rw (eq-eqb tag 69 t, o)

        pub line_after : tag ≡ 69 → nothing_left rest ≡ false → T ≡ Refused 7 (k + 1)
        line_after t o = sym good ∙ rw (eq-eqb tag 69 t, o)

        module _ (t : tag ≡ 69 → ⊥) where
          pub line_bad : (m : Refusal) → taken_of s H.marks (record_of tag (split 9 p)) ≡ Err m → T ≡ Refused (table.number_of m) k
          line_bad m o = sym good ∙ rw (ne_eqb tag 69 t, o)

          pub line_next : (u : State) → taken_of s H.marks (record_of tag (split 9 p)) ≡ Ok u
              → read_from limits u (holding H s.sheet tag (rules_of tag limits s.sheet.header (split 9 p)) (split 9 p)) (k + 1) rest ≡ T
          line_next u o = sym (rw (ne_eqb tag 69 t, o)) ∙ good

-- What the pieces of a text say

head_rest : (ps : List (List ℕ)) → 0 < length ps → ps ≡ get_or ps 0 [] ∷ drop 1 ps
head_rest [] h = let z : ⊥ = omega arith in absurd z
head_rest (p ∷ ps) h = refl

pub split_head : (b : ℕ) (l : List ℕ) → split b l ≡ before b l ∷ drop 1 (split b l)
split_head b l = head_rest (split b l) (split_some b l) ∙ ap (λ (p : List ℕ). p ∷ drop 1 (split b l)) (split_first b l)

pub not_last : (b : ℕ) (l : List ℕ) → is_last (split b l) ≡ false
not_last b l = by (split b l) (split_some b l)
  where
    by : (ps : List (List ℕ)) → 0 < length ps → is_last ps ≡ false
    by [] h = let z : ⊥ = omega arith in absurd z
    by (p ∷ ps) h = refl

nothing_after : (b : ℕ) (l : List ℕ) → length l ≡ 0 → nothing_left (split b l) ≡ true
nothing_after b [] h = refl
nothing_after b (x ∷ l) h = let z : ⊥ = omega arith in absurd z

pub some_after : (b : ℕ) (l : List ℕ) → 0 < length l → nothing_left (split b l) ≡ false
some_after b [] h = let z : ⊥ = omega arith in absurd z
some_after b (x ∷ l) h = two (eqb x b) (split b l) (split_some b l)
  where
    two : (t : Bool) (ps : List (List ℕ)) → 0 < length ps → nothing_left (cond t ([] ∷ ps) (onto x ps)) ≡ false
    two true [] k = let z : ⊥ = omega arith in absurd z
    two true (p ∷ ps) k = refl
    two false [] k = refl
    two false (p ∷ ps) k = refl

-- The map of all blocks

none_marked : (n b : ℕ) → get_or (replicate n false) b false ≡ false
none_marked zero b = refl
none_marked (suc n) zero = refl
none_marked (suc n) (suc b) = none_marked n b

pub no_bits : Bits [] (replicate most_blocks false)
no_bits = record { long = length-replicate {A = Bool} most_blocks false; bit = none_marked most_blocks }

pub among_more : (b : ℕ) (ms : List Marked) (m : Marked) → among b (ms ++ m ∷ []) ≡ (among b ms || eqb b m.block)
among_more b [] m = two (eqb b m.block)
  where
    two : (x : Bool) → (x || false) ≡ (false || x)
    two true = refl
    two false = refl
among_more b (n ∷ ms) m = two (eqb b n.block) (among_more b ms m)
  where
    two : (x : Bool) → among b (ms ++ m ∷ []) ≡ (among b ms || eqb b m.block) → (x || among b (ms ++ m ∷ [])) ≡ ((x || among b ms) || eqb b m.block)
    two true e = refl
    two false e = e

module _ (ms : List Marked) (bits : List Bool) (m : Bits ms bits) where
  -- one more mark
  more_bits : (k : Marked) → k.block < most_blocks → Bits (ms ++ k ∷ []) (set bits k.block true)
  more_bits k h =
      record {
        long = length-set bits k.block true ∙ m.long;
        bit = λ b. which b (eqb b k.block) refl ∙ sym (among_more b ms k);
      }
    where
      same : (x : Bool) → true ≡ (x || true)
      same true = refl
      same false = refl

      other : (x : Bool) → x ≡ (x || false)
      other true = refl
      other false = refl

      which : (b : ℕ) (x : Bool) → eqb b k.block ≡ x → get_or (set bits k.block true) b false ≡ (among b ms || eqb b k.block)
      which b true e =
          rw (e, eqb-true b k.block e) (get_or-set_same bits k.block true false (omega (arith, m.long)) ∙ same (among k.block ms))
      which b false e =
          rw e (get_or-set_other bits k.block b true false (eqb-false b k.block e) ∙ m.bit b ∙ other (among b ms))

  -- by the map as by the marks
  taken_alike : (s : State) (d : Record) → taken_if s (twice_in s.sheet d bits) d ≡ taken_of s ms d
  unfolding taken_if
  taken_alike s (line.Header h) = refl
  taken_alike s (line.Channel c) = refl
  taken_alike s (line.Setting x) = refl
  taken_alike s line.Block = refl
  taken_alike s (line.Mark k) = rw (m.bit (block_of s.sheet k)) (two (exists s.sheet k))
    where
      two : (x : Bool) → cond (x && not (cond x (among (block_of s.sheet k) ms) false)) (Ok s) (Err refusal.Mark) ≡ cond (x && not (among (block_of s.sheet k) ms)) (Ok s) (Err refusal.Mark)
      two true = refl
      two false = refl

  -- a line that is no mark leaves the map
  unmarked : (s : Sheet) (h : Header) (c : Channel) (x y z : Setting) (a b d e f : Bool)
      → marked_in s (cond a (line.Header h) (cond b (line.Channel c) (cond d (line.Setting x) (cond e (line.Setting y) (cond f (line.Setting z) line.Block))))) bits ≡ bits
  unmarked s h c x y z true b d e f = refl
  unmarked s h c x y z false true d e f = refl
  unmarked s h c x y z false false true e f = refl
  unmarked s h c x y z false false false true f = refl
  unmarked s h c x y z false false false false true = refl
  unmarked s h c x y z false false false false false = refl

  next_bits : (s : Sheet) (tag : ℕ) (fs : List (List ℕ)) → (tag ≡ 78 → exists s (mark_of fs) ≡ true) → Bits (ms ++ marks_in s tag fs) (marked_in s (record_of tag fs) bits)
  unfolding record_of
  next_bits s tag fs h = two (eqb tag 78) refl
    where
      two : (x : Bool) → eqb tag 78 ≡ x → Bits (ms ++ marks_in s tag fs) (marked_in s (record_of tag fs) bits)
      two true e =
          let q = eqb-true tag 78 e in
          rw (q, h q) (more_bits (marked (mark_of fs) (block_of s (mark_of fs))) (exists_within s (mark_of fs) (h q)))
      two false e =
          rw (e, append-nil ms, unmarked s (header_of fs) (channel_of fs) (setting.Rounding (letter_in 116 (get_or fs 1 []))) (setting.Start (letter_in 109 (get_or fs 1 []))) (setting.Hold (hold_of fs)) (eqb tag 83) (eqb tag 67) (eqb tag 70) (eqb tag 65) (eqb tag 72)) m

marked_length : (s : Sheet) (d : Record) (bits : List Bool) → length (marked_in s d bits) ≡ length bits
marked_length s (line.Header h) bits = refl
marked_length s (line.Channel c) bits = refl
marked_length s (line.Setting x) bits = refl
marked_length s line.Block bits = refl
marked_length s (line.Mark m) bits = two (exists s m)
  where
    two : (x : Bool) → length (cond x (set bits (block_of s m) true) bits) ≡ length bits
    two true = length-set bits (block_of s m) true
    two false = refl

-- a mark that was taken has its block
taken_exists : (s : State) (t : Bool) (m : Mark) (u : State) → taken_if s t (line.Mark m) ≡ Ok u → exists s.sheet m ≡ true
unfolding taken_if
taken_exists s t m u e = two (exists s.sheet m) e
  where
    two : (x : Bool) → cond (x && not t) (Ok s) (Err refusal.Mark) ≡ Ok u → x ≡ true
    two true o = refl
    two false o = let z : ◌≡◌ {A = ℕ} 0 1 = cc in let y : ⊥ = omega arith in absurd y

marked_exists : (s : State) (t : Bool) (tag : ℕ) (fs : List (List ℕ)) (u : State) → taken_if s t (record_of tag fs) ≡ Ok u → tag ≡ 78 → exists s.sheet (mark_of fs) ≡ true
unfolding record_of
marked_exists s t tag fs u e q = taken_exists s t (mark_of fs) u (rw q at e)

-- The text up to a line

pub record Reading (limits : Limits) (text : List ℕ) (into after : Lent) (bits₀ bits : List Bool) (s : State) (rest : List ℕ) (k : ℕ) (next : Places) : Type 0 where
  so_far : Held
  pub lines : k + length rest ≤ length text + 1
  pub low_room : next.lows + length rest ≤ length text
  pub high_room : next.highs + length rest ≤ length text
  pub space : next.tables + length rest ≤ length text
  lows : Stored into.lows after.lows 0 next.lows so_far.lent.lows
  highs : Stored into.highs after.highs 0 next.highs so_far.lent.highs
  tables : Stored into.tables after.tables 0 next.tables so_far.lent.tables
  mapped : Bits so_far.marks bits
  pub kept : length bits ≡ length bits₀
  whole : read_from limits s so_far k (split 10 rest) ≡ read_text limits text

pub read_begin : (limits : Limits) (text : List ℕ) (into : Lent) (bits : List Bool) (s : State) → allowed limits ≡ true → s ≡ blank → bits ≡ replicate most_blocks false → Reading limits text into into bits bits s text 1 (places 0 0 0)
unfolding read_text
read_begin limits text into bits s h e q =
    record {
      so_far = nothing;
      lines = omega arith;
      low_room = omega arith;
      high_room = omega arith;
      space = omega arith;
      lows = record { next = refl; last = refl };
      highs = record { next = refl; last = refl };
      tables = record { next = refl; last = refl };
      mapped = rw q no_bits;
      kept = refl;
      whole = rw (e, h);
    }

-- the answer of a refusal at a line
abbrev pub at_line : Refusal → ℕ → Result Walked walk.Refused
at_line m k = Err (record { refusal = m; line = k })

refused : (limits : Limits) (text : List ℕ) (into after : Lent) (bits : List Bool) (m : Refusal) (k : ℕ) → read_text limits text ≡ Refused (table.number_of m) k → Walks limits text into after bits (at_line m k)
refused limits text into after bits m k e = record { answer = rw e; stored = rw e tt; mapped = rw e tt }

pub walk_limit : (limits : Limits) (text : List ℕ) (into : Lent) (bits : List Bool) → allowed limits ≡ false → Walks limits text into into bits (at_line refusal.Size 0)
unfolding read_text
walk_limit limits text into bits h = refused limits text into into bits refusal.Size 0 (rw h)

-- an ended line of at most 1,024 bytes, the first n of what is left, where a tag is due
pub record OnLine (rest : List ℕ) (s : State) (n tag count : ℕ) : Type 0 where
  pub ended : n + 1 ≤ length rest
  short : length (take n rest) ≤ 1024
  pub size : length (take n rest) ≡ n
  first : before 10 rest ≡ take n rest
  cut : split 10 rest ≡ take n rest ∷ split 10 (drop (n + 1) rest)
  due : tag ≡ line_tag s (split 9 (take n rest))
  counted : count ≡ field_count tag

module _ {limits : Limits} {text : List ℕ} {into after : Lent} {bits₀ bits : List Bool} {s : State} {rest : List ℕ} {k : ℕ} {next : Places} (r : Reading limits text into after bits₀ bits s rest k next) where
  pub bits_long : length bits ≡ most_blocks
  bits_long = r.mapped.long

  module _ {g : Line} (q : IsLine rest g) where
    end_inside : g.length ≤ length rest
    end_inside = omega (arith, q.long, before_le 10 rest)

    row_is : before 10 rest ≡ take g.length rest
    row_is = sym (rw q.long (before_take 10 rest))

    pub row_size : length (take g.length rest) ≡ g.length
    row_size = ap length (sym row_is) ∙ sym q.long

    pub walk_long : 1024 < g.length → Walks limits text into after bits (at_line refusal.Form k)
    walk_long h =
        refused limits text into after bits refusal.Form k
        (line_long limits s r.so_far k (before 10 rest) (drop 1 (split 10 rest)) (read_text limits text)
        (rw (split_head 10 rest) at r.whole) (omega (arith, q.long)))

    pub walk_cut : g.length ≤ 1024 → g.length ≡ length rest → Walks limits text into after bits (at_line refusal.Cut k)
    walk_cut h z =
        refused limits text into after bits refusal.Cut k
        (line_last limits s r.so_far k rest [] (read_text limits text)
        (rw (split_whole 10 rest (omega (arith, q.long))) at r.whole) (omega arith) refl)

    pub on-line : g.length ≤ 1024 → (g.length ≡ length rest → ⊥) → {tag count : ℕ} → tag ≡ line_tag s (split 9 (take g.length rest)) → count ≡ field_count tag → OnLine rest s g.length tag count
    on-line h z d c =
        record {
          ended = omega (arith, end_inside);
          short = omega (arith, row_size);
          size = row_size;
          first = row_is;
          cut = split_cut 10 rest (omega (arith, end_inside, q.long)) ∙ rw (← q.long, row_is);
          due = d;
          counted = c;
        }

  module _ {n tag count : ℕ} (o : OnLine rest s n tag count) where
    this_line : read_from limits s r.so_far k (take n rest ∷ split 10 (drop (n + 1) rest)) ≡ read_text limits text
    this_line = rw o.cut at r.whole

    pub walk_count : {g : Line} → IsLine rest g → (g.fields ≡ count → ⊥) → Walks limits text into after bits (at_line refusal.Form k)
    walk_count q z =
        refused limits text into after bits refusal.Form k
        (line_count limits s r.so_far k (take n rest) (split 10 (drop (n + 1) rest)) (read_text limits text) this_line
        tag o.due o.short (not_last 10 (drop (n + 1) rest)) (λ c. z (q.fields ∙ ap (λ (x : List ℕ). length (split 9 x)) o.first ∙ c ∙ sym o.counted)))

    pub row_count : {g : Line} → IsLine rest g → g.fields ≡ count → length (split 9 (take n rest)) ≡ count
    row_count q z = ap (λ (x : List ℕ). length (split 9 x)) (sym o.first) ∙ sym q.fields ∙ z

    pub rules_count : length (rules_of tag limits s.sheet.header (split 9 (take n rest))) ≡ count
    rules_count = rules_length tag limits s.sheet.header (split 9 (take n rest)) ∙ sym o.counted

    module _ (y : length (split 9 (take n rest)) ≡ count) where
      -- the next place of each buffer is a number of 64 bits
      pub low_place : length text < 2 ^ 64 → {i n' : ℕ} → i < count → n' ≤ next.lows + i → n' + 1 < 2 ^ 64
      low_place z h q = omega (arith, r.low_room, split_length 9 (take n rest), o.size, o.ended)

      pub high_place : length text < 2 ^ 64 → {i n' : ℕ} → i < count → n' ≤ next.highs + i → n' + 1 < 2 ^ 64
      high_place z h q = omega (arith, r.high_room, split_length 9 (take n rest), o.size, o.ended)

      pub table_room : length text < 2 ^ 64 → {i m' : ℕ} → i < count → m' ≤ next.tables + i → m' + 1 < 2 ^ 64
      table_room z h q = omega (arith, r.space, split_length 9 (take n rest), o.size, o.ended)

      pub walk_fault : {v : Refusal} {stored : Lent} → first_fault (rules_of tag limits s.sheet.header (split 9 (take n rest))) (split 9 (take n rest)) ≡ Some (table.number_of v)
          → Walks limits text into stored bits (at_line v k)
      walk_fault {v} {stored} f =
          refused limits text into stored bits v k
          (line-fault limits s r.so_far k (take n rest) (split 10 (drop (n + 1) rest)) (read_text limits text) this_line
          tag o.due o.short (not_last 10 (drop (n + 1) rest)) (y ∙ o.counted) (table.number_of v) f)

      module _ {stored : Lent} {filled : Places} {i a : ℕ} {last : Field}
          (c : Checking (rules_of tag limits s.sheet.header (split 9 (take n rest))) (take n rest) count after next stored filled i a last) (h : count ≤ i) where
        pub walk_end : tag ≡ 69 → n + 1 ≡ length rest → Walks limits text into stored bits (Ok (record { sheet = s.sheet; lows = filled.lows; highs = filled.highs; tables = filled.tables }))
        walk_end x z =
            let w : read_text limits text ≡ contents s.sheet r.so_far =
            line_end limits s r.so_far k (take n rest) (split 10 (drop (n + 1) rest)) (read_text limits text) this_line
            tag o.due o.short (not_last 10 (drop (n + 1) rest)) (y ∙ o.counted) (check_good c rules_count h) x
            (nothing_after 10 (drop (n + 1) rest) (omega (arith, length-drop (n + 1) rest))) in
            let u = stored_end r.lows (rw (end_lows tag limits s.sheet.header (split 9 (take n rest)) x) at (check_low c rules_count h)) in
            let q = stored_end r.highs (rw (end_highs tag limits s.sheet.header (split 9 (take n rest)) x) at (check_high c rules_count h)) in
            let v = stored_end r.tables (rw (end_tables tag limits s.sheet.header (split 9 (take n rest)) x) at (check_listed c rules_count h)) in
            record { answer = rw (w, ← zero-add (length r.so_far.lent.lows), ← u.next, ← zero-add (length r.so_far.lent.highs), ← q.next, ← zero-add (length r.so_far.lent.tables), ← v.next); stored = rw w (u.last, q.last, v.last); mapped = rw w r.mapped }

        pub walk_after : tag ≡ 69 → (n + 1 ≡ length rest → ⊥) → Walks limits text into stored bits (at_line refusal.Cut (k + 1))
        walk_after x z =
            refused limits text into stored bits refusal.Cut (k + 1)
            (line_after limits s r.so_far k (take n rest) (split 10 (drop (n + 1) rest)) (read_text limits text) this_line
            tag o.due o.short (not_last 10 (drop (n + 1) rest)) (y ∙ o.counted) (check_good c rules_count h) x
            (some_after 10 (drop (n + 1) rest) (omega (arith, length-drop (n + 1) rest, o.ended))))

        module _ (x : tag ≡ 69 → ⊥) {d : Record} {t : Bool} {bits' : List Bool} {w : Result State Refusal} (u : d ≡ record_of tag (split 9 (take n rest)))
            (m : (t ≡ twice_in s.sheet d bits) × (bits' ≡ marked_in s.sheet d bits)) (v : w ≡ taken_if s t d) where
          taken_is : taken_of s r.so_far.marks (record_of tag (split 9 (take n rest))) ≡ w
          taken_is =
              ap (taken_of s r.so_far.marks) (sym u) ∙ sym (taken_alike r.so_far.marks bits r.mapped s d) ∙ ap (λ (b : Bool). taken_if s b d) (sym m.0) ∙ sym v

          pub walk_bad : {p : Refusal} → w ≡ Err p → Walks limits text into stored bits' (at_line p k)
          walk_bad {p} z =
              refused limits text into stored bits' p k
              (line_bad limits s r.so_far k (take n rest) (split 10 (drop (n + 1) rest)) (read_text limits text) this_line
              tag o.due o.short (not_last 10 (drop (n + 1) rest)) (y ∙ o.counted) (check_good c rules_count h) x p
              (taken_is ∙ z))

          pub walk_next : {s' : State} → w ≡ Ok s' → Reading limits text into stored bits₀ bits' s' (drop (n + 1) rest) (k + 1) filled
          walk_next {s'} z =
              let row = take n rest in
              record {
                so_far = holding r.so_far s.sheet tag (rules_of tag limits s.sheet.header (split 9 row)) (split 9 row);
                lines = omega (arith, r.lines, o.ended, length-drop (n + 1) rest);
                low_room = omega (arith, c.low_most, c.upto, r.low_room, split_length 9 row, o.size, o.ended, length-drop (n + 1) rest);
                high_room = omega (arith, c.high_most, c.upto, r.high_room, split_length 9 row, o.size, o.ended, length-drop (n + 1) rest);
                space = omega (arith, c.listed_most, c.upto, r.space, split_length 9 row, o.size, o.ended, length-drop (n + 1) rest);
                lows = stored_both r.lows (check_low c rules_count h);
                highs = stored_both r.highs (check_high c rules_count h);
                tables = stored_both r.tables (check_listed c rules_count h);
                mapped =
                    rw (m.1, u)
                    (next_bits r.so_far.marks bits r.mapped s.sheet tag (split 9 row)
                    (marked_exists s t tag (split 9 row) s' (ap (taken_if s t) (sym u) ∙ sym v ∙ z)));
                kept = ap length m.1 ∙ marked_length s.sheet d bits ∙ r.kept;
                whole =
                    line_next limits s r.so_far k row (split 10 (drop (n + 1) rest)) (read_text limits text) this_line
                    tag o.due o.short (not_last 10 (drop (n + 1) rest)) (y ∙ o.counted) (check_good c rules_count h) x s'
                    (taken_is ∙ z);
              }
