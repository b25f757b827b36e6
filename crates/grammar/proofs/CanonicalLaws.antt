-- An accepted text is the written text of its contents.
use Rattle.refusal.specs.declared.Refusal.TheVariants as refusal
use Rattle.std.proofs.Common.{None, Ok, Err}
use Prim.Native.Nat.{ℕ, zero, suc, ◌+◌, ◌-◌, ◌*◌, ◌/◌, ◌<◌, ◌≤◌}
use mathlib.Core.Path.{◌≡◌, refl, sym, ap, ◌∙◌}
use mathlib.Core.List.{List, [], ◌∷◌, ◌++◌, map, append-nil, append_assoc}
use mathlib.Core.Bool.{Bool, true, false, cond, ◌&&◌}
use native.Mathlib.Omega.{arith}
use lib.ListN.{length, get_or, take, drop, replicate, length-drop}
use lib.Seq.{drop-drop, take-append_seam, drop-append_seam}
use lib.IntN.{ℤ}
use lib.Dec.{eqb, ltb}
use borrow.Author.Tests.{eqb-true, ltb-true}
use Rattle.text.specs.declared.field.Rule.TheVariants as rule
use Rattle.text.specs.Pieces.{split}
use Rattle.text.specs.Numbers.{number_at}
use Rattle.text.specs.Weights.{weight_at}
use Rattle.text.specs.Fields.{field_of, fault_in, tables_in}
use Rattle.digits.specs.Written.{decimal, joined}
use Rattle.text.proofs.GoodLaws.{quantiser_good}
use Rattle.text.proofs.JoinLaws.{ended_split}
use Rattle.digits.proofs.Both.{both_left, both_right}
use Rattle.text.proofs.SizeLaws.{tag_as, range_as, count_as, side_as, channels_as, letters_as, weight_as, quantiser_as}
use Rattle.contents.specs.declared.Limits.{Limits}
use Rattle.contents.specs.declared.Header.{Header}
use Rattle.contents.specs.declared.Channel.{Channel}
use Rattle.contents.specs.declared.Settings.{Settings}
use Rattle.contents.specs.declared.Sheet.{Sheet}
use Rattle.progress.specs.declared.State.{State}
use Rattle.lines.specs.Lines.{header_rules, channel_rules, end_rules, rules_of, first_fault, line_adds, header_of, channel_of, record_of}
use Rattle.contents.specs.Marks.{block_of}
use Rattle.contents.specs.Sheets.{Lent, lent, Marked, marked, Held, held, nothing, channels_of}
use Rattle.progress.specs.Progress.{headed, blank, last_said, line_tag, with_setting, settled, placed, opened, covers, taken_if}
use Rattle.sheet.specs.Reading.{Contents, contents, nothing_left, on_taken, read_from, allowed, read_text}
use Rattle.sheet.specs.Reading.Outcome.{Gives, Refused}
use Rattle.grammar.specs.Written.{header_fields, channel_fields, block_fields, end_fields, setting_lines, block_lines, drop_held, channel_lines, mark_lines, written}
use Rattle.grammar.specs.Accepts.{Accepts}
use Rattle.grammar.specs.Equal.{EqualPairs}
use Rattle.progress.proofs.StateLaws.{SettingTag, BlockTag, Stands, stands, unbegun, first_tag}
use Rattle.progress.proofs.StateLaws.Stands.{Header-line, Setting-line, Block-line, Channel-line, End-line, Mark-line}
use Rattle.lines.proofs.GoodLines.{or_left, or_right, fault_at, fault_drop, holds_none, with_table, holds_table, all_quantisers, field_at, no_more, row_as}
use Rattle.grammar.proofs.SettingLaws.{place_of, Agree, lines_after, now_said, none_after, one_line, one_kept}
use Rattle.grammar.proofs.BlockLaws.{with_block}
use Rattle.grammar.proofs.MarkLaws.{with_mark}
use Rattle.grammar.proofs.LegalLaws.{header_is_legal, few, some_channel, line-is, setting_read, less_block, block_read, mark_read, no_gives, legal, legal_blocks, legal_marks}
use Rattle.grammar.proofs.RoundTrip.{during, join_held, placed_all, round_trip}
use Rattle.grammar.proofs.PrefixLaws.{not_unended}

-- Good lines are written so

header_as : (limits : Limits) (fs : List (List ℕ)) → length fs ≡ 16 → first_fault (header_rules limits fs) fs ≡ None → header_fields (header_of fs) ≡ fs
unfolding header_of number_at weight_at
header_as limits fs n e =
    field_at fs 0 _ _ (omega arith) (tag_as (get_or fs 0 []) 83 (at 0 (omega arith)))
    (field_at fs 1 _ _ (omega arith) (side_as (get_or fs 1 []) limits.side (at 1 (omega arith)))
    (field_at fs 2 _ _ (omega arith) (side_as (get_or fs 2 []) limits.side (at 2 (omega arith)))
    (field_at fs 3 _ _ (omega arith) (range_as (get_or fs 3 []) refusal.Size 1 (number_at fs 1) (at 3 (omega arith)))
    (field_at fs 4 _ _ (omega arith) (range_as (get_or fs 4 []) refusal.Size 1 (number_at fs 2) (at 4 (omega arith)))
    (field_at fs 5 _ _ (omega arith) (channels_as (get_or fs 5 []) (at 5 (omega arith)))
    (field_at fs 6 _ _ (omega arith) (letters_as (get_or fs 6 []) 106 115 (at 6 (omega arith)))
    (field_at fs 7 _ _ (omega arith) (count_as (get_or fs 7 []) limits.iterations (at 7 (omega arith)))
    (field_at fs 8 _ _ (omega arith) (count_as (get_or fs 8 []) limits.iterations (at 8 (omega arith)))
    (field_at fs 9 _ _ (omega arith) (count_as (get_or fs 9 []) limits.iterations (at 9 (omega arith)))
    (field_at fs 10 _ _ (omega arith) (weight_as (get_or fs 10 []) (at 10 (omega arith)))
    (field_at fs 11 _ _ (omega arith) (weight_as (get_or fs 11 []) (at 11 (omega arith)))
    (field_at fs 12 _ _ (omega arith) (weight_as (get_or fs 12 []) (at 12 (omega arith)))
    (field_at fs 13 _ _ (omega arith) (weight_as (get_or fs 13 []) (at 13 (omega arith)))
    (field_at fs 14 _ _ (omega arith) (weight_as (get_or fs 14 []) (at 14 (omega arith)))
    (field_at fs 15 _ _ (omega arith) (weight_as (get_or fs 15 []) (at 15 (omega arith))) (no_more fs 16 (omega arith)))))))))))))))))
  where
    at : (i : ℕ) → i < 16 → fault_in (field_of (get_or (header_rules limits fs) i (rule.Tag 0)) (get_or fs i [])) ≡ None
    at i h = fault_at (header_rules limits fs) fs i e h (omega arith)

quantisers_as : (n : ℕ) (fs : List (List ℕ)) → length fs ≡ n → first_fault (replicate n rule.Quantiser) fs ≡ None → map decimal (line_adds tables_in (replicate n rule.Quantiser) fs) ≡ fs
quantisers_as zero [] h e = refl
quantisers_as zero (f ∷ fs) h e = let y : ⊥ = omega arith in absurd y
quantisers_as (suc n) [] h e = let y : ⊥ = omega arith in absurd y
quantisers_as (suc n) (f ∷ fs) h e =
    let g = quantiser_good f (or_left (fault_in (field_of rule.Quantiser f)) (first_fault (replicate n rule.Quantiser) fs) e) in
    let a = quantiser_as f g.0 g.1 in
    let b = quantisers_as n fs (omega arith) (or_right (fault_in (field_of rule.Quantiser f)) (first_fault (replicate n rule.Quantiser) fs) e) in
    rw g.1 (λ i. a i ∷ b i)

channel_as : (fs : List (List ℕ)) → length fs ≡ 69 → first_fault channel_rules fs ≡ None → channel_fields (channel_of fs) (line_adds tables_in (replicate 64 rule.Quantiser) (drop 5 fs)) ≡ fs
unfolding channel_of number_at
channel_as fs n e =
    field_at fs 0 _ _ (omega arith) (tag_as (get_or fs 0 []) 67 (at 0 (omega arith)))
    (field_at fs 1 _ _ (omega arith) (side_as (get_or fs 1 []) 999999 (at 1 (omega arith)))
    (field_at fs 2 _ _ (omega arith) (side_as (get_or fs 2 []) 999999 (at 2 (omega arith)))
    (field_at fs 3 _ _ (omega arith) (range_as (get_or fs 3 []) refusal.Factor 1 4 (at 3 (omega arith)))
    (field_at fs 4 _ _ (omega arith) (range_as (get_or fs 4 []) refusal.Factor 1 4 (at 4 (omega arith)))
    (quantisers_as 64 (drop 5 fs) (length-drop 5 fs ∙ omega arith) (fault_drop 5 channel_rules fs e))))))
  where
    at : (i : ℕ) → i < 69 → fault_in (field_of (get_or channel_rules i (rule.Tag 0)) (get_or fs i [])) ≡ None
    at i h = fault_at channel_rules fs i e h (omega arith)

end_as : (fs : List (List ℕ)) → length fs ≡ 1 → first_fault (rule.Tag 69 ∷ []) fs ≡ None → end_fields ≡ fs
end_as fs n e = field_at fs 0 _ _ (omega arith) (tag_as (get_or fs 0 []) 69 (fault_at (rule.Tag 69 ∷ []) fs 0 e (omega arith) (omega arith))) (no_more fs 1 (omega arith))

-- the marks and the end
abbrev last_rows : List Marked → List (List ℕ)
last_rows ms = mark_lines ms ++ joined end_fields ∷ [] ∷ []

-- The lines that are still to come: n blocks, then the channels cs, with what they hold, and the marks
abbrev rows : ℕ → List Channel → Held → List (List ℕ)
rows n cs K = block_lines (take n K.ranged) K.lent.lows K.lent.highs ++ (channel_lines cs (drop_held n 0 K) ++ last_rows K.marks)

-- a block before what is held, and a table
abbrev block_before : Bool → List ℤ → List ℤ → Held → Held
block_before r ls hs K = held (lent (ls ++ K.lent.lows) (hs ++ K.lent.highs) K.lent.tables) (r ∷ K.ranged) K.marks

abbrev table_before : List ℕ → Held → Held
table_before qs K = held (lent K.lent.lows K.lent.highs (qs ++ K.lent.tables)) K.ranged K.marks

abbrev mark_before : Marked → Held → Held
mark_before m K = held K.lent K.ranged (m ∷ K.marks)

module _ {A : Type 0} (xs ys : List A) (n : ℕ) (e : length xs ≡ n) where
  take-front : take n (xs ++ ys) ≡ xs
  take-front = ap (λ (k : ℕ). take k (xs ++ ys)) (sym e) ∙ take-append_seam xs ys

  drop-front : drop n (xs ++ ys) ≡ ys
  drop-front = ap (λ (k : ℕ). drop k (xs ++ ys)) (sym e) ∙ drop-append_seam xs ys

  drop_more : (m : ℕ) → drop (n + m) (xs ++ ys) ≡ drop m ys
  drop_more m = sym (drop-drop m n (xs ++ ys)) ∙ ap (λ (l : List A). drop m l) drop-front

one_block : (n : ℕ) (cs : List Channel) (r : Bool) (ls hs : List ℤ) (K : Held) → length ls ≡ 64 → length hs ≡ 64
    → rows (suc n) cs (block_before r ls hs K) ≡ joined (block_fields r ls hs) ∷ rows n cs K
one_block n cs r ls hs K e f =
    let zs = K.lent.lows in
    let ys = K.lent.highs in
    let m : 64 * suc n ≡ 64 + 64 * n = omega arith in
    rw (m, drop_more ls zs 64 e (64 * n), drop_more hs ys 64 f (64 * n), take-front ls zs 64 e, take-front hs ys 64 f, drop-front ls zs 64 e, drop-front hs ys 64 f)

one_channel : (c : Channel) (cs : List Channel) (qs : List ℕ) (K : Held) → length qs ≡ 64
    → rows 0 (c ∷ cs) (table_before qs K) ≡ joined (channel_fields c qs) ∷ rows (c.width * c.height / 64) cs K
one_channel c cs qs K e =
    let n = c.width * c.height / 64 in
    rw (take-front qs K.lent.tables 64 e, drop-front qs K.lent.tables 64 e)
    (ap (λ (l : List (List ℕ)). joined (channel_fields c qs) ∷ l)
    (append_assoc (block_lines (take n K.ranged) K.lent.lows K.lent.highs) (channel_lines cs (drop_held n 0 K)) (last_rows K.marks)))

-- What is left of an accepted text: the lines ps say the rest of the contents C after the state s with what it holds
record Rest (s : State) (H : Held) (ps : List (List ℕ)) (C : Contents) : Type 0 where
  cs : List Channel
  K : Held
  lines : ps ≡ rows s.left cs K
  sheet : placed_all s.sheet s.read cs ≡ C.sheet
  count : s.read + length cs ≡ s.sheet.header.channels
  held : join_held H K ≡ C.held

no_more_channels : (cs : List Channel) → length cs ≡ 0 → cs ≡ []
no_more_channels [] e = refl
no_more_channels (c ∷ cs) e = let y : ⊥ = omega arith in absurd y

record Under (s : State) : Type 0 where
  begun : s.begun ≡ true
  upto : s.read ≤ s.sheet.header.channels

module _ (limits : Limits) (p : List ℕ) (rest : List (List ℕ)) (C : Contents)
    (ih : (s : State) (H : Held) (k : ℕ) → Under s → 0 < s.read → read_from limits s H k rest ≡ Gives C → Rest s H rest C) (s : State) (H : Held) (k : ℕ) (b : Under s) where
  fs : List (List ℕ)
  fs = split 9 p

  block_rest : (r : Bool) → 0 < s.read → 0 < s.left → BlockTag r (line_tag s (split 9 p)) → read_from limits s H k (p ∷ rest) ≡ Gives C → Rest s H (p ∷ rest) C
  block_rest x m u g e =
      let w = block_read limits s H k x p rest C g e in
      let r = ih (less_block s) (with_block H x w.ls w.hs) (k + 1) (record { begun = b.begun; upto = b.upto }) m w.more in
      let K = r.K in
      let n : suc (s.left - 1) ≡ s.left = omega arith in
      let lows = append_assoc H.lent.lows w.ls K.lent.lows in
      let highs = append_assoc H.lent.highs w.hs K.lent.highs in
      let kinds = append_assoc H.ranged (x ∷ []) K.ranged in
      record {
        cs = r.cs;
        K = block_before x w.ls w.hs K;
        lines =
            (λ i. sym w.row i ∷ r.lines i)
            ∙ sym (one_block (s.left - 1) r.cs x w.ls w.hs K w.block.low_count w.block.high_count) ∙ ap (λ (m : ℕ). rows m r.cs (block_before x w.ls w.hs K)) n;
        sheet = r.sheet;
        count = r.count;
        held = (λ i. held (lent (sym lows i) (sym highs i) (H.lent.tables ++ K.lent.tables)) (sym kinds i) (H.marks ++ K.marks)) ∙ r.held;
      }

  channel_rest : s.left ≤ 0 → s.read < s.sheet.header.channels → line_tag s (split 9 p) ≡ 67 → read_from limits s H k (p ∷ rest) ≡ Gives C → Rest s H (p ∷ rest) C
  unfolding rules_of taken_if record_of fs
  channel_rest u v g e =
      let l = line-is channel_rules k p rest _ C (rw g at e) in
      covered (covers s.sheet.header (channel_of fs)) refl l.count l.fault (rw (holds_table H s.sheet fs) at l.more)
    where
      c : Channel
      c = channel_of (split 9 p)

      qs : List ℕ
      qs = line_adds tables_in (replicate 64 rule.Quantiser) (drop 5 (split 9 p))

      covered : (x : Bool) → covers s.sheet.header c ≡ x → length (split 9 p) ≡ 69 → first_fault channel_rules (split 9 p) ≡ None
          → on_taken (cond x (Ok (opened s c)) (Err refusal.Size)) k (λ t. read_from limits t (with_table H qs) (k + 1) rest) ≡ Gives C
          → Rest s H (p ∷ rest) C
      covered false i n f o = no_gives 2 k C o
      covered true i n f o =
          let a = all_quantisers 64 (drop 5 (split 9 p)) (length-drop 5 (split 9 p) ∙ omega arith) (fault_drop 5 channel_rules (split 9 p) f) in
          let r = ih (opened s c) (with_table H qs) (k + 1) (record { begun = refl; upto = omega arith }) (omega arith) o in
          let K = r.K in
          let z : 0 ≡ s.left = omega arith in
          let tables = append_assoc H.lent.tables qs K.lent.tables in
          record {
            cs = c ∷ r.cs;
            K = table_before qs K;
            lines =
                (λ i. sym (row_as p (channel_fields c qs) (channel_as (split 9 p) n f)) i ∷ r.lines i)
                ∙ sym (one_channel c r.cs qs K a.1)
                ∙ ap (λ (m : ℕ). rows m (c ∷ r.cs) (table_before qs K)) z;
            sheet = r.sheet;
            count = omega (arith, r.count);
            held = (λ i. held (lent (H.lent.lows ++ K.lent.lows) (H.lent.highs ++ K.lent.highs) (sym tables i)) (H.ranged ++ K.ranged) (H.marks ++ K.marks)) ∙ r.held;
          }

  end_rest : s.left ≤ 0 → s.sheet.header.channels ≤ s.read → line_tag s (split 9 p) ≡ 69 → read_from limits s H k (p ∷ rest) ≡ Gives C → Rest s H (p ∷ rest) C
  unfolding rules_of
  end_rest u v g e =
      let l = line-is end_rules k p rest _ C (rw g at e) in
      last rest (λ (q : rest ≡ []). not_unended limits s H k p C (ap (λ (ps : List (List ℕ)). read_from limits s H k (p ∷ ps)) (sym q) ∙ e)) l.more refl
      (row_as p end_fields (end_as (split 9 p) l.count l.fault))
    where
      last : (ps : List (List ℕ)) → (ps ≡ [] → ⊥) → cond (nothing_left ps) (contents s.sheet H) (Refused 7 (k + 1)) ≡ Gives C → rest ≡ ps → joined end_fields ≡ p → Rest s H (p ∷ rest) C
      last [] w o q f = absurd (w refl)
      last ([] ∷ []) w o q f =
          let z : 0 ≡ s.left = omega arith in
          let x : s.sheet ≡ C.sheet = cc in
          let y : H ≡ C.held = cc in
          record {
            cs = [];
            K = nothing;
            lines = (λ i. sym f i ∷ q i) ∙ ap (λ (m : ℕ). rows m [] nothing) z;
            sheet = x;
            count = omega (arith, b.upto);
            held = rw (append-nil H.lent.lows, append-nil H.lent.highs, append-nil H.lent.tables, append-nil H.ranged, append-nil H.marks) y;
          }
      last ([] ∷ (r ∷ ps)) w o q f = no_gives 7 (k + 1) C o
      last ((x ∷ r) ∷ ps) w o q f = no_gives 7 (k + 1) C o

  mark_rest : 0 < s.read → s.left ≤ 0 → s.sheet.header.channels ≤ s.read → line_tag s (split 9 p) ≡ 78 → read_from limits s H k (p ∷ rest) ≡ Gives C → Rest s H (p ∷ rest) C
  mark_rest z u v g e =
      let w = mark_read limits s H k p rest C g e in
      let m = marked w.m (block_of s.sheet w.m) in
      let r = ih s (with_mark H m) (k + 1) b z w.more in
      let none : r.cs ≡ [] = no_more_channels r.cs (omega (arith, r.count)) in
      let zero_left : s.left ≡ 0 = omega arith in
      let K = r.K in
      let marks = append_assoc H.marks (m ∷ []) K.marks in
      record {
        cs = r.cs;
        K = mark_before m K;
        lines = (λ i. sym w.row i ∷ (r.lines ∙ (λ i. rows (zero_left i) (none i) K)) i) ∙ sym (λ i. rows (zero_left i) (none i) (mark_before m K));
        sheet = r.sheet;
        count = r.count;
        held = (λ i. held (lent (H.lent.lows ++ K.lent.lows) (H.lent.highs ++ K.lent.highs) (H.lent.tables ++ K.lent.tables)) (H.ranged ++ K.ranged) (sym marks i)) ∙ r.held;
      }

  any_rest : 0 < s.read → read_from limits s H k (p ∷ rest) ≡ Gives C → Rest s H (p ∷ rest) C
  any_rest m e = by (stands s (split 9 p) (line_tag s (split 9 p)) refl)
    where
      by : Stands s (line_tag s (split 9 p)) → Rest s H (p ∷ rest) C
      by (Header-line q g) = unbegun s b.begun q
      by (Setting-line i q g) =
          let z : s.read ≡ 0 = eqb-true s.read 0 (both_left (eqb s.read 0) (ltb (last_said s.sheet.settings) i) (both_right s.begun (eqb s.read 0 && ltb (last_said s.sheet.settings) i) q)) in
          let y : ⊥ = omega arith in absurd y
      by (Block-line r q u g) = block_rest r m u g e
      by (Channel-line q u v g) = channel_rest u v g e
      by (End-line q u v g) = end_rest u v g e
      by (Mark-line q u v g) = mark_rest m u v g e

rest_from : (limits : Limits) (ps : List (List ℕ)) (C : Contents) (s : State) (H : Held) (k : ℕ) → Under s → 0 < s.read → read_from limits s H k ps ≡ Gives C → Rest s H ps C
rest_from limits [] C s H k b m e = no_gives 7 k C e
rest_from limits (p ∷ rest) C s H k b m e = any_rest limits p rest C (rest_from limits rest C) s H k b m e

-- After the header and the settings of the sheet t: the lines of more settings, or none
record Opening (t : Sheet) (ps : List (List ℕ)) (C : Contents) : Type 0 where
  y : Settings
  later : List (List ℕ)
  lines : ps ≡ lines_after (last_said t.settings) y ++ later
  agree : Agree (last_said t.settings) t.settings y
  rest : Rest (during (settled t y) 0 0) nothing later C

module _ (limits : Limits) (p : List ℕ) (rest : List (List ℕ)) (C : Contents)
    (ih : (t : Sheet) (k : ℕ) → 1 ≤ t.header.channels → read_from limits (during t 0 0) nothing k rest ≡ Gives C → Opening t rest C) (t : Sheet) (k : ℕ)
    (e : read_from limits (during t 0 0) nothing k (p ∷ rest) ≡ Gives C) where
  no_setting : Rest (during t 0 0) nothing (p ∷ rest) C → Opening t (p ∷ rest) C
  no_setting r =
      record {
        y = t.settings;
        later = p ∷ rest;
        lines = ap (λ (q : List (List ℕ)). q ++ p ∷ rest) (sym (none_after t.settings));
        agree = record { rounding = λ q. refl; start = λ q. refl; hold = λ q. refl };
        rest = r;
      }

  one_setting : (i : ℕ) → 1 ≤ t.header.channels → last_said t.settings < i → SettingTag i (line_tag (during t 0 0) (split 9 p)) → Opening t (p ∷ rest) C
  one_setting i few h g =
      let x : Settings = t.settings in
      let r = setting_read limits (during t 0 0) nothing k i p rest C g e in
      let z = r.x in
      let u : last_said x < place_of z = omega (arith, h, r.place) in
      let o = ih (settled t (with_setting x z)) (k + 1) few r.more in
      let n = now_said x z u in
      let a : Agree (place_of z) (with_setting x z) o.y = rw n at o.agree in
      record {
        y = o.y;
        later = o.later;
        lines =
            ap (λ (q : List (List ℕ)). p ∷ q) (o.lines ∙ ap (λ (m : ℕ). lines_after m o.y ++ o.later) n)
            ∙ ap (λ (q : List (List ℕ)). q ++ o.later) (sym (one_line x o.y p z u r.row a));
        agree = one_kept x o.y p z u a;
        rest = o.rest;
      }

  opening_line : 1 ≤ t.header.channels → Stands (during t 0 0) (line_tag (during t 0 0) (split 9 p)) → Opening t (p ∷ rest) C
  opening_line few (Header-line q g) = unbegun (during t 0 0) refl q
  opening_line few (Setting-line i q g) = one_setting i few (ltb-true (last_said t.settings) i q) g
  opening_line few (Block-line r q v g) = let y : ⊥ = omega arith in absurd y
  opening_line few (Channel-line q v w g) =
      no_setting (channel_rest limits p rest C (rest_from limits rest C) (during t 0 0) nothing k (record { begun = refl; upto = omega arith }) v w g e)
  opening_line few (Mark-line q v w g) = let y : ⊥ = omega arith in absurd y
  opening_line few (End-line q v w g) =
      no_setting (end_rest limits p rest C (rest_from limits rest C) (during t 0 0) nothing k (record { begun = refl; upto = omega arith }) v w g e)

opening : (limits : Limits) (ps : List (List ℕ)) (C : Contents) (t : Sheet) (k : ℕ) → 1 ≤ t.header.channels → read_from limits (during t 0 0) nothing k ps ≡ Gives C → Opening t ps C
opening limits [] C t k few e = no_gives 7 k C e
opening limits (p ∷ rest) C t k few e = opening_line limits p rest C (opening limits rest C) t k e few (stands (during t 0 0) (split 9 p) (line_tag (during t 0 0) (split 9 p)) refl)

-- The header's line, and the whole text

settings_kept : (s : Sheet) (j : ℕ) (cs : List Channel) → (placed_all s j cs).settings ≡ s.settings
settings_kept s j [] = refl
settings_kept s j (c ∷ cs) = settings_kept (placed s j c) (j + 1) cs

header_kept : (s : Sheet) (j : ℕ) (cs : List Channel) → (placed_all s j cs).header ≡ s.header
header_kept s j [] = refl
header_kept s j (c ∷ cs) = header_kept (placed s j c) (j + 1) cs

in_use : (h : Header) (r : Settings) (cs : List Channel) → length cs ≡ h.channels → h.channels ≤ 3 → channels_of (placed_all (settled (headed h) r) 0 cs) ≡ cs
in_use h r [] e k = rw (← e)
in_use h r (a ∷ []) e k = rw (← e)
in_use h r (a ∷ (b ∷ [])) e k = rw (← e)
in_use h r (a ∷ (b ∷ (c ∷ []))) e k = rw (← e)
in_use h r (a ∷ (b ∷ (c ∷ (d ∷ cs)))) e k = let y : ⊥ = omega arith in absurd y

-- the channels' lines know no mark
bare_lines : (cs : List Channel) (K : Held) → channel_lines cs (drop_held 0 0 K) ≡ channel_lines cs K
bare_lines [] K = refl
bare_lines (c ∷ cs) K = refl

-- the pieces of a text with these contents
abbrev Pieces : Contents → List (List ℕ) → Type 0
Pieces C ps = ps ≡ joined (header_fields C.sheet.header) ∷ (setting_lines C.sheet.settings ++ (channel_lines (channels_of C.sheet) C.held ++ last_rows C.held.marks))

pieces_are : (limits : Limits) (ps : List (List ℕ)) (C : Contents) → read_from limits blank nothing 1 ps ≡ Gives C → Pieces C ps
unfolding rules_of taken_if record_of
pieces_are limits [] C e = no_gives 7 1 C e
pieces_are limits (p ∷ rest) C e =
    let l = line-is (header_rules limits (split 9 p)) 1 p rest _ C (rw (first_tag (split 9 p)) at e) in
    let fs = split 9 p in
    let h = header_of fs in
    let o = opening limits rest C (headed h) 2 (some_channel limits h (header_is_legal limits fs l.count l.fault)) (rw (holds_none nothing blank.sheet 83 (header_rules limits fs) fs refl refl refl refl) at l.more) in
    let r = o.rest in
    let t = settled (headed h) o.y in
    let same : C.sheet.header ≡ h = ap (λ (s : Sheet). s.header) (sym r.sheet) ∙ header_kept t 0 r.cs in
    let set : C.sheet.settings ≡ o.y = ap (λ (s : Sheet). s.settings) (sym r.sheet) ∙ settings_kept t 0 r.cs in
    let used : channels_of C.sheet ≡ r.cs = ap channels_of (sym r.sheet) ∙ in_use h o.y r.cs (omega (arith, r.count)) (few limits h (header_is_legal limits fs l.count l.fault)) in
    let kept : C.held ≡ r.K = sym r.held in
    (λ i. sym (row_as p (header_fields h) (header_as limits fs l.count l.fault)) i ∷ (o.lines ∙ ap (λ (q : List (List ℕ)). setting_lines o.y ++ q) (r.lines ∙ ap (λ (q : List (List ℕ)). q ++ last_rows r.K.marks) (bare_lines r.cs r.K))) i)
    ∙ sym (λ i. joined (header_fields (same i)) ∷ (setting_lines (set i) ++ (channel_lines (used i) (kept i) ++ last_rows (kept i).marks)))

-- An accepted text is the written text of its contents
pub canonical : (limits : Limits) (text : List ℕ) (s : Sheet) (H : Held) → read_text limits text ≡ contents s H → text ≡ written s H
unfolding read_text written
canonical limits text s H e = two (allowed limits) e
  where
    by : read_from limits blank nothing 1 (split 10 text) ≡ contents s H → text ≡ written s H
    by o =
        let cs = channel_lines (channels_of s) H in
        let ms = mark_lines H.marks in
        let end : List (List ℕ) = joined end_fields ∷ [] in
        sym (ended_split text (joined (header_fields s.header) ∷ (setting_lines s.settings ++ (cs ++ (ms ++ end))))
        (pieces_are limits (split 10 text) (record { sheet = s; held = H }) o
        ∙ ap (λ (q : List (List ℕ)). joined (header_fields s.header) ∷ q)
        (sym (append_assoc (setting_lines s.settings) (cs ++ (ms ++ end)) ([] ∷ [])
        ∙ ap (λ (q : List (List ℕ)). setting_lines s.settings ++ q) (append_assoc cs (ms ++ end) ([] ∷ []) ∙ ap (λ (q : List (List ℕ)). cs ++ q) (append_assoc ms end ([] ∷ [])))))))

    two : (b : Bool) → cond b (read_from limits blank nothing 1 (split 10 text)) (Refused 2 0) ≡ contents s H → text ≡ written s H
    two true o = by o
    two false o = no_gives 2 0 (record { sheet = s; held = H }) o

-- A text is accepted exactly when it is the written text of a legal sheet
pub accepts : (limits : Limits) (text : List ℕ) (s : Sheet) (H : Held) → Accepts limits text s H
accepts limits text s H =
    record {
      only = λ e. record { as_written = canonical limits text s H e; legal = legal limits text s H e; blocks = legal_blocks limits text s H e; marks = legal_marks limits text s H e };
      all = λ t. ap (read_text limits) t.as_written ∙ round_trip limits s H t.legal t.blocks t.marks;
    }

-- The kinds of its blocks' lines change nothing else of what a text gives
pub equal_pairs : (limits : Limits) (text : List ℕ) (s : Sheet) (b : Lent) (one other : List Bool) (ms : List Marked) → EqualPairs limits text s b one other ms
equal_pairs limits text s b one other ms =
    record { same = λ e k. round_trip limits s (held b other ms) (legal limits text s (held b one ms) e) k (legal_marks limits text s (held b one ms) e) }
