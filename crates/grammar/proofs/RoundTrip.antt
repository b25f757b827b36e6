-- Reading what is written gives the sheet back, for every legal sheet.
use Rattle.contents.specs.declared.Letter.{Letter}
use Rattle.contents.specs.declared.Letter.TheVariants as letters
use Rattle.std.proofs.Common.{None, Some, Ok, Option}
use Prim.Native.Nat.{ℕ, zero, suc, ◌+◌, ◌-◌, ◌*◌, ◌/◌, ◌<◌, ◌≤◌}
use mathlib.Core.Path.{◌≡◌, refl, sym, ap, ◌∙◌, subst⁻¹, subst}
use mathlib.Core.List.{List, [], ◌∷◌, ◌++◌, append_assoc, append-nil}
use mathlib.Core.Bool.{Bool, true, false, cond, ◌&&◌}
use mathlib.Core.Logic.{◌⊎◌, inl, inr}
use native.Mathlib.Nat.{le_trans}
use native.Mathlib.Omega.{arith}
use lib.ListN.{length, take, drop, length-drop, length-map, take-append-drop}
use lib.Seq.{length-take-le, take-add}
use lib.IntN.{ℤ}
use borrow.Author.Tests.{eq-eqb, lt-ltb, le-ltb, le-leb}
use Rattle.text.specs.Pieces.{split}
use Rattle.text.specs.Fields.{field_of}
use Rattle.contents.specs.Legal.{LegalLimits, LegalHeader, LegalChannel, LegalQuantisers, LegalLevels, LegalRanges, LegalKinds, LegalSheet, LegalBlocks, LegalMarks}
use Rattle.digits.specs.Written.{decimal, joined}
use Rattle.text.proofs.JoinLaws.{free, all_free, split_joined, joined_free, split_ended}
use Rattle.contents.specs.declared.Limits.{Limits}
use Rattle.contents.specs.Hold.{measured, LegalHold}
use Rattle.contents.proofs.ThreeLaws.{spelled, spelled_is}
use Rattle.contents.proofs.HoldLaws.{measured_most}
use Rattle.contents.specs.declared.Header.{Header}
use Rattle.contents.specs.declared.Channel.{Channel}
use Rattle.contents.specs.declared.Settings.{Settings}
use Rattle.contents.specs.declared.Sheet.{Sheet}
use Rattle.lines.specs.declared.Setting.{Setting}
use Rattle.lines.specs.declared.Setting.TheVariants as setting
use Rattle.progress.specs.declared.State.{State}
use Rattle.lines.specs.Lines.{header_rules, rounding_rules, start_rules, hold_rules, mark_of, rules_of, field_count, first_fault, holding, channel_of, record_of}
use Rattle.contents.specs.declared.Mark.{Mark}
use Rattle.contents.specs.Marks.{block_of, has_block, among}
use Rattle.contents.specs.Sheets.{Lent, lent, Marked, marked, Held, held, nothing, channel_at, levels_to, channels_of}
use Rattle.progress.specs.Progress.{headed, blank, last_said, line_tag, with_setting, settled, placed, covers, most_blocks, exists, taken_if}
use Rattle.sheet.specs.Reading.{contents, taken_of, is_last, read_from, allowed, read_text}
use Rattle.sheet.specs.Reading.Outcome.{Refused}
use Rattle.grammar.specs.Written.{header_fields, hold_fields, channel_fields, block_fields, end_fields, setting_line, line_if, setting_lines, block_lines, drop_held, channel_lines, mark_fields, mark_lines, written}
use Rattle.sheet.proofs.WalkLaws.{line_next, line_end}
use Rattle.lines.proofs.GoodLines.{holds_none, with_table, holds_table}
use Rattle.grammar.proofs.SettingLaws.{place_of, LegalSetting, hold_within}
use Rattle.grammar.proofs.MarkLaws.{with_mark, holds_mark, place-of, few_marks}
use Rattle.grammar.proofs.BlockLaws.{Block, with_block, block_first, drop_levels, drop_ranges, kinds_take, kinds_drop}
use Rattle.grammar.proofs.LegalLaws.{blocks}
use Rattle.grammar.proofs.RowLaws.{SixDigits, SmallMark, mark_good, mark_back, mark_free, mark_short, header_good, header_back, header_free, header_short, hold_good, hold_back, hold_free, channel_good, channel_said, channel_back, channel_free, channel_short, block_good, block_holds, block-count, block_free, block_short, end_good}

-- One good row

pub read_row : (limits : Limits) (s : State) (H : Held) (k : ℕ) (fs : List (List ℕ)) (rest : List (List ℕ)) (tag : ℕ) → tag ≡ line_tag s fs → (tag ≡ 69 → ⊥)
    → 1 ≤ length fs → all_free 9 fs ≡ true → length (joined fs) ≤ 1024 → is_last rest ≡ false → length fs ≡ field_count tag → first_fault (rules_of tag limits s.sheet.header fs) fs ≡ None
    → (u : State) → taken_of s H.marks (record_of tag fs) ≡ Ok u
    → read_from limits s H k (joined fs ∷ rest) ≡ read_from limits u (holding H s.sheet tag (rules_of tag limits s.sheet.header fs) fs) (k + 1) rest
read_row limits s H k fs rest tag g t n c h e m f u o =
    let w : split 9 (joined fs) ≡ fs = split_joined fs n c in
    sym (line_next limits s H k (joined fs) rest (read_from limits s H k (joined fs ∷ rest)) refl tag (subst⁻¹ (λ (x : List (List ℕ)). tag ≡ line_tag s x) w g) h e
    (subst⁻¹ (λ (x : List (List ℕ)). length x ≡ field_count tag) w m)
    (subst⁻¹ (λ (x : List (List ℕ)). first_fault (rules_of tag limits s.sheet.header x) x ≡ None) w f) t u
    (subst⁻¹ (λ (x : List (List ℕ)). taken_of s H.marks (record_of tag x) ≡ Ok u) w o))
    ∙ ap (λ (x : List (List ℕ)). read_from limits u (holding H s.sheet tag (rules_of tag limits s.sheet.header x) x) (k + 1) rest) w

more-left : (ps qs : List (List ℕ)) → is_last qs ≡ false → is_last (ps ++ qs) ≡ false
more-left [] qs h = h
more-left (p ∷ ps) qs h = refl

-- The state while a channel's blocks are read

abbrev pub during : Sheet → ℕ → ℕ → State
during s j n = record { begun = true; sheet = s; read = j; left = n }

take_quantisers : (n : ℕ) (ts : List ℕ) → LegalQuantisers ts → LegalQuantisers (take n ts)
take_quantisers zero ts l = tt
take_quantisers (suc n) [] l = tt
take_quantisers (suc n) (z ∷ ts) l = (l.0, take_quantisers n ts l.1)

drop_quantisers : (n : ℕ) (ts : List ℕ) → LegalQuantisers ts → LegalQuantisers (drop n ts)
drop_quantisers zero ts l = l
drop_quantisers (suc n) [] l = tt
drop_quantisers (suc n) (z ∷ ts) l = drop_quantisers n ts l.1

-- what is held, and more: blocks and tables
abbrev pub join_held : Held → Held → Held
join_held H K =
    held (lent (H.lent.lows ++ K.lent.lows) (H.lent.highs ++ K.lent.highs) (H.lent.tables ++ K.lent.tables)) (H.ranged ++ K.ranged) (H.marks ++ K.marks)

-- the same but for the marks
abbrev add_held : Held → Held → Held
add_held H K =
    held (lent (H.lent.lows ++ K.lent.lows) (H.lent.highs ++ K.lent.highs) (H.lent.tables ++ K.lent.tables)) (H.ranged ++ K.ranged) H.marks

module _ (limits : Limits) (rest : List (List ℕ)) (more : is_last rest ≡ false) (s : Sheet) (j : ℕ) where
  -- one block
  read_block : (n : ℕ) (H : Held) (r : Bool) (ls hs : List ℤ) (k : ℕ) (after : List (List ℕ)) → is_last after ≡ false → Block r ls hs
      → read_from limits (during s j (suc n)) H k (joined (block_fields r ls hs) ∷ after) ≡ read_from limits (during s j n) (with_block H r ls hs) (k + 1) after
  unfolding line_tag rules_of record_of taken_if
  read_block n H false ls hs k after e b =
      let fs = block_fields false ls hs in
      let fewer : suc n - 1 ≡ n = omega arith in
      read_row limits (during s j (suc n)) H k fs after 66 (rw (lt-ltb 0 (suc n) (omega arith))) (λ q. omega arith) (omega arith) (block_free 9 (omega arith) false ls hs) (block_short false ls hs b) e
      (block-count false ls hs b) (block_good ls hs false b) (during s j n) (rw fewer)
      ∙ ap (λ (K : Held). read_from limits (during s j n) K (k + 1) after) (block_holds ls hs false b H s)
  read_block n H true ls hs k after e b =
      let fs = block_fields true ls hs in
      let fewer : suc n - 1 ≡ n = omega arith in
      read_row limits (during s j (suc n)) H k fs after 71 (rw (lt-ltb 0 (suc n) (omega arith))) (λ q. omega arith) (omega arith) (block_free 9 (omega arith) true ls hs) (block_short true ls hs b) e
      (block-count true ls hs b) (block_good ls hs true b) (during s j n) (rw fewer)
      ∙ ap (λ (K : Held). read_from limits (during s j n) K (k + 1) after) (block_holds ls hs true b H s)

  -- the blocks of a channel
  read_blocks : (rs : List Bool) (H : Held) (ls hs : List ℤ) (k : ℕ) → 64 * length rs ≤ length ls → 64 * length rs ≤ length hs → LegalLevels ls → LegalLevels hs → LegalRanges ls hs → LegalKinds rs ls hs
      → read_from limits (during s j (length rs)) H k (block_lines rs ls hs ++ rest)
      ≡ read_from limits (during s j 0) (add_held H (held (lent (take (64 * length rs) ls) (take (64 * length rs) hs) []) rs [])) (k + length rs) rest
  read_blocks [] H ls hs k n m l h o q =
      let e : k + 0 ≡ k = omega arith in
      rw (e, append-nil H.lent.lows, append-nil H.lent.highs, append-nil H.lent.tables, append-nil H.ranged)
  read_blocks (r ∷ rs) H ls hs k n m l h o q =
      let a : 64 * suc (length rs) ≡ 64 + 64 * length rs = omega arith in
      let b : k + suc (length rs) ≡ k + 1 + length rs = omega arith in
      let x = take 64 ls in
      let y = take 64 hs in
      read_block (length rs) H r x y k (block_lines rs (drop 64 ls) (drop 64 hs) ++ rest) (more-left (block_lines rs (drop 64 ls) (drop 64 hs)) rest more)
      (block_first r rs ls hs (omega arith) (omega arith) l h o q)
      ∙ read_blocks rs (with_block H r x y) (drop 64 ls) (drop 64 hs) (k + 1) (omega (arith, length-drop 64 ls)) (omega (arith, length-drop 64 hs)) (drop_levels 64 ls l) (drop_levels 64 hs h)
      (drop_ranges 64 ls hs o) q.1
      ∙ rw (
        b,
        a,
        take-add 64 (64 * length rs) ls,
        take-add 64 (64 * length rs) hs,
        append_assoc H.lent.lows x (take (64 * length rs) (drop 64 ls)),
        append_assoc H.lent.highs y (take (64 * length rs) (drop 64 hs)),
        append_assoc H.ranged (r ∷ []) rs,
      )

-- A channel's line, and its blocks

covered : (h : Header) (c : Channel) → LegalChannel h c → covers h c ≡ true
covered h c l = rw (le-leb (c.width * c.across) h.width l.wide, le-leb (c.height * c.down) h.height l.high)

module _ (limits : Limits) where
  read_opening : (s : Sheet) (j : ℕ) (c : Channel) (H : Held) (qs : List ℕ) (k : ℕ) (after : List (List ℕ)) → is_last after ≡ false
      → j < s.header.channels → SixDigits s.header → LegalChannel s.header c → length qs ≡ 64 → LegalQuantisers qs
      → read_from limits (during s j 0) H k (joined (channel_fields c qs) ∷ after) ≡ read_from limits (during (placed s j c) (j + 1) (c.width * c.height / 64)) (with_table H qs) (k + 1) after
  unfolding line_tag rules_of field_count record_of taken_if
  read_opening s j c H qs k after e h x l m g =
      let fs = channel_fields c qs in
      let b : channel_of fs ≡ c = channel_back s.header x c l qs m g in
      read_row limits (during s j 0) H k fs after 67 (rw (lt-ltb j s.header.channels h)) (λ q. omega arith) (omega arith) (channel_free 9 (omega arith) c qs)
      (channel_short s.header x c l qs m g) e
      (omega (arith, length-map qs decimal)) (channel_good s.header x c l qs m g) (during (placed s j c) (j + 1) (c.width * c.height / 64))
      (rw (b, covered s.header c l))
      ∙ ap (λ (K : Held). read_from limits (during (placed s j c) (j + 1) (c.width * c.height / 64)) K (k + 1) after)
      (holds_table H s fs ∙ ap (λ (q : List ℕ). with_table H q) (channel_said s.header x c l qs m g))

-- All channels

abbrev pub placed_all : Sheet → ℕ → List Channel → Sheet
placed_all s j [] = s
placed_all s j (c ∷ cs) = placed_all (placed s j c) (j + 1) cs

abbrev levels_in : List Channel → ℕ
levels_in [] = 0
levels_in (c ∷ cs) = c.width * c.height + levels_in cs

abbrev LegalChannels : Header → List Channel → Type 0
LegalChannels h [] = Unit {0}
LegalChannels h (c ∷ cs) = LegalChannel h c × LegalChannels h cs

-- what is still to be written for these channels
record Left (cs : List Channel) (K : Held) : Type 0 where
  low_count : length K.lent.lows ≡ levels_in cs
  high_count : length K.lent.highs ≡ levels_in cs
  kinds_count : 64 * length K.ranged ≡ levels_in cs
  table-count : length K.lent.tables ≡ 64 * length cs
  lows : LegalLevels K.lent.lows
  highs : LegalLevels K.lent.highs
  ranges : LegalRanges K.lent.lows K.lent.highs
  kinds : LegalKinds K.ranged K.lent.lows K.lent.highs
  tables : LegalQuantisers K.lent.tables

none-of : {A : Type 0} (l : List A) → length l ≡ 0 → l ≡ []
none-of [] e = refl
none-of (x ∷ l) e = let y : ⊥ = omega arith in absurd y

no_channels : (K : Held) → Left [] K → held K.lent K.ranged [] ≡ nothing
no_channels K l = λ i.
    held (lent (none-of K.lent.lows l.low_count i) (none-of K.lent.highs l.high_count i) (none-of K.lent.tables l.table-count i))
    (none-of K.ranged (omega (arith, l.kinds_count)) i) []

module _ (c : Channel) (cs : List Channel) (K : Held) (l : Left (c ∷ cs) K) (n : ℕ) (w : 64 * n ≡ c.width * c.height) where
  left_after : Left cs (drop_held n 64 K)
  left_after =
      record {
        low_count = length-drop (64 * n) K.lent.lows ∙ omega (arith, l.low_count);
        high_count = length-drop (64 * n) K.lent.highs ∙ omega (arith, l.high_count);
        kinds_count = omega (arith, length-drop n K.ranged, l.kinds_count);
        table-count = length-drop 64 K.lent.tables ∙ omega (arith, l.table-count);
        lows = drop_levels (64 * n) K.lent.lows l.lows;
        highs = drop_levels (64 * n) K.lent.highs l.highs;
        ranges = drop_ranges (64 * n) K.lent.lows K.lent.highs l.ranges;
        kinds = kinds_drop n K.ranged K.lent.lows K.lent.highs l.kinds;
        tables = drop_quantisers 64 K.lent.tables l.tables;
      }

  -- as many kinds as blocks
  kinds_of : length (take n K.ranged) ≡ n
  kinds_of = length-take-le n K.ranged (omega (arith, l.kinds_count))

-- the first n blocks and the first table, then what is left
split_held : (H K : Held) (n : ℕ)
    → add_held (add_held (with_table H (take 64 K.lent.tables)) (held (lent (take (64 * n) K.lent.lows) (take (64 * n) K.lent.highs) []) (take n K.ranged) [])) (drop_held n 64 K) ≡ add_held H K
split_held H K n =
    rw (
      append-nil (H.lent.tables ++ take 64 K.lent.tables),
      append_assoc H.lent.lows (take (64 * n) K.lent.lows) (drop (64 * n) K.lent.lows),
      append_assoc H.lent.highs (take (64 * n) K.lent.highs) (drop (64 * n) K.lent.highs),
      append_assoc H.lent.tables (take 64 K.lent.tables) (drop 64 K.lent.tables),
      append_assoc H.ranged (take n K.ranged) (drop n K.ranged),
      take-append-drop (64 * n) K.lent.lows,
      take-append-drop (64 * n) K.lent.highs,
      take-append-drop 64 K.lent.tables,
      take-append-drop n K.ranged,
    )

read_channels : (limits : Limits) (rest : List (List ℕ)) → is_last rest ≡ false → (cs : List Channel) (s : Sheet) (j : ℕ) (H K : Held) (k : ℕ)
    → j + length cs ≡ s.header.channels → SixDigits s.header → LegalChannels s.header cs → Left cs K
    → (m : ℕ) × (read_from limits (during s j 0) H k (channel_lines cs K ++ rest) ≡ read_from limits (during (placed_all s j cs) (j + length cs) 0) (add_held H K) m rest)
read_channels limits rest more [] s j H K k h v l a = (
  k,
  let e : j + 0 ≡ j = omega arith in
      rw e
      (sym (ap (λ (Q : Held). read_from limits (during s j 0) (add_held H Q) k rest) (no_channels K a)
      ∙ rw (append-nil H.lent.lows, append-nil H.lent.highs, append-nil H.lent.tables, append-nil H.ranged))),
)
read_channels limits rest more (c ∷ cs) s j H K k h v l a =
    let n = c.width * c.height / 64 in
    let w : 64 * n ≡ c.width * c.height = blocks c.width c.height l.0.width.whole l.0.height.whole in
    let rs = take n K.ranged in
    let ls = K.lent.lows in
    let hs = K.lent.highs in
    let q = kinds_of c cs K a n w in
    let K' = drop_held n 64 K in
    let later = channel_lines cs K' in
    let H₁ = with_table H (take 64 K.lent.tables) in
    let H₂ = add_held H₁ (held (lent (take (64 * n) ls) (take (64 * n) hs) []) rs []) in
    let t = placed s j c in
    let ih = read_channels limits rest more cs t (j + 1) H₂ K' (k + 1 + n) (omega arith) v l.1 (left_after c cs K a n w) in
    let e : j + 1 + length cs ≡ j + suc (length cs) = omega arith in (
      ih.0,
      ap (λ (z : List (List ℕ)). read_from limits (during s j 0) H k (joined (channel_fields c (take 64 K.lent.tables)) ∷ z)) (append_assoc (block_lines rs ls hs) later rest)
          ∙ read_opening limits s j c H (take 64 K.lent.tables) k (block_lines rs ls hs ++ (later ++ rest)) (more-left (block_lines rs ls hs) (later ++ rest) (more-left later rest more)) (omega arith) v l.0
          (length-take-le 64 K.lent.tables (omega (arith, a.table-count))) (take_quantisers 64 K.lent.tables a.tables)
          ∙ ap (λ (x : ℕ). read_from limits (during t (j + 1) x) H₁ (k + 1) (block_lines rs ls hs ++ (later ++ rest))) (sym q)
          ∙ read_blocks limits (later ++ rest) (more-left later rest more) t (j + 1) rs H₁ ls hs (k + 1) (omega (arith, q, w, a.low_count)) (omega (arith, q, w, a.high_count)) a.lows a.highs a.ranges
          (kinds_take n K.ranged ls hs a.kinds)
          ∙ ap (λ (x : ℕ). read_from limits (during t (j + 1) 0) (add_held H₁ (held (lent (take (64 * x) ls) (take (64 * x) hs) []) rs [])) (k + 1 + x) (later ++ rest)) q
          ∙ ih.1
          ∙ (λ i. read_from limits (during (placed_all t (j + 1) cs) (e i) 0) (split_held H K n i) ih.0 rest),
    )

-- The whole text

read_end : (limits : Limits) (s : Sheet) (j : ℕ) (H : Held) (k : ℕ) → s.header.channels ≤ j → read_from limits (during s j 0) H k (joined end_fields ∷ [] ∷ []) ≡ contents s H
unfolding line_tag rules_of field_count
read_end limits s j H k h =
    line_end limits (during s j 0) H k (69 ∷ []) ([] ∷ []) (read_from limits (during s j 0) H k ((69 ∷ []) ∷ [] ∷ [])) refl 69 (rw (le-ltb j s.header.channels h)) (omega arith) refl refl end_good refl refl

read_header : (limits : Limits) → LegalLimits limits → (h : Header) → LegalHeader limits h → (rest : List (List ℕ)) → is_last rest ≡ false
    → read_from limits blank nothing 1 (joined (header_fields h) ∷ rest) ≡ read_from limits (during (headed h) 0 0) nothing 2 rest
unfolding blank line_tag rules_of field_count record_of taken_if
read_header limits most h l rest e =
    let fs = header_fields h in
    read_row limits blank nothing 1 fs rest 83 refl (λ q. omega arith) (omega arith) (header_free 9 (omega arith) h) (header_short limits most h l) e
    refl (header_good limits most h l) (during (headed h) 0 0) (rw (header_back limits most h l))
    ∙ ap (λ (K : Held). read_from limits (during (headed h) 0 0) K 2 rest) (holds_none nothing blank.sheet 83 (header_rules limits fs) fs refl refl refl refl)

-- a setting's line, where it may stand
read_setting : (limits : Limits) (rest : List (List ℕ)) → is_last rest ≡ false → (t : Sheet) → ((c : ℕ) → measured t.header c ≤ 1000) → (k : ℕ) (z : Setting) → LegalSetting t.header z → last_said t.settings < place_of z
    → (m : ℕ) × (read_from limits (during t 0 0) nothing k (setting_line z ++ rest) ≡ read_from limits (during (settled t (with_setting t.settings z)) 0 0) nothing m rest)
unfolding line_tag rules_of field_count record_of taken_if field_of
read_setting limits rest e t most k (setting.Rounding letters.First) g h =
    let fs : List (List ℕ) = (70 ∷ []) ∷ (116 ∷ []) ∷ [] in (
      k + 1,
      read_row limits (during t 0 0) nothing k fs rest 70 (rw (lt-ltb (last_said t.settings) 1 h)) (λ q. omega arith) (omega arith) refl (omega arith) e refl refl _ refl
          ∙ ap (λ (K : Held). read_from limits (during (settled t (with_setting t.settings (setting.Rounding letters.First))) 0 0) K (k + 1) rest) (holds_none nothing t 70 rounding_rules fs refl refl refl refl),
    )
read_setting limits rest e t most k (setting.Rounding letters.Second) g h =
    let fs : List (List ℕ) = (70 ∷ []) ∷ (110 ∷ []) ∷ [] in (
      k + 1,
      read_row limits (during t 0 0) nothing k fs rest 70 (rw (lt-ltb (last_said t.settings) 1 h)) (λ q. omega arith) (omega arith) refl (omega arith) e refl refl _ refl
          ∙ ap (λ (K : Held). read_from limits (during (settled t (with_setting t.settings (setting.Rounding letters.Second))) 0 0) K (k + 1) rest) (holds_none nothing t 70 rounding_rules fs refl refl refl refl),
    )
read_setting limits rest e t most k (setting.Start letters.First) g h =
    let fs : List (List ℕ) = (65 ∷ []) ∷ (109 ∷ []) ∷ [] in (
      k + 1,
      read_row limits (during t 0 0) nothing k fs rest 65 (rw (lt-ltb (last_said t.settings) 2 h)) (λ q. omega arith) (omega arith) refl (omega arith) e refl refl _ refl
          ∙ ap (λ (K : Held). read_from limits (during (settled t (with_setting t.settings (setting.Start letters.First))) 0 0) K (k + 1) rest) (holds_none nothing t 65 start_rules fs refl refl refl refl),
    )
read_setting limits rest e t most k (setting.Start letters.Second) g h =
    let fs : List (List ℕ) = (65 ∷ []) ∷ (111 ∷ []) ∷ [] in (
      k + 1,
      read_row limits (during t 0 0) nothing k fs rest 65 (rw (lt-ltb (last_said t.settings) 2 h)) (λ q. omega arith) (omega arith) refl (omega arith) e refl refl _ refl
          ∙ ap (λ (K : Held). read_from limits (during (settled t (with_setting t.settings (setting.Start letters.Second))) 0 0) K (k + 1) rest) (holds_none nothing t 65 start_rules fs refl refl refl refl),
    )
read_setting limits rest e t most k (setting.Hold l) g h =
    let fs = hold_fields l in
    let six : (c : ℕ) → measured t.header c ≤ 999999 = λ c. omega (arith, most c) in
    let u = during (settled t (with_setting t.settings (setting.Hold l))) 0 0 in (
      k + 1,
      read_row limits (during t 0 0) nothing k fs rest 72 (rw (lt-ltb (last_said t.settings) 3 h)) (λ q. omega arith) (omega arith) (hold_free 9 (omega arith) l)
          (omega (arith, hold_within t.header most l g)) e refl (hold_good t.header six l g) u (rw (hold_back t.header six l g))
          ∙ ap (λ (K : Held). read_from limits u K (k + 1) rest) (holds_none nothing t 72 (hold_rules t.header) fs refl refl refl refl),
    )

-- the settings' lines, one after the other, where each may be left out
module _ (limits : Limits) (h : Header) (most : (c : ℕ) → measured h c ≤ 1000) (rest : List (List ℕ)) (e : is_last rest ≡ false) (k : ℕ) where
  read_rounding : (o : Option Letter)
      → (m : ℕ) × (read_from limits (during (headed h) 0 0) nothing k (line_if setting.Rounding o ++ rest) ≡ read_from limits (during (settled (headed h) (record { rounding = o; start = None; hold = None })) 0 0) nothing m rest)
  read_rounding None = (k, refl)
  read_rounding (Some r) = read_setting limits rest e (headed h) most k (setting.Rounding r) tt (omega arith)

  read_start : (r o : Option Letter)
      → (m : ℕ)
      × (read_from limits (during (settled (headed h) (record { rounding = r; start = None; hold = None })) 0 0) nothing k (line_if setting.Start o ++ rest)
      ≡ read_from limits (during (settled (headed h) (record { rounding = r; start = o; hold = None })) 0 0) nothing m rest)
  read_start r None = (k, refl)
  read_start r (Some a) = read_setting limits rest e (settled (headed h) (record { rounding = r; start = None; hold = None })) most k (setting.Start a) tt (below r)
    where
      below : (r : Option Letter) → last_said (record { rounding = r; start = None; hold = None }) < 2
      below None = omega arith
      below (Some r) = omega arith

  read_hold : (r a : Option Letter) (o : Option (List ℕ)) → LegalHold h o
      → (m : ℕ)
      × (read_from limits (during (settled (headed h) (record { rounding = r; start = a; hold = None })) 0 0) nothing k (line_if setting.Hold o ++ rest)
      ≡ read_from limits (during (settled (headed h) (record { rounding = r; start = a; hold = o })) 0 0) nothing m rest)
  read_hold r a None g = (k, refl)
  read_hold r a (Some l) g = read_setting limits rest e (settled (headed h) (record { rounding = r; start = a; hold = None })) most k (setting.Hold l) g (under r a)
    where
      under : (r a : Option Letter) → last_said (record { rounding = r; start = a; hold = None }) < 3
      under None None = omega arith
      under (Some r) None = omega arith
      under r (Some a) = omega arith

read_settings : (limits : Limits) (h : Header) → ((c : ℕ) → measured h c ≤ 1000) → (x : Settings) → LegalHold h x.hold → (rest : List (List ℕ)) → is_last rest ≡ false
    → (m : ℕ) × (read_from limits (during (headed h) 0 0) nothing 2 (setting_lines x ++ rest) ≡ read_from limits (during (settled (headed h) x) 0 0) nothing m rest)
read_settings limits h most x g rest e =
    let F = line_if setting.Rounding x.rounding in
    let A = line_if setting.Start x.start in
    let O = line_if setting.Hold x.hold in
    let more = more-left O rest e in
    let f = read_rounding limits h most (A ++ (O ++ rest)) (more-left A (O ++ rest) more) 2 x.rounding in
    let a = read_start limits h most (O ++ rest) more f.0 x.rounding x.start in
    let o = read_hold limits h most rest e a.0 x.rounding x.start x.hold g in (
      o.0,
      ap (λ (q : List (List ℕ)). read_from limits (during (headed h) 0 0) nothing 2 q)
          (append_assoc F (A ++ O) rest ∙ ap (λ (q : List (List ℕ)). F ++ q) (append_assoc A O rest))
          ∙ f.1
          ∙ a.1
          ∙ o.1,
    )

-- the lines have no line end in them
free_setting : (z : Setting) → all_free 10 (setting_line z) ≡ true
free_setting (setting.Rounding letters.First) = refl
free_setting (setting.Rounding letters.Second) = refl
free_setting (setting.Start letters.First) = refl
free_setting (setting.Start letters.Second) = refl
free_setting (setting.Hold l) = rw (joined_free (hold_fields l) (hold_free 10 (omega arith) l))

free_if : {A : Type 0} (make : A → Setting) (o : Option A) → all_free 10 (line_if make o) ≡ true
free_if make None = refl
free_if make (Some x) = free_setting (make x)

pub free_blocks : (rs : List Bool) (ls hs : List ℤ) → all_free 10 (block_lines rs ls hs) ≡ true
free_blocks [] ls hs = refl
free_blocks (r ∷ rs) ls hs =
    rw (joined_free (block_fields r (take 64 ls) (take 64 hs)) (block_free 10 (omega arith) r (take 64 ls) (take 64 hs))) (free_blocks rs (drop 64 ls) (drop 64 hs))

pub free_both : (ps qs : List (List ℕ)) → all_free 10 ps ≡ true → all_free 10 qs ≡ true → all_free 10 (ps ++ qs) ≡ true
free_both [] qs a b = b
free_both (p ∷ ps) qs a b = two (free 10 p) a (free_both ps qs)
  where
    two : (t : Bool) → (t && all_free 10 ps) ≡ true → (all_free 10 ps ≡ true → all_free 10 qs ≡ true → all_free 10 (ps ++ qs) ≡ true) → (t && all_free 10 (ps ++ qs)) ≡ true
    two true o ih = ih o b
    two false o ih = o

pub free_settings : (x : Settings) → all_free 10 (setting_lines x) ≡ true
free_settings x =
    let A = line_if setting.Start x.start in
    let O = line_if setting.Hold x.hold in
    free_both (line_if setting.Rounding x.rounding) (A ++ O) (free_if setting.Rounding x.rounding) (free_both A O (free_if setting.Start x.start) (free_if setting.Hold x.hold))

pub free_channels : (cs : List Channel) (H : Held) → all_free 10 (channel_lines cs H) ≡ true
free_channels [] H = refl
free_channels (c ∷ cs) H =
    let n = c.width * c.height / 64 in
    rw (joined_free (channel_fields c (take 64 H.lent.tables)) (channel_free 10 (omega arith) c (take 64 H.lent.tables)))
    (free_both (block_lines (take n H.ranged) H.lent.lows H.lent.highs) (channel_lines cs (drop_held n 64 H)) (free_blocks (take n H.ranged) H.lent.lows H.lent.highs)
    (free_channels cs (drop_held n 64 H)))

pub free_marks : (ms : List Marked) → all_free 10 (mark_lines ms) ≡ true
free_marks [] = refl
free_marks (m ∷ ms) = rw (joined_free (mark_fields m.at) (mark_free 10 (omega arith) m.at)) (free_marks ms)

written_lines : (s : Sheet) (H : Held)
    → split 10 (written s H) ≡ joined (header_fields s.header) ∷ (setting_lines s.settings ++ (channel_lines (channels_of s) H ++ (mark_lines H.marks ++ joined end_fields ∷ [] ∷ [])))
unfolding written
written_lines s H =
    let cs = channel_lines (channels_of s) H in
    let xs = setting_lines s.settings in
    let ms = mark_lines H.marks in
    let end : List (List ℕ) = joined end_fields ∷ [] in
    split_ended (joined (header_fields s.header) ∷ (xs ++ (cs ++ (ms ++ end))))
    (rw (joined_free (header_fields s.header) (header_free 10 (omega arith) s.header))
    (free_both xs (cs ++ (ms ++ end)) (free_settings s.settings) (free_both cs (ms ++ end) (free_channels (channels_of s) H) (free_both ms end (free_marks H.marks) refl))))
    ∙ ap (λ (q : List (List ℕ)). joined (header_fields s.header) ∷ q)
    (append_assoc xs (cs ++ (ms ++ end)) ([] ∷ [])
    ∙ ap (λ (q : List (List ℕ)). xs ++ q) (append_assoc cs (ms ++ end) ([] ∷ []) ∙ ap (λ (q : List (List ℕ)). cs ++ q) (append_assoc ms end ([] ∷ []))))

-- the marks

-- a mark's block in a legal sheet is one of few
pub small_mark : (limits : Limits) (s : Sheet) (b : Lent) → LegalSheet limits s b → (m : Mark) → has_block s m ≡ true → SmallMark m × (block_of s m < most_blocks)
small_mark limits s b l m e = few_marks limits s b l m (place-of s m e)

read_marks : (limits : Limits) (b : Lent) (s : Sheet) → LegalSheet limits s b → (j : ℕ) → s.header.channels ≤ j → (rest : List (List ℕ)) → is_last rest ≡ false → (ms : List Marked) (H : Held) (k : ℕ)
    → LegalMarks s H.marks ms
    → (n : ℕ) × (read_from limits (during s j 0) H k (mark_lines ms ++ rest) ≡ read_from limits (during s j 0) (held H.lent H.ranged (H.marks ++ ms)) n rest)
unfolding line_tag rules_of field_count record_of taken_if exists
read_marks limits b s l j h rest more [] H k g = (k, ap (λ (x : List Marked). read_from limits (during s j 0) (held H.lent H.ranged x) k rest) (sym (append-nil H.marks)))
read_marks limits b s l j h rest more (m ∷ ms) H k g =
    let fs = mark_fields m.at in
    let u = small_mark limits s b l m.at g.0.has in
    let back : mark_of fs ≡ m.at = mark_back m.at u.0 in
    let K = with_mark H m in
    let ih = read_marks limits b s l j h rest more ms K (k + 1) g.1 in
    let same : marked (mark_of fs) (block_of s (mark_of fs)) ≡ m = rw back (λ i. marked m.at (sym g.0.block i)) in
    let free : among (block_of s m.at) H.marks ≡ false = rw (← g.0.block) g.0.once in (
      ih.0,
      read_row limits (during s j 0) H k fs (mark_lines ms ++ rest) 78 (rw (le-ltb j s.header.channels h)) (λ q. omega arith) (omega arith) (mark_free 9 (omega arith) m.at) (mark_short m.at u.0)
          (more-left (mark_lines ms) rest more) refl (mark_good m.at u.0) (during s j 0)
          (rw (back, g.0.has, lt-ltb (block_of s m.at) most_blocks u.1, free))
          ∙ ap (λ (x : Held). read_from limits (during s j 0) x (k + 1) (mark_lines ms ++ rest)) (holds_mark H s fs ∙ ap (with_mark H) same)
          ∙ ih.1
          ∙ ap (λ (x : List Marked). read_from limits (during s j 0) (held H.lent H.ranged x) ih.0 rest) (append_assoc H.marks (m ∷ []) ms),
    )

-- a sheet before its channels
abbrev opening : Sheet → Sheet
opening s = settled (headed s.header) s.settings

-- the first n channels are those that are placed
abbrev channels_to : Sheet → ℕ → List Channel
channels_to s n = take n s.channels

record Used (s : Sheet) (n : ℕ) : Type 0 where
  count : length (channels_to s n) ≡ n
  levels : levels_to s n ≡ levels_in (channels_to s n)
  legal : LegalChannels s.header (channels_to s n)
  placed : placed_all (opening s) 0 (channels_to s n) ≡ s

used : (limits : Limits) (s : Sheet) (b : Lent) → LegalSheet limits s b → Used s s.header.channels
used limits s b l = subst (λ (v : Sheet). Used v s.header.channels) (spelled_is s l.three_channels) (by l.header.channels)
  where
    by : (s.header.channels ≡ 1) ⊎ (s.header.channels ≡ 3) → Used (spelled s) s.header.channels
    by (inl e) =
        let p = l.spare 1 (omega arith) (omega arith) in
        let q = l.spare 2 (omega arith) (omega arith) in
        subst⁻¹ (Used (spelled s)) e
        (record {
          count = refl;
          levels = omega arith;
          legal = (l.channel 0 (omega arith), tt);
          placed = λ i. record { header = s.header; settings = s.settings; channels = channel_at s 0 ∷ sym p i ∷ sym q i ∷ [] };
        })
    by (inr e) =
        subst⁻¹ (Used (spelled s)) e
        (record {
          count = refl;
          levels = omega arith;
          legal = (l.channel 0 (omega arith), (l.channel 1 (omega arith), (l.channel 2 (omega arith), tt)));
          placed = refl;
        })

allowed_true : (limits : Limits) → LegalLimits limits → allowed limits ≡ true
allowed_true limits l = rw (eq-eqb _ _ l.side.whole, le-leb _ _ l.side.low, le-leb _ _ l.side.top, le-leb _ _ l.iterations)

-- Reading what is written gives the sheet back
pub round_trip : (limits : Limits) (s : Sheet) (H : Held) → LegalSheet limits s H.lent → LegalBlocks H → LegalMarks s [] H.marks → read_text limits (written s H) ≡ contents s H
unfolding read_text
round_trip limits s H l b g =
    let u = used limits s H.lent l in
    let cs = channels_of s in
    let end : List (List ℕ) = joined end_fields ∷ [] ∷ [] in
    let later : List (List ℕ) = mark_lines H.marks ++ end in
    let open-end = more-left (mark_lines H.marks) end refl in
    let f = read_settings limits s.header (λ c. le_trans (measured_most s.header limits l.header c) l.limits_legal.iterations) s.settings l.hold (channel_lines cs H ++ later) (more-left (channel_lines cs H) later open-end) in
    let a : Left cs H =
    record {
      low_count = l.lows_count ∙ u.levels;
      high_count = l.highs_count ∙ u.levels;
      kinds_count = b.kinds_count ∙ l.lows_count ∙ u.levels;
      table-count = l.tables_count ∙ ap (λ (n : ℕ). 64 * n) (sym u.count);
      lows = l.lows;
      highs = l.highs;
      ranges = l.ranges;
      kinds = b.kinds;
      tables = l.tables;
    } in
    let r =
    read_channels limits later open-end cs (opening s) 0 nothing H f.0 (omega (arith, u.count)) (omega (arith, l.limits_legal.side.top, l.header.width.top), omega (arith, l.limits_legal.side.top, l.header.height.top)) u.legal a in
    let k = read_marks limits H.lent s l (0 + length cs) (omega (arith, u.count)) end refl H.marks (held H.lent H.ranged []) r.0 g in
    ap (λ (b : Bool). cond b (read_from limits blank nothing 1 (split 10 (written s H))) (Refused 2 0)) (allowed_true limits l.limits_legal)
    ∙ ap (λ (ps : List (List ℕ)). read_from limits blank nothing 1 ps) (written_lines s H)
    ∙ read_header limits l.limits_legal s.header l.header (setting_lines s.settings ++ (channel_lines cs H ++ later)) (more-left (setting_lines s.settings) (channel_lines cs H ++ later) (more-left (channel_lines cs H) later open-end))
    ∙ f.1
    ∙ r.1
    ∙ ap (λ (v : Sheet). read_from limits (during v (0 + length cs) 0) (held H.lent H.ranged []) r.0 later) u.placed
    ∙ k.1
    ∙ read_end limits s (0 + length cs) H k.0 (omega (arith, u.count))
