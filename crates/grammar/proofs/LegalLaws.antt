-- Every sheet that is read is legal.
use Rattle.refusal.specs.declared.Refusal.TheVariants as refusal
use Rattle.std.proofs.Common.{Some, None, Option, Ok, Err}
use Prim.Native.Nat.{ℕ, zero, suc, ◌+◌, ◌-◌, ◌*◌, ◌/◌, ◌%◌, ◌<◌, ◌≤◌}
use mathlib.Core.Path.{◌≡◌, refl, sym, ap, ◌∙◌, subst, subst⁻¹}
use mathlib.Core.List.{List, [], ◌∷◌, ◌++◌}
use mathlib.Core.Bool.{Bool, true, false, not, cond, ◌&&◌}
use mathlib.Core.Logic.{⊎_elim}
use native.Mathlib.Numerals.{add-one}
use native.Mathlib.Nat.{mul-div_cancel_left, mul-le-mul_left}
use native.Mathlib.Omega.{arith}
use lib.ListN.{length, get_or, drop, replicate, length-append, length-drop, length-set}
use Rattle.std.proofs.lemmas.List.{get_or-set_same, get_or-set_other}
use lib.Dec.{eqb, leb, ltb}
use lib.IntN.{ℤ}
use borrow.Author.Tests.{eqb-true, eqb-false, leb-true}
use Rattle.text.specs.declared.field.Rule.{Rule}
use Rattle.text.specs.declared.field.Rule.TheVariants as rule
use Rattle.text.specs.Pieces.{split}
use Rattle.text.specs.Numbers.{number_at}
use Rattle.text.specs.Weights.{weight_at}
use Rattle.text.specs.Fields.{is_side, field_of, fault_in, tables_in}
use Rattle.contents.specs.Legal.{LegalWeight, Between, LegalSide, LegalLimits, LegalHeader, LegalChannel, LegalQuantisers, LegalLevels, LegalRanges, LegalSheet, LegalBlocks, LegalMarks}
use Rattle.digits.specs.Written.{joined}
use Rattle.text.proofs.GoodLaws.{side_is, range_good, count_good, side_good, channels_good, weight_good}
use Rattle.digits.proofs.Both.{both_left, both_right}
use Rattle.contents.specs.Hold.{LegalHold}
use Rattle.contents.specs.declared.Limits.{Limits}
use Rattle.contents.specs.declared.Header.{Header}
use Rattle.contents.specs.declared.Channel.{Channel}
use Rattle.contents.specs.declared.Sheet.{Sheet}
use Rattle.lines.specs.declared.Setting.{Setting}
use Rattle.progress.specs.declared.State.{State}
use Rattle.lines.specs.Lines.{header_rules, channel_rules, mark_rules, mark_of, end_rules, rules_of, first_fault, fields_fault, line_adds, holding, header_of, channel_of, record_of}
use Rattle.contents.specs.declared.Mark.{Mark}
use Rattle.contents.specs.Marks.{block_of, among}
use Rattle.contents.proofs.ThreeLaws.{each_of}
use Rattle.contents.specs.Sheets.{Marked, marked, Held, nothing, no_channel, channel_at, levels_to}
use Rattle.progress.specs.Progress.{headed, blank, last_said, may_stand, line_tag, with_setting, settled, placed, opened, covers, exists, taken_if}
use Rattle.sheet.specs.Reading.{Outcome, Contents, contents, taken_of, is_last, line_fault, nothing_left, on_fault, on_taken, read_from, allowed, read_text}
use Rattle.sheet.specs.Reading.Outcome.{Gives, Refused}
use Rattle.grammar.specs.Written.{setting_line, block_fields, mark_fields}
use Rattle.progress.proofs.StateLaws.{SettingTag, BlockTag, Stands, stands, unbegun, first_tag}
use Rattle.progress.proofs.StateLaws.Stands.{Header-line, Setting-line, Block-line, Channel-line, End-line, Mark-line}
use Rattle.lines.proofs.GoodLines.{fault_at, fault_drop, holds_none, with_table, holds_table, all_quantisers, row_as}
use Rattle.grammar.proofs.SettingLaws.{place_of, LegalSetting, with_legal, Said, said_line, no_end}
use Rattle.grammar.proofs.MarkLaws.{with_mark, mark_as, holds_mark, exists_has, more_marks}
use Rattle.grammar.proofs.BlockLaws.{Block, with_block, BlockSaid, said_block, block_no_end, block_record, more_levels, more_ranges, more_kinds}

-- Good lines

pub header_is_legal : (limits : Limits) (fs : List (List ℕ)) → length fs ≡ 16 → first_fault (header_rules limits fs) fs ≡ None → LegalHeader limits (header_of fs)
unfolding header_of number_at weight_at
header_is_legal limits fs n e =
    record {
      width = side_good (get_or fs 1 []) limits.side (at 1 (omega arith));
      height = side_good (get_or fs 2 []) limits.side (at 2 (omega arith));
      shown_width = range_good (get_or fs 3 []) refusal.Size 1 (number_at fs 1) (at 3 (omega arith));
      shown_height = range_good (get_or fs 4 []) refusal.Size 1 (number_at fs 2) (at 4 (omega arith));
      channels = channels_good (get_or fs 5 []) (at 5 (omega arith));
      three_iterations = refl;
      three_smoothing = refl;
      three_data = refl;
      iterations =
          each_of (λ (n : ℕ). n ≤ limits.iterations) _ _ _ (count_good (get_or fs 7 []) limits.iterations (at 7 (omega arith))).2
          (count_good (get_or fs 8 []) limits.iterations (at 8 (omega arith))).2 (count_good (get_or fs 9 []) limits.iterations (at 9 (omega arith))).2;
      smoothing = each_of LegalWeight _ _ _ (weight_good (get_or fs 10 []) (at 10 (omega arith))) (weight_good (get_or fs 11 []) (at 11 (omega arith))) (weight_good (get_or fs 12 []) (at 12 (omega arith)));
      data_weights = each_of LegalWeight _ _ _ (weight_good (get_or fs 13 []) (at 13 (omega arith))) (weight_good (get_or fs 14 []) (at 14 (omega arith))) (weight_good (get_or fs 15 []) (at 15 (omega arith)));
    }
  where
    at : (i : ℕ) → i < 16 → fault_in (field_of (get_or (header_rules limits fs) i (rule.Tag 0)) (get_or fs i [])) ≡ None
    at i h = fault_at (header_rules limits fs) fs i e h (omega arith)

pub allowed_is : (limits : Limits) → allowed limits ≡ true → LegalLimits limits
allowed_is limits e =
    let a = is_side 512 limits.side in
    let b = leb limits.iterations 1000 in
    record { side = side_is 512 limits.side (both_left a b e); iterations = leb-true limits.iterations 1000 (both_right a b e) }

pub own-side : (a f m : ℕ) → 1 ≤ f → a * f ≤ m → a ≤ m
own-side a f m h k = omega (arith, mul-le-mul_left a h)

own_legal : (m a n : ℕ) → LegalSide m a → a ≤ n → LegalSide n a
own_legal m a n l h = record { whole = l.whole; low = l.low; top = h }

pub channel_is_legal : (h : Header) (fs : List (List ℕ)) → length fs ≡ 69 → first_fault channel_rules fs ≡ None → covers h (channel_of fs) ≡ true → LegalChannel h (channel_of fs)
unfolding channel_of number_at
channel_is_legal h fs n e v =
    let c = channel_of fs in
    let w = leb (c.width * c.across) h.width in
    let d = leb (c.height * c.down) h.height in
    let wide : c.width * c.across ≤ h.width = leb-true (c.width * c.across) h.width (both_left w d v) in
    let high : c.height * c.down ≤ h.height = leb-true (c.height * c.down) h.height (both_right w d v) in
    let across : Between 1 4 c.across = range_good (get_or fs 3 []) refusal.Factor 1 4 (at 3 (omega arith)) in
    let down : Between 1 4 c.down = range_good (get_or fs 4 []) refusal.Factor 1 4 (at 4 (omega arith)) in
    record {
      width = own_legal 999999 c.width h.width (side_good (get_or fs 1 []) 999999 (at 1 (omega arith))) (own-side c.width c.across h.width across.low wide);
      height = own_legal 999999 c.height h.height (side_good (get_or fs 2 []) 999999 (at 2 (omega arith))) (own-side c.height c.down h.height down.low high);
      across = across;
      down = down;
      wide = wide;
      high = high;
    }
  where
    at : (i : ℕ) → i < 69 → fault_in (field_of (get_or channel_rules i (rule.Tag 0)) (get_or fs i [])) ≡ None
    at i k = fault_at channel_rules fs i e k (omega arith)

more_quantisers : (xs ys : List ℕ) → LegalQuantisers xs → LegalQuantisers ys → LegalQuantisers (xs ++ ys)
more_quantisers [] ys a b = b
more_quantisers (q ∷ xs) ys a b = (a.0, more_quantisers xs ys a.1 b)

-- The sheet so far

record Begun (limits : Limits) (s : State) (H : Held) : Type 0 where
  begun : s.begun ≡ true
  header : LegalHeader limits s.sheet.header
  hold : LegalHold s.sheet.header s.sheet.settings.hold
  upto : s.read ≤ s.sheet.header.channels
  channel : (j : ℕ) → j < s.read → LegalChannel s.sheet.header (channel_at s.sheet j)
  three : length s.sheet.channels ≡ 3
  spare : (j : ℕ) → s.read ≤ j → j < 3 → channel_at s.sheet j ≡ no_channel
  lows_count : length H.lent.lows + 64 * s.left ≡ levels_to s.sheet s.read
  highs_count : length H.lent.highs + 64 * s.left ≡ levels_to s.sheet s.read
  tables_count : length H.lent.tables ≡ 64 * s.read
  lows : LegalLevels H.lent.lows
  highs : LegalLevels H.lent.highs
  ranges : LegalRanges H.lent.lows H.lent.highs
  tables : LegalQuantisers H.lent.tables
  kinds : LegalBlocks H
  marks : LegalMarks s.sheet [] H.marks
  early : s.read < s.sheet.header.channels → H.marks ≡ []

pub some_channel : (limits : Limits) (h : Header) → LegalHeader limits h → 1 ≤ h.channels
some_channel limits h l = ⊎_elim (λ e. omega arith) (λ e. omega arith) l.channels

no_marks : (s : Sheet) (ms : List Marked) → ms ≡ [] → LegalMarks s [] ms
no_marks s ms e = subst⁻¹ (λ (x : List Marked). LegalMarks s [] x) e tt

pub few : (limits : Limits) (h : Header) → LegalHeader limits h → h.channels ≤ 3
few limits h l = ⊎_elim (λ e. omega arith) (λ e. omega arith) l.channels

-- a channel at its place leaves the others
placed_other : (s : Sheet) (r : ℕ) (c : Channel) (j : ℕ) → (j ≡ r → ⊥) → j < 3 → channel_at (placed s r c) j ≡ channel_at s j
placed_other s r c zero h k = get_or-set_other s.channels r 0 c no_channel h
placed_other s r c (suc zero) h k = get_or-set_other s.channels r 1 c no_channel h
placed_other s r c (suc (suc zero)) h k = get_or-set_other s.channels r 2 c no_channel h
placed_other s r c (suc (suc (suc j))) h k = let y : ⊥ = omega arith in absurd y

placed_there : (s : Sheet) (r : ℕ) (c : Channel) → length s.channels ≡ 3 → r < 3 → channel_at (placed s r c) r ≡ c
placed_there s zero c n k = get_or-set_same s.channels 0 c no_channel (omega arith)
placed_there s (suc zero) c n k = get_or-set_same s.channels 1 c no_channel (omega arith)
placed_there s (suc (suc zero)) c n k = get_or-set_same s.channels 2 c no_channel (omega arith)
placed_there s (suc (suc (suc r))) c n k = let y : ⊥ = omega arith in absurd y

levels_same : (s t : Sheet) (n : ℕ) → ((j : ℕ) → j < n → channel_at t j ≡ channel_at s j) → levels_to t n ≡ levels_to s n
levels_same s t zero f = refl
levels_same s t (suc n) f = rw (levels_same s t n (λ j h. f j (omega arith)), f n (omega arith))

pub blocks : (w h : ℕ) → w % 8 ≡ 0 → h % 8 ≡ 0 → 64 * (w * h / 64) ≡ w * h
blocks w h p q =
    let a : w ≡ 8 * (w / 8) = omega arith in
    let b : h ≡ 8 * (h / 8) = omega arith in
    let c : (8 * (w / 8)) * (8 * (h / 8)) ≡ 64 * ((w / 8) * (h / 8)) = omega arith in
    let d : w * h ≡ 64 * ((w / 8) * (h / 8)) = ap (λ (x : ℕ). x * h) a ∙ ap (λ (y : ℕ). (8 * (w / 8)) * y) b ∙ c in
    ap (λ (x : ℕ). 64 * (x / 64)) d ∙ ap (λ (x : ℕ). 64 * x) (mul-div_cancel_left ((w / 8) * (h / 8)) {n = 64} (omega arith)) ∙ sym d

-- A line that is no refusal

pub record Line (rs : List Rule) (fs : List (List ℕ)) (X T : Outcome Contents) : Type 0 where
  pub count : length fs ≡ length rs
  pub fault : first_fault rs fs ≡ None
  pub more : X ≡ T

pub fields_count : (a b : ℕ) (m : Option ℕ) → cond (eqb a b) m (Some 1) ≡ None → (a ≡ b) × (m ≡ None)
fields_count a b m e = two (eqb a b) refl e
  where
    two : (t : Bool) → eqb a b ≡ t → cond t m (Some 1) ≡ None → (a ≡ b) × (m ≡ None)
    two true p o = (eqb-true a b p, o)
    two false p o = let z : ◌≡◌ {A = ℕ} 0 1 = cc in let y : ⊥ = omega arith in absurd y

pub line_fields : (u v : Bool) (m : Option ℕ) → cond u (Some 1) (cond v (Some 7) m) ≡ None → m ≡ None
line_fields true v m e = let z : ◌≡◌ {A = ℕ} 0 1 = cc in let y : ⊥ = omega arith in absurd y
line_fields false true m e = let z : ◌≡◌ {A = ℕ} 0 1 = cc in let y : ⊥ = omega arith in absurd y
line_fields false false m e = e

no_fault : (m : Option ℕ) (k : ℕ) (X : Outcome Contents) (c : Contents) → on_fault m k X ≡ Gives c → (m ≡ None) × (X ≡ Gives c)
no_fault None k X c e = (refl, e)
no_fault (Some j) k X c e = let z : ◌≡◌ {A = ℕ} 0 1 = cc in let y : ⊥ = omega arith in absurd y

pub line-is : (rs : List Rule) (k : ℕ) (p : List ℕ) (rest : List (List ℕ)) (X : Outcome Contents) (c : Contents)
    → on_fault (line_fault rs p rest) k X ≡ Gives c → Line rs (split 9 p) X (Gives c)
unfolding line_fault fields_fault
line-is rs k p rest X c e =
    let f = no_fault (line_fault rs p rest) k X c e in
    let g = fields_count (length (split 9 p)) (length rs) (first_fault rs (split 9 p))
    (line_fields (ltb 1024 (length p)) (is_last rest) (fields_fault rs (split 9 p)) f.0) in
    record { count = g.0; fault = g.1; more = f.1 }

-- A setting's line that is no refusal: what it says, how it is written, and the others after it

abbrev pub with_set : State → Setting → State
with_set s x = record { begun = s.begun; sheet = settled s.sheet (with_setting s.sheet.settings x); read = s.read; left = s.left }

pub record SettingRead (limits : Limits) (s : State) (H : Held) (k i : ℕ) (p : List ℕ) (rest : List (List ℕ)) (C : Contents) : Type 0 where
  pub x : Setting
  pub place : place_of x ≡ i
  pub legal : LegalSetting s.sheet.header x
  pub row : setting_line x ≡ p ∷ []
  pub more : read_from limits (with_set s x) H (k + 1) rest ≡ Gives C

pub setting_read : (limits : Limits) (s : State) (H : Held) (k i : ℕ) (p : List ℕ) (rest : List (List ℕ)) (C : Contents)
    → SettingTag i (line_tag s (split 9 p)) → read_from limits s H k (p ∷ rest) ≡ Gives C → SettingRead limits s H k i p rest C
unfolding taken_if
setting_read limits s H k i p rest C g e =
    let l = line-is rs k p rest _ C e in
    by (said_line i (line_tag s (split 9 p)) limits s.sheet.header p g l.count l.fault) l.more
  where
    rs : List Rule
    rs = rules_of (line_tag s (split 9 p)) limits s.sheet.header (split 9 p)

    by : Said s.sheet.header i (line_tag s (split 9 p)) rs p (record_of (line_tag s (split 9 p)) (split 9 p))
        → cond (eqb (line_tag s (split 9 p)) 69) (cond (nothing_left rest) (contents s.sheet H) (Refused 7 (k + 1)))
        (on_taken (taken_of s H.marks (record_of (line_tag s (split 9 p)) (split 9 p))) k (λ t. read_from limits t (holding H s.sheet (line_tag s (split 9 p)) rs (split 9 p)) (k + 1) rest)) ≡ Gives C
        → SettingRead limits s H k i p rest C
    by w o =
        record {
          x = w.x;
          place = w.place;
          legal = w.legal;
          row = w.row;
          more = rw (no_end i (line_tag s (split 9 p)) g, w.says, w.holds H s.sheet) at o;
        }

-- A block's line that is no refusal, likewise

abbrev pub less_block : State → State
less_block s = record { begun = s.begun; sheet = s.sheet; read = s.read; left = s.left - 1 }

pub record BlockRead (limits : Limits) (s : State) (H : Held) (k : ℕ) (r : Bool) (p : List ℕ) (rest : List (List ℕ)) (C : Contents) : Type 0 where
  pub ls : List ℤ
  pub hs : List ℤ
  pub block : Block r ls hs
  pub row : joined (block_fields r ls hs) ≡ p
  pub more : read_from limits (less_block s) (with_block H r ls hs) (k + 1) rest ≡ Gives C

pub block_read : (limits : Limits) (s : State) (H : Held) (k : ℕ) (r : Bool) (p : List ℕ) (rest : List (List ℕ)) (C : Contents)
    → BlockTag r (line_tag s (split 9 p)) → read_from limits s H k (p ∷ rest) ≡ Gives C → BlockRead limits s H k r p rest C
unfolding taken_if
block_read limits s H k r p rest C g e =
    let l = line-is rs k p rest _ C e in
    by (said_block r (line_tag s (split 9 p)) limits s.sheet.header p g l.count l.fault) l.more
  where
    rs : List Rule
    rs = rules_of (line_tag s (split 9 p)) limits s.sheet.header (split 9 p)

    by : BlockSaid r (line_tag s (split 9 p)) rs p
        → cond (eqb (line_tag s (split 9 p)) 69) (cond (nothing_left rest) (contents s.sheet H) (Refused 7 (k + 1)))
        (on_taken (taken_of s H.marks (record_of (line_tag s (split 9 p)) (split 9 p))) k (λ t. read_from limits t (holding H s.sheet (line_tag s (split 9 p)) rs (split 9 p)) (k + 1) rest)) ≡ Gives C
        → BlockRead limits s H k r p rest C
    by w o =
        record {
          ls = w.ls;
          hs = w.hs;
          block = w.block;
          row = w.row;
          more = rw (block_no_end r (line_tag s (split 9 p)) g, block_record r (line_tag s (split 9 p)) (split 9 p) g, w.holds H s.sheet) at o;
        }

-- A mark's line, likewise

pub record MarkRead (limits : Limits) (s : State) (H : Held) (k : ℕ) (p : List ℕ) (rest : List (List ℕ)) (C : Contents) : Type 0 where
  pub m : Mark
  pub row : joined (mark_fields m) ≡ p
  pub has : exists s.sheet m ≡ true
  pub once : among (block_of s.sheet m) H.marks ≡ false
  pub more : read_from limits s (with_mark H (marked m (block_of s.sheet m))) (k + 1) rest ≡ Gives C

pub mark_read : (limits : Limits) (s : State) (H : Held) (k : ℕ) (p : List ℕ) (rest : List (List ℕ)) (C : Contents)
    → line_tag s (split 9 p) ≡ 78 → read_from limits s H k (p ∷ rest) ≡ Gives C → MarkRead limits s H k p rest C
unfolding rules_of record_of taken_if
mark_read limits s H k p rest C g e =
    let l = line-is mark_rules k p rest _ C (rw g at e) in
    by (exists s.sheet (mark_of (split 9 p))) (among (block_of s.sheet (mark_of (split 9 p))) H.marks) refl refl l.count l.fault
    (rw (holds_mark H s.sheet (split 9 p)) at l.more)
  where
    m : Mark
    m = mark_of (split 9 p)

    by : (x y : Bool) → exists s.sheet m ≡ x → among (block_of s.sheet m) H.marks ≡ y → length (split 9 p) ≡ 4 → first_fault mark_rules (split 9 p) ≡ None
        → on_taken (cond (x && not y) (Ok s) (Err refusal.Mark)) k (λ t. read_from limits t (with_mark H (marked m (block_of s.sheet m))) (k + 1) rest) ≡ Gives C → MarkRead limits s H k p rest C
    by true false q r n f o = record { m = m; row = row_as p (mark_fields m) (mark_as (split 9 p) n f); has = q; once = r; more = o }
    by true true q r n f o = let z : ◌≡◌ {A = ℕ} 0 1 = cc in let y : ⊥ = omega arith in absurd y
    by false y q r n f o = let z : ◌≡◌ {A = ℕ} 0 1 = cc in let y : ⊥ = omega arith in absurd y

-- One line, then the others

abbrev LegalContents : Limits → Contents → Type 0
LegalContents limits c = LegalSheet limits c.sheet c.held.lent × LegalBlocks c.held × LegalMarks c.sheet [] c.held.marks

module _ (limits : Limits) (most : LegalLimits limits) (p : List ℕ) (rest : List (List ℕ)) (C : Contents)
    (ih : (s : State) (H : Held) (k : ℕ) → Begun limits s H → read_from limits s H k rest ≡ Gives C → LegalContents limits C) where
  first_line : (k : ℕ) → read_from limits blank nothing k (p ∷ rest) ≡ Gives C → LegalContents limits C
  unfolding rules_of taken_if record_of
  first_line k e =
      let l = line-is (header_rules limits (split 9 p)) k p rest _ C (rw (first_tag (split 9 p)) at e) in
      let fs = split 9 p in
      ih (record { begun = true; sheet = headed (header_of fs); read = 0; left = 0 }) nothing (k + 1)
      (record {
        begun = refl;
        header = header_is_legal limits fs l.count l.fault;
        hold = tt;
        upto = omega arith;
        channel = λ j h. let y : ⊥ = omega arith in absurd y;
        three = refl;
        spare = λ j h. none-yet j (header_of fs);
        lows_count = omega arith;
        highs_count = omega arith;
        tables_count = omega arith;
        lows = tt;
        highs = tt;
        ranges = tt;
        tables = tt;
        kinds = record { kinds_count = refl; kinds = tt };
        marks = tt;
        early = λ q. refl;
      })
      (rw (holds_none nothing blank.sheet 83 (header_rules limits fs) fs refl refl refl refl) at l.more)
    where
      none-yet : (j : ℕ) (h : Header) → j < 3 → channel_at (headed h) j ≡ no_channel
      none-yet zero h k = refl
      none-yet (suc zero) h k = refl
      none-yet (suc (suc zero)) h k = refl
      none-yet (suc (suc (suc j))) h k = let y : ⊥ = omega arith in absurd y

  module _ (s : State) (H : Held) (k : ℕ) (b : Begun limits s H) where
    block_line : (r : Bool) → 0 < s.left → BlockTag r (line_tag s (split 9 p)) → read_from limits s H k (p ∷ rest) ≡ Gives C → LegalContents limits C
    block_line r u g e =
        let w = block_read limits s H k r p rest C g e in
        let x = w.block in
        let ls = H.lent.lows in
        let hs = H.lent.highs in
        let rs = H.ranged in
        let n : length ls ≡ 64 * length rs = sym b.kinds.kinds_count in
        let m : length hs ≡ 64 * length rs = omega (arith, b.lows_count, b.highs_count, b.kinds.kinds_count) in
        ih (less_block s) (with_block H r w.ls w.hs) (k + 1)
        (record {
          begun = b.begun;
          header = b.header;
          hold = b.hold;
          upto = b.upto;
          channel = b.channel;
          three = b.three;
          spare = b.spare;
          lows_count = rw (length-append ls w.ls) (omega (arith, x.low_count, b.lows_count));
          highs_count = rw (length-append hs w.hs) (omega (arith, x.high_count, b.highs_count));
          tables_count = b.tables_count;
          lows = more_levels ls w.ls b.lows x.lows;
          highs = more_levels hs w.hs b.highs x.highs;
          ranges = more_ranges ls hs w.ls w.hs (n ∙ sym m) b.ranges x.ranges;
          tables = b.tables;
          kinds =
              record {
                kinds_count = rw (length-append ls w.ls, length-append rs (r ∷ [])) (omega (arith, x.low_count, b.kinds.kinds_count));
                kinds = more_kinds rs ls hs r w.ls w.hs n m b.kinds.kinds x.alike;
              };
          marks = b.marks;
          early = b.early;
        })
        w.more

    setting-line : (i : ℕ) → may_stand i s ≡ true → SettingTag i (line_tag s (split 9 p)) → read_from limits s H k (p ∷ rest) ≡ Gives C → LegalContents limits C
    setting-line i q g e =
        let r = setting_read limits s H k i p rest C g e in
        let t : Sheet = settled s.sheet (with_setting s.sheet.settings r.x) in
        let z : s.read ≡ 0 = eqb-true s.read 0 (both_left (eqb s.read 0) (ltb (last_said s.sheet.settings) i) (both_right s.begun (eqb s.read 0 && ltb (last_said s.sheet.settings) i) q)) in
        let none : H.marks ≡ [] = b.early (omega (arith, some_channel limits s.sheet.header b.header)) in
        ih (with_set s r.x) H (k + 1)
        (record {
          begun = b.begun;
          header = b.header;
          hold = with_legal s.sheet.header s.sheet.settings r.x b.hold r.legal;
          upto = b.upto;
          channel = b.channel;
          three = b.three;
          spare = b.spare;
          lows_count = b.lows_count ∙ sym (levels_same s.sheet t s.read (λ j h. refl));
          highs_count = b.highs_count ∙ sym (levels_same s.sheet t s.read (λ j h. refl));
          tables_count = b.tables_count;
          lows = b.lows;
          highs = b.highs;
          ranges = b.ranges;
          tables = b.tables;
          kinds = b.kinds;
          marks = no_marks t H.marks none;
          early = b.early;
        })
        r.more

    channel_line : s.left ≤ 0 → s.read < s.sheet.header.channels → line_tag s (split 9 p) ≡ 67 → read_from limits s H k (p ∷ rest) ≡ Gives C → LegalContents limits C
    unfolding rules_of taken_if record_of
    channel_line u v g e =
        let l = line-is channel_rules k p rest _ C (rw g at e) in
        let fs = split 9 p in
        covered (covers s.sheet.header (channel_of fs)) refl l.count l.fault (rw (holds_table H s.sheet fs) at l.more)
      where
        fs : List (List ℕ)
        fs = split 9 p

        c : Channel
        c = channel_of fs

        qs : List ℕ
        qs = line_adds tables_in (replicate 64 rule.Quantiser) (drop 5 fs)

        covered : (x : Bool) → covers s.sheet.header c ≡ x → length fs ≡ 69 → first_fault channel_rules fs ≡ None
            → on_taken (cond x (Ok (opened s c)) (Err refusal.Size)) k (λ t. read_from limits t (with_table H qs) (k + 1) rest) ≡ Gives C
            → LegalContents limits C
        covered false i n f o = let z : ◌≡◌ {A = ℕ} 0 1 = cc in let y : ⊥ = omega arith in absurd y
        covered true i n f o =
            let t = opened s c in
            let good : LegalChannel s.sheet.header c = channel_is_legal s.sheet.header fs n f i in
            let r : s.read ≤ 2 = omega (arith, v, few limits s.sheet.header b.header) in
            let a = all_quantisers 64 (drop 5 fs) (length-drop 5 fs ∙ omega arith) (fault_drop 5 channel_rules fs f) in
            let all : levels_to t.sheet (s.read + 1) ≡ levels_to s.sheet s.read + c.width * c.height =
            ap (λ (n : ℕ). levels_to t.sheet n) (add-one s.read)
            ∙ ap (λ (n : ℕ). n + (channel_at t.sheet s.read).width * (channel_at t.sheet s.read).height)
            (levels_same s.sheet t.sheet s.read (λ q h. placed_other s.sheet s.read c q (λ w. omega arith) (omega arith)))
            ∙ ap (λ (d : Channel). levels_to s.sheet s.read + d.width * d.height) (placed_there s.sheet s.read c b.three (omega arith)) in
            let kept : length H.lent.lows + 64 * (c.width * c.height / 64) ≡ levels_to s.sheet s.read + c.width * c.height =
            omega (arith, blocks c.width c.height good.width.whole good.height.whole, b.lows_count, u) in
            let too : length H.lent.highs + 64 * (c.width * c.height / 64) ≡ levels_to s.sheet s.read + c.width * c.height =
            omega (arith, blocks c.width c.height good.width.whole good.height.whole, b.highs_count, u) in
            ih t (with_table H qs) (k + 1)
            (record {
              begun = refl;
              header = b.header;
              hold = b.hold;
              upto = omega (arith, v);
              channel = λ q h. which q r good (eqb q s.read) refl (omega arith);
              three = length-set s.sheet.channels s.read c ∙ b.three;
              spare = λ q h w. placed_other s.sheet s.read c q (λ x. omega arith) w ∙ b.spare q (omega arith) w;
              lows_count = kept ∙ sym all;
              highs_count = too ∙ sym all;
              tables_count = rw (length-append H.lent.tables qs) (omega (arith, a.1, b.tables_count));
              lows = b.lows;
              highs = b.highs;
              ranges = b.ranges;
              tables = more_quantisers H.lent.tables qs b.tables a.0;
              kinds = record { kinds_count = b.kinds.kinds_count; kinds = b.kinds.kinds };
              marks = no_marks t.sheet H.marks (b.early v);
              early = λ q. b.early v;
            })
            o
          where
            which : (q : ℕ) → s.read ≤ 2 → LegalChannel s.sheet.header c → (t : Bool) → eqb q s.read ≡ t → q < s.read + 1
                → LegalChannel s.sheet.header (channel_at (placed s.sheet s.read c) q)
            which q r good true z h = rw (eqb-true q s.read z, placed_there s.sheet s.read c b.three (omega arith)) good
            which q r good false z h =
                let less : q < s.read = omega (arith, eqb-false q s.read z) in
                rw (placed_other s.sheet s.read c q (eqb-false q s.read z) (omega arith)) (b.channel q less)

    end-line : s.left ≤ 0 → s.sheet.header.channels ≤ s.read → line_tag s (split 9 p) ≡ 69 → read_from limits s H k (p ∷ rest) ≡ Gives C → LegalContents limits C
    unfolding rules_of
    end-line u v g e =
        let l = line-is end_rules k p rest _ C (rw g at e) in
        ended (nothing_left rest) l.more
      where
        ended : (t : Bool) → cond t (contents s.sheet H) (Refused 7 (k + 1)) ≡ Gives C → LegalContents limits C
        ended false o = let z : ◌≡◌ {A = ℕ} 0 1 = cc in let y : ⊥ = omega arith in absurd y
        ended true o =
            let x : s.read ≡ s.sheet.header.channels = omega (arith, b.upto, v) in
            let all : length H.lent.lows ≡ levels_to s.sheet s.read = omega (arith, b.lows_count, u) in
            let too : length H.lent.highs ≡ levels_to s.sheet s.read = omega (arith, b.highs_count, u) in
            let r : LegalSheet limits s.sheet H.lent =
            record {
              limits_legal = most;
              header = b.header;
              hold = b.hold;
              channel = λ j h. b.channel j (omega arith);
              three_channels = b.three;
              spare = λ j h w. b.spare j (omega arith) w;
              lows_count = all ∙ ap (λ (n : ℕ). levels_to s.sheet n) x;
              highs_count = too ∙ ap (λ (n : ℕ). levels_to s.sheet n) x;
              tables_count = b.tables_count ∙ ap (λ (n : ℕ). 64 * n) x;
              lows = b.lows;
              highs = b.highs;
              ranges = b.ranges;
              tables = b.tables;
            } in
            subst (LegalContents limits) (same (record { sheet = s.sheet; held = H }) C o) (r, b.kinds, b.marks)
          where
            same : (A B : Contents) → Gives A ≡ Gives B → A ≡ B
            same A B q = cc

    mark_line : s.left ≤ 0 → s.sheet.header.channels ≤ s.read → line_tag s (split 9 p) ≡ 78 → read_from limits s H k (p ∷ rest) ≡ Gives C → LegalContents limits C
    mark_line u v g e =
        let w = mark_read limits s H k p rest C g e in
        let m = marked w.m (block_of s.sheet w.m) in
        ih s (with_mark H m) (k + 1)
        (record {
          begun = b.begun;
          header = b.header;
          hold = b.hold;
          upto = b.upto;
          channel = b.channel;
          three = b.three;
          spare = b.spare;
          lows_count = b.lows_count;
          highs_count = b.highs_count;
          tables_count = b.tables_count;
          lows = b.lows;
          highs = b.highs;
          ranges = b.ranges;
          tables = b.tables;
          kinds = record { kinds_count = b.kinds.kinds_count; kinds = b.kinds.kinds };
          marks = more_marks s.sheet [] H.marks m b.marks (record { block = refl; has = exists_has s.sheet w.m w.has; once = w.once });
          early = λ q. let y : ⊥ = omega arith in absurd y;
        })
        w.more

    any_line : read_from limits s H k (p ∷ rest) ≡ Gives C → LegalContents limits C
    any_line e = by (stands s (split 9 p) (line_tag s (split 9 p)) refl)
      where
        by : Stands s (line_tag s (split 9 p)) → LegalContents limits C
        by (Header-line q g) = unbegun s b.begun q
        by (Setting-line i q g) = setting-line i q g e
        by (Block-line r q u g) = block_line r u g e
        by (Channel-line q u v g) = channel_line u v g e
        by (End-line q u v g) = end-line u v g e
        by (Mark-line q u v g) = mark_line u v g e

pub no_gives : (k j : ℕ) (C : Contents) {A : Type 0} → Refused k j ≡ Gives C → A
no_gives k j C e = let z : ◌≡◌ {A = ℕ} 0 1 = cc in let y : ⊥ = omega arith in absurd y

legal_from : (limits : Limits) → LegalLimits limits → (ps : List (List ℕ)) (C : Contents) (s : State) (H : Held) (k : ℕ)
    → Begun limits s H → read_from limits s H k ps ≡ Gives C → LegalContents limits C
legal_from limits m [] C s H k b e = no_gives 7 k C e
legal_from limits m (p ∷ rest) C s H k b e = any_line limits m p rest C (legal_from limits m rest C) s H k b e

both_legal : (limits : Limits) (text : List ℕ) (s : Sheet) (H : Held) → read_text limits text ≡ contents s H → LegalSheet limits s H.lent × LegalBlocks H × LegalMarks s [] H.marks
unfolding read_text
both_legal limits text s H e = two (allowed limits) refl e
  where
    C : Contents
    C = record { sheet = s; held = H }

    by : LegalLimits limits → (ps : List (List ℕ)) → read_from limits blank nothing 1 ps ≡ Gives C → LegalContents limits C
    by m [] o = no_gives 7 1 C o
    by m (p ∷ rest) o = first_line limits m p rest C (legal_from limits m rest C) 1 o

    two : (b : Bool) → allowed limits ≡ b → cond b (read_from limits blank nothing 1 (split 10 text)) (Refused 2 0) ≡ Gives C → LegalContents limits C
    two true p o = by (allowed_is limits p) (split 10 text) o
    two false p o = no_gives 2 0 C o

-- Every sheet that is read is legal, and so are the kinds of its blocks
pub legal : (limits : Limits) (text : List ℕ) (s : Sheet) (H : Held) → read_text limits text ≡ contents s H → LegalSheet limits s H.lent
legal limits text s H e = (both_legal limits text s H e).0

pub legal_blocks : (limits : Limits) (text : List ℕ) (s : Sheet) (H : Held) → read_text limits text ≡ contents s H → LegalBlocks H
legal_blocks limits text s H e = (both_legal limits text s H e).1

pub legal_marks : (limits : Limits) (text : List ℕ) (s : Sheet) (H : Held) → read_text limits text ≡ contents s H → LegalMarks s [] H.marks
legal_marks limits text s H e = (both_legal limits text s H e).2
