-- Two legal sheets that fit are a legal sheet side by side.
use Prim.Native.Nat.{ℕ, zero, suc, ◌+◌, ◌*◌, ◌/◌, ◌%◌, ◌≤◌, ◌<◌}
use mathlib.Core.Path.{◌≡◌, refl, sym, ap, ◌∙◌, subst}
use mathlib.Core.List.{List, [], ◌∷◌, ◌++◌, append-nil}
use Rattle.contents.specs.declared.Mark.{Mark}
use mathlib.Core.Bool.{Bool, true, false, cond, ◌&&◌}
use mathlib.Core.Logic.{◌⊎◌, ⊎_elim}
use native.Mathlib.Omega.{arith}
use native.Mathlib.Nat.{add-mul}
use lib.Dec.{eqb, ltb}
use lib.ListN.{length, take, drop, length-append, length-drop}
use borrow.Author.Tests.{eqb-true, ne_eqb, ltb-true, ltb-false}
use Rattle.contents.specs.declared.Header.{Header}
use Rattle.contents.specs.declared.Channel.{Channel}
use Rattle.contents.specs.declared.Sheet.{Sheet}
use Rattle.contents.proofs.ThreeLaws.{three_of}
use Rattle.contents.specs.Sheets.{Lent, Marked, Held, no_channel, channel_at, levels_to, channels_of}
use Rattle.contents.specs.Hold.{measured, LegalHold}
use Rattle.std.specs.Prelude.{Option, Some, None}
use Rattle.contents.specs.Legal.{LegalChannel, LegalSheet, LegalBlocks, LegalMarks}
use Rattle.digits.proofs.Both.{both_left, both_right}
use Rattle.grammar.specs.Written.{drop_held}
use Rattle.grammar.proofs.LegalLaws.{blocks}
use Rattle.grammar.proofs.MarkLaws.{Place}
use Rattle.grammar.proofs.RoundTrip.{small_mark}
use Rattle.seam.specs.Seam.{same_weights, same_numbers, same_shape, same, same_header, same_letters, same_holds, same_channel, same_channels, same_sheet}
use Rattle.seam.specs.Used.{used_of}
use Rattle.contents.specs.Marks.{blocks_in}
use Rattle.stitch.specs.Stitched.{wider, besides, stitched_sheet, rows_in, columns_in, weave, woven, moved_by, stitched_held}
use Rattle.stitch.specs.Calls.{whole}
use Rattle.stitch.proofs.BlockLaws.{Good, good_woven}
use Rattle.stitch.proofs.MarkTextLaws.{AllSmall, kept}
use Rattle.stitch.proofs.MarkLaws.{AllKnown, Absent, all_known, legal_both, known_kept, legal_kept}
use Rattle.stitch.proofs.TextLaws.{Beside, AllBeside, HeldFor, pairs_of, woven_kinds, kinds_count, both_blocks, Pair}

-- How many blocks channels have

abbrev total : List Channel → ℕ
total [] = 0
total (c ∷ cs) = blocks_in c + total cs

-- what is held counts 64 levels for each block
record Counted (h : Held) : Type 0 where
  lows : length h.lent.lows ≡ 64 * length h.ranged
  highs : length h.lent.highs ≡ 64 * length h.ranged

counted_drop : (n : ℕ) (h : Held) → Counted h → Counted (drop_held n 64 h)
counted_drop n h c =
    record {
      lows = omega (arith, length-drop (64 * n) h.lent.lows, length-drop n h.ranged, c.lows);
      highs = omega (arith, length-drop (64 * n) h.lent.highs, length-drop n h.ranged, c.highs);
    }

held_for : (cs : List Channel) (h : Held) → Counted h → total cs ≤ length h.ranged → HeldFor cs h
held_for [] h c e = tt
held_for (d ∷ cs) h c e = (
  record { kinds = omega arith; lows = omega (arith, c.lows); highs = omega (arith, c.highs) },
  held_for cs (drop_held (blocks_in d) 64 h) (counted_drop (blocks_in d) h c) (omega (arith, length-drop (blocks_in d) h.ranged)),
)

woven_count : (cs ds : List Channel) (h k : Held) → AllBeside cs ds → HeldFor cs h → HeldFor ds k → length (woven 1 cs ds h.ranged k.ranged) ≡ total (pairs_of cs ds)
woven_count [] ds h k f u v = refl
woven_count (c ∷ cs) [] h k f u v = absurd f
woven_count (c ∷ cs) (d ∷ ds) h k f u v =
    let W = weave (rows_in c) (columns_in c) (columns_in d) h.ranged k.ranged in
    let R = woven 1 cs ds (drop (blocks_in c) h.ranged) (drop (blocks_in d) k.ranged) in
    ap length (woven_kinds c d cs ds h k f.0 u v)
    ∙ length-append W R
    ∙ (λ i. (kinds_count c d cs ds h k f.0 u v ∙ sym (both_blocks c d f.0)) i + woven_count cs ds (drop_held (blocks_in c) 64 h) (drop_held (blocks_in d) 64 k) f.1 u.1 v.1 i)

-- A sheet with one channel or three

abbrev pub Number : ℕ → Type 0
Number n = (n ≡ 1) ⊎ (n ≡ 3)

pub at_most_three : (n : ℕ) → Number n → n ≤ 3
at_most_three n x = ⊎_elim (λ e. omega arith) (λ e. omega arith) x

-- both sides of channel j are whole blocks
record Whole (c : Channel) : Type 0 where
  width : c.width % 8 ≡ 0
  height : c.height % 8 ≡ 0

cells_all : (c : Channel) → Whole c → 64 * blocks_in c ≡ c.width * c.height
cells_all c w = blocks c.width c.height w.width w.height

abbrev three : Sheet → List Channel
three s = channel_at s 0 ∷ channel_at s 1 ∷ channel_at s 2 ∷ []

-- the channels in use, written out
take-three : (s : Sheet) → length s.channels ≡ 3 → take s.header.channels (three s) ≡ channels_of s
take-three s e = ap (take s.header.channels) (three_of no_channel s.channels e)

-- the channels that the code looks at are those in use
pub used_is : (n : ℕ) (s : Sheet) → Number n → used_of n s ≡ take n s.channels
used_is n s x = ⊎_elim (λ e. rw e refl) (λ e. rw e refl) x

pairs_are : (n : ℕ) (s t : Sheet) → Number n → take n (three (stitched_sheet s t)) ≡ pairs_of (take n (three s)) (take n (three t))
pairs_are n s t x = ⊎_elim (λ e. rw e refl) (λ e. rw e refl) x

total_is : (n : ℕ) (s : Sheet) → Number n → ((j : ℕ) → j < n → Whole (channel_at s j)) → 64 * total (take n (three s)) ≡ levels_to s n
total_is n s x w =
    ⊎_elim (λ e. one (subst (λ (k : ℕ). (j : ℕ) → j < k → Whole (channel_at s j)) e w) e) (λ e. all (subst (λ (k : ℕ). (j : ℕ) → j < k → Whole (channel_at s j)) e w) e) x
  where
    one : ((j : ℕ) → j < 1 → Whole (channel_at s j)) → n ≡ 1 → 64 * total (take n (three s)) ≡ levels_to s n
    one w e = let a = cells_all (channel_at s 0) (w 0 (omega arith)) in rw e (omega (arith, a))

    all : ((j : ℕ) → j < 3 → Whole (channel_at s j)) → n ≡ 3 → 64 * total (take n (three s)) ≡ levels_to s n
    all w e =
        let a = cells_all (channel_at s 0) (w 0 (omega arith)) in
        let b = cells_all (channel_at s 1) (w 1 (omega arith)) in
        let c = cells_all (channel_at s 2) (w 2 (omega arith)) in
        rw e (omega (arith, a, b, c))

-- What two sheets have in common that fit

record Five (a b c d f : Bool) : Type 0 where
  first : a ≡ true
  second : b ≡ true
  third : c ≡ true
  fourth : d ≡ true
  fifth : f ≡ true

five : (a b c d f : Bool) → (a && (b && (c && (d && f)))) ≡ true → Five a b c d f
five a b c d f e =
    let p = both_right a (b && (c && (d && f))) e in
    let q = both_right b (c && (d && f)) p in
    let r = both_right c (d && f) q in
    record { first = both_left a (b && (c && (d && f))) e; second = both_left b (c && (d && f)) p; third = both_left c (d && f) q; fourth = both_left d f r; fifth = both_right d f r }

pub record Same (w v : ℕ) (c d : Channel) : Type 0 where
  pub height : c.height ≡ d.height
  pub across : c.across ≡ d.across
  pub down : c.down ≡ d.down
  pub wide : c.width * c.across ≡ w
  pub wide_right : d.width * d.across ≡ v

pub same_is : (w v : ℕ) (c d : Channel) → same_channel w v c d ≡ true → Same w v c d
same_is w v c d e =
    let q = five (eqb c.height d.height) (eqb c.across d.across) (eqb c.down d.down) (eqb (c.width * c.across) w) (eqb (d.width * d.across) v) e in
    record {
      height = eqb-true c.height d.height q.first;
      across = eqb-true c.across d.across q.second;
      down = eqb-true c.down d.down q.third;
      wide = eqb-true (c.width * c.across) w q.fourth;
      wide_right = eqb-true (d.width * d.across) v q.fifth;
    }

pub record Fits (s t : Sheet) : Type 0 where
  pub height : s.header.height ≡ t.header.height
  pub channels : s.header.channels ≡ t.header.channels
  pub shown : s.header.picture_width ≡ s.header.width
  pub each : same_channels s.header.width t.header.width (channels_of s) (channels_of t) ≡ true

pub header_fits : (h k : Header) → same_header h k ≡ true → h.channels ≡ k.channels
header_fits h k e =
    let q = both_left (same_shape h k) (same_numbers h.iterations k.iterations && (same_weights h.smoothing k.smoothing && same_weights h.data_weights k.data_weights)) e in
    let g = five (eqb h.height k.height) (eqb h.channels k.channels) (same h.joint k.joint) (eqb h.picture_height k.picture_height) (eqb h.picture_width h.width) q in
    eqb-true h.channels k.channels g.second

pub sheets_fit : (s t : Sheet) → same_sheet s t ≡ true → Fits s t
sheets_fit s t e =
    let h = s.header in
    let k = t.header in
    let C = same_channels h.width k.width (channels_of s) (channels_of t) in
    let A = same_holds h.channels s t in
    let B = same_letters s.settings t.settings in
    let o = both_left (same_header h k) (B && (A && C)) e in
    let q = both_left (same_shape h k) (same_numbers h.iterations k.iterations && (same_weights h.smoothing k.smoothing && same_weights h.data_weights k.data_weights)) o in
    let g = five (eqb h.height k.height) (eqb h.channels k.channels) (same h.joint k.joint) (eqb h.picture_height k.picture_height) (eqb h.picture_width h.width) q in
    record {
      height = eqb-true h.height k.height g.first;
      channels = eqb-true h.channels k.channels g.second;
      shown = eqb-true h.picture_width h.width g.fifth;
      each = both_right A C (both_right B (A && C) (both_right (same_header h k) (B && (A && C)) e));
    }

-- channel by channel
same_each : (w v n : ℕ) (s t : Sheet) → Number n → same_channels w v (take n (three s)) (take n (three t)) ≡ true → (j : ℕ) → j < n → Same w v (channel_at s j) (channel_at t j)
same_each w v n s t x e =
    ⊎_elim (λ q. one n q (subst (λ (k : ℕ). same_channels w v (take k (three s)) (take k (three t)) ≡ true) q e)) (λ q. all n q (subst (λ (k : ℕ). same_channels w v (take k (three s)) (take k (three t)) ≡ true) q e)) x
  where
    one : (n : ℕ) → n ≡ 1 → same_channels w v (take 1 (three s)) (take 1 (three t)) ≡ true → (j : ℕ) → j < n → Same w v (channel_at s j) (channel_at t j)
    one n q e zero h = same_is w v (channel_at s 0) (channel_at t 0) (both_left (same_channel w v (channel_at s 0) (channel_at t 0)) true e)
    one n q e (suc j) h = absurd (omega arith)

    all : (n : ℕ) → n ≡ 3 → same_channels w v (take 3 (three s)) (take 3 (three t)) ≡ true → (j : ℕ) → j < n → Same w v (channel_at s j) (channel_at t j)
    all n q e zero h = same_is w v (channel_at s 0) (channel_at t 0) (both_left (same_channel w v (channel_at s 0) (channel_at t 0)) (same_channels w v ((channel_at s 1) ∷ (channel_at s 2) ∷ []) ((channel_at t 1) ∷ (channel_at t 2) ∷ [])) e)
    all n q e (suc zero) h =
        same_is w v (channel_at s 1) (channel_at t 1)
        (both_left (same_channel w v (channel_at s 1) (channel_at t 1)) (same_channels w v ((channel_at s 2) ∷ []) ((channel_at t 2) ∷ []))
        (both_right (same_channel w v (channel_at s 0) (channel_at t 0)) (same_channels w v ((channel_at s 1) ∷ (channel_at s 2) ∷ []) ((channel_at t 1) ∷ (channel_at t 2) ∷ [])) e))
    all n q e (suc (suc zero)) h =
        same_is w v (channel_at s 2) (channel_at t 2)
        (both_left (same_channel w v (channel_at s 2) (channel_at t 2)) true
        (both_right (same_channel w v (channel_at s 1) (channel_at t 1)) (same_channels w v ((channel_at s 2) ∷ []) ((channel_at t 2) ∷ []))
        (both_right (same_channel w v (channel_at s 0) (channel_at t 0)) (same_channels w v ((channel_at s 1) ∷ (channel_at s 2) ∷ []) ((channel_at t 1) ∷ (channel_at t 2) ∷ [])) e)))
    all n q e (suc (suc (suc j))) h = absurd (omega arith)

beside_each : (n : ℕ) (s t : Sheet) → Number n → ((j : ℕ) → j < n → Beside (channel_at s j) (channel_at t j)) → AllBeside (take n (three s)) (take n (three t))
beside_each n s t x f =
    ⊎_elim (λ e. subst (λ (k : ℕ). AllBeside (take k (three s)) (take k (three t))) (sym e) (f 0 (omega arith), tt))
    (λ e. subst (λ (k : ℕ). AllBeside (take k (three s)) (take k (three t))) (sym e) (f 0 (omega arith), (f 1 (omega arith), (f 2 (omega arith), tt)))) x

legal_beside : (h k : Header) (c d : Channel) → LegalChannel h c → LegalChannel k d → Same h.width k.width c d → LegalChannel (wider h k) (besides c d)
legal_beside h k c d l m e =
    let x : d.width * c.across ≡ k.width = ap (λ (n : ℕ). d.width * n) e.across ∙ e.wide_right in
    record {
      width = record { whole = omega (arith, l.width.whole, m.width.whole); low = omega (arith, l.width.low); top = omega (arith, l.width.top, m.width.top) };
      height = l.height;
      across = l.across;
      down = l.down;
      wide = omega (arith, add-mul c.width d.width c.across, e.wide, x);
      high = l.high;
    }

legal_hold : (h k : Header) (x : Option (List ℕ)) → LegalHold h x → LegalHold (wider h k) x
unfolding measured
legal_hold h k None l = tt
legal_hold h k (Some x) l = l

-- moving marks keeps them apart
pub moved_one : (s : Sheet) (m n : Mark) → moved_by s m ≡ moved_by s n → m ≡ n
moved_one s m n e =
    let c = ap (λ (z : Mark). z.channel) e in
    let r = ap (λ (z : Mark). z.row) e in
    let k = ap (λ (z : Mark). z.column) e in
    let w = ap (λ (z : ℕ). (channel_at s z).width / 8) c in
    let o : m.column ≡ n.column = omega (arith, k, w) in
    λ i. record { channel = c i; row = r i; column = o i }

either_channel : (x : Bool) (a b c d : Channel) → cond x (besides a c) (besides b d) ≡ besides (cond x a b) (cond x c d)
either_channel true a b c d = refl
either_channel false a b c d = refl

pub channel-at : (s t : Sheet) (j : ℕ) → channel_at (stitched_sheet s t) j ≡ besides (channel_at s j) (channel_at t j)
channel-at s t j =
    ap (λ (c : Channel). cond (eqb j 0) (besides (channel_at s 0) (channel_at t 0)) c) (either_channel (eqb j 1) (channel_at s 1) (channel_at s 2) (channel_at t 1) (channel_at t 2))
    ∙ either_channel (eqb j 0) (channel_at s 0) (cond (eqb j 1) (channel_at s 1) (channel_at s 2)) (channel_at t 0) (cond (eqb j 1) (channel_at t 1) (channel_at t 2))

-- a place is one of three channels
third_at : (s : Sheet) (c : ℕ) → channel_at s (suc (suc c)) ≡ (channel_at s 2)
third_at s c = rw (ne_eqb (suc (suc c)) 0 (λ e. omega arith), ne_eqb (suc (suc c)) 1 (λ e. omega arith))

small_marks : (s : Sheet) (b : Lent) → LegalSheet whole s b → (before ms : List Marked) → LegalMarks s before ms → AllSmall ms
small_marks s b l before [] g = tt
small_marks s b l before (m ∷ ms) g = ((small_mark whole s b l m.at g.0.has).0, small_marks s b l (before ++ m ∷ []) ms g.1)

module _ (s : Sheet) (h : Held) (l : LegalSheet whole s h.lent) (b : LegalBlocks h) where
  counted : Counted h
  counted = record { lows = sym b.kinds_count; highs = l.highs_count ∙ sym l.lows_count ∙ sym b.kinds_count }

  good : Good h.ranged h.lent.lows h.lent.highs
  good = record { low_count = sym b.kinds_count; high_count = l.highs_count ∙ sym l.lows_count ∙ sym b.kinds_count; lows = l.lows; highs = l.highs; ranges = l.ranges; kinds = b.kinds }

  pub number : Number s.header.channels
  number = l.header.channels

  whole_at : (j : ℕ) → j < s.header.channels → Whole (channel_at s j)
  whole_at j p = record { width = (l.channel j p).width.whole; height = (l.channel j p).height.whole }

  held_all : HeldFor (channels_of s) h
  held_all = held_for (channels_of s) h counted (omega (arith, ap (λ (cs : List Channel). 64 * total cs) (sym (take-three s l.three_channels)), total_is s.header.channels s number whole_at, l.lows_count, b.kinds_count))

-- all channels of a sheet are whole blocks wide: those that are not there have no width
whole_width : (s : Sheet) (b : Lent) → LegalSheet whole s b → (c : ℕ) → c < 3 → (channel_at s c).width % 8 ≡ 0
whole_width s b l c h = by (ltb c s.header.channels) refl
  where
    by : (x : Bool) → ltb c s.header.channels ≡ x → (channel_at s c).width % 8 ≡ 0
    by true e = (l.channel c (ltb-true c s.header.channels e)).width.whole
    by false e = ap (λ (d : Channel). d.width % 8) (l.spare c (ltb-false c s.header.channels e) h)

every_width : (s : Sheet) (b : Lent) → LegalSheet whole s b → (c : ℕ) → (channel_at s c).width % 8 ≡ 0
every_width s b l zero = whole_width s b l 0 (omega arith)
every_width s b l (suc zero) = whole_width s b l 1 (omega arith)
every_width s b l (suc (suc c)) = ap (λ (d : Channel). d.width % 8) (third_at s c) ∙ whole_width s b l 2 (omega arith)

module _ (s t : Sheet) (h k : Held) (l : LegalSheet whole s h.lent) (b : LegalBlocks h) (m : LegalSheet whole t k.lent) (g : LegalBlocks k) (f : Fits s t) where
  pub each_same : (j : ℕ) → j < s.header.channels → Same s.header.width t.header.width (channel_at s j) (channel_at t j)
  each_same =
      same_each s.header.width t.header.width s.header.channels s t (number s h l b)
      (ap (λ (n : ℕ). same_channels s.header.width t.header.width (take s.header.channels (three s)) (take n (three t))) f.channels
      ∙ (λ i. same_channels s.header.width t.header.width (take-three s l.three_channels i) (take-three t m.three_channels i))
      ∙ f.each)

  -- both lists of channels in use, written out
  both_used : take s.header.channels (three t) ≡ channels_of t
  both_used = ap (λ (n : ℕ). take n (three t)) f.channels ∙ take-three t m.three_channels

  there : (j : ℕ) → j < s.header.channels → j < t.header.channels
  there j p = omega (arith, f.channels)

  beside_at : (j : ℕ) → j < s.header.channels → Beside (channel_at s j) (channel_at t j)
  beside_at j p =
      record {
        left = (l.channel j p).width.whole;
        right = (m.channel j (there j p)).width.whole;
        rows = (l.channel j p).height.whole;
        same = (each_same j p).height;
      }

  all_beside : AllBeside (channels_of s) (channels_of t)
  all_beside =
      subst (λ (cs : List Channel). AllBeside cs (channels_of t)) (take-three s l.three_channels)
      (subst (λ (ds : List Channel). AllBeside (take s.header.channels (three s)) ds) both_used (beside_each s.header.channels s t (number s h l b) beside_at))

  right_pairs : channels_of (stitched_sheet s t) ≡ pairs_of (channels_of s) (channels_of t)
  right_pairs = pairs_are s.header.channels s t (number s h l b) ∙ (λ i. pairs_of (take-three s l.three_channels i) (both_used i))

  both_columns : (c : ℕ) → columns_in (channel_at (stitched_sheet s t) c) ≡ columns_in (channel_at s c) + columns_in (channel_at t c)
  both_columns c = ap columns_in (channel-at s t c) ∙ omega (arith, every_width s h.lent l c, every_width t k.lent m c)

  pub pair : LegalMarks t [] k.marks → Pair s t h k
  pair n =
      record {
        left = used_is s.header.channels s (number s h l b);
        right =
            used_is s.header.channels t (number s h l b)
            ∙ ap (λ (n : ℕ). take n t.channels) f.channels;
        both = right_pairs;
        beside = all_beside;
        held_left = held_all s h l b;
        held_right = held_all t k m g;
        columns = both_columns;
        marks_right = small_marks t k.lent m [] k.marks n;
      }

  good_both_sheets : Good (stitched_held s t h k).ranged (stitched_held s t h k).lent.lows (stitched_held s t h k).lent.highs
  good_both_sheets = good_woven (channels_of s) (channels_of t) h.ranged h.lent.lows h.lent.highs k.ranged k.lent.lows k.lent.highs (good s h l b) (good t k m g)

  legal_at : (j : ℕ) → j < s.header.channels → LegalChannel (wider s.header t.header) (channel_at (stitched_sheet s t) j)
  legal_at j p =
      subst (λ (c : Channel). LegalChannel (wider s.header t.header) c) (sym (channel-at s t j))
      (legal_beside s.header t.header (channel_at s j) (channel_at t j) (l.channel j p) (m.channel j (there j p)) (each_same j p))

  levels_all : 64 * length (stitched_held s t h k).ranged ≡ levels_to (stitched_sheet s t) s.header.channels
  levels_all =
      ap (λ (n : ℕ). 64 * n) (woven_count (channels_of s) (channels_of t) h k all_beside (held_all s h l b) (held_all t k m g) ∙ ap total (sym right_pairs))
      ∙ total_is s.header.channels (stitched_sheet s t) (number s h l b) (λ j p. record { width = (legal_at j p).width.whole; height = (legal_at j p).height.whole })

  none : (j : ℕ) → s.header.channels ≤ j → j < 3 → channel_at (stitched_sheet s t) j ≡ no_channel
  none j p q =
      let r : t.header.channels ≤ j = omega (arith, f.channels) in
      channel-at s t j ∙ (λ i. besides (l.spare j p q i) (m.spare j r q i))

  pub stitched_legal : s.header.width + t.header.width ≤ 512 → LegalSheet whole (stitched_sheet s t) (stitched_held s t h k).lent
  stitched_legal w =
      let o = good_both_sheets in
      let a = l.header in
      let c = m.header in
      record {
        limits_legal = l.limits_legal;
        header =
            record {
              width = record { whole = omega (arith, a.width.whole, c.width.whole); low = omega (arith, a.width.low); top = w };
              height = a.height;
              shown_width = record { low = omega (arith, a.shown_width.low); top = omega (arith, a.shown_width.top, c.shown_width.top) };
              shown_height = a.shown_height;
              channels = a.channels;
              three_iterations = a.three_iterations;
              three_smoothing = a.three_smoothing;
              three_data = a.three_data;
              iterations = a.iterations;
              smoothing = a.smoothing;
              data_weights = a.data_weights;
            };
        hold = legal_hold s.header t.header s.settings.hold l.hold;
        three_channels = refl;
        channel = legal_at;
        spare = none;
        lows_count = o.low_count ∙ levels_all;
        highs_count = o.high_count ∙ levels_all;
        tables_count = l.tables_count;
        lows = o.lows;
        highs = o.highs;
        ranges = o.ranges;
        tables = l.tables;
      }

  pub stitched_blocks : LegalBlocks (stitched_held s t h k)
  stitched_blocks = record { kinds_count = sym good_both_sheets.low_count; kinds = good_both_sheets.kinds }

  -- Marks

  pub few_channels : (stitched_sheet s t).header.channels ≤ 3
  few_channels = at_most_three s.header.channels (number s h l b)

  pub place_left : (x : Mark) → Place s x → Place (stitched_sheet s t) x
  place_left x p =
      let e = channel-at s t x.channel in
      record {
        channel = p.channel;
        row = rw e p.row;
        column = rw e (omega (arith, p.column));
      }

  pub place_right : (x : Mark) → Place t x → Place (stitched_sheet s t) (moved_by s x)
  place_right x p =
      let e = channel-at s t x.channel in
      let o : x.channel < s.header.channels = omega (arith, p.channel, f.channels) in
      record {
        channel = o;
        row = rw e (omega (arith, p.row, ap (λ (n : ℕ). n / 8) (each_same x.channel o).height));
        column = omega (arith, p.column, both_columns x.channel);
      }

  -- no mark of the right is where one of the left is
  pub apart : (x : Mark) (ms : List Marked) → AllKnown s ms → Absent (moved_by s x) (kept (λ y. y) (stitched_sheet s t) ms)
  apart x [] a = tt
  apart x (y ∷ ms) a = (
    λ e.
        let c = ap (λ (z : Mark). z.channel) e in
        let n = ap (λ (z : Mark). z.column) e in
        let w = ap (λ (z : ℕ). (channel_at s z).width / 8) c in
        omega (arith, a.0.place.column, n, w),
    apart x ms a.1,
  )

  pub apart_left : (x : Mark) → Place s x → (ms : List Marked) → Absent x (kept (moved_by s) (stitched_sheet s t) ms)
  apart_left x p [] = tt
  apart_left x p (y ∷ ms) = (
    λ e.
        let c = ap (λ (z : Mark). z.channel) e in
        let n = ap (λ (z : Mark). z.column) e in
        let w = ap (λ (z : ℕ). (channel_at s z).width / 8) c in
        omega (arith, p.column, n, w),
    apart_left x p ms,
  )

  pub stitched-marks : LegalMarks s [] h.marks → LegalMarks t [] k.marks → LegalMarks (stitched_sheet s t) [] (stitched_held s t h k).marks
  stitched-marks p q =
      let B = stitched_sheet s t in
      let M = kept (λ x. x) B h.marks in
      let N = kept (moved_by s) B k.marks in
      let a = all_known s [] h.marks p in
      let u : LegalMarks B [] M = legal_kept s B (λ x. x) (λ x y e. e) place_left few_channels [] tt (λ x o. tt) [] h.marks tt p in
      let v : LegalMarks B (M ++ []) N =
      legal_kept t B (moved_by s) (moved_one s) place_right few_channels M (known_kept s B (λ x. x) (λ x y e. e) place_left few_channels h.marks a) (λ x o. apart x h.marks a) [] k.marks tt q in
      legal_both B [] M N u (subst (λ (x : List Marked). LegalMarks B x N) (append-nil M) v)
