-- Every block of the output is the block at its place in one of the two sheets, to either reader.
use Prim.Native.Nat.{ℕ, ◌+◌, ◌-◌, ◌*◌, ◌/◌, ◌≤◌, ◌<◌}
use mathlib.Core.Path.{◌≡◌, refl, sym, ap, ◌∙◌, subst}
use mathlib.Core.List.{List, []}
use mathlib.Core.Bool.{Bool, true, false, cond, ◌||◌}
use native.Mathlib.Omega.{arith}
use lib.Dec.{leb, ltb}
use lib.IntN.{ℤ}
use lib.ListN.{take, drop}
use borrow.Author.Tests.{ltb-true, ltb-false, leb-true}
use Rattle.contents.specs.declared.Mark.{Mark}
use Rattle.contents.specs.declared.Reader.{Reader}
use Rattle.contents.specs.declared.Channel.{Channel}
use Rattle.contents.specs.declared.Sheet.{Sheet}
use Rattle.contents.specs.Sheets.{Held, channel_at, channels_of}
use Rattle.contents.specs.Marks.{blocks_before, block_of, has_block, among}
use Rattle.contents.specs.Legal.{LegalSheet, LegalBlocks, LegalMarks}
use Rattle.sheet.specs.Reading.{Outcome, Contents, read_text}
use Rattle.sheet.specs.Reading.Outcome.{Gives, Refused}
use Rattle.grammar.proofs.LegalLaws.{legal, legal_blocks, legal_marks}
use Rattle.grammar.proofs.MarkLaws.{Place, place-of}
use Rattle.seam.specs.Seam.{seam}
use Rattle.stitch.specs.Stitched.{stitched_sheet, rows_in, columns_in, woven, moved_by, stitched_held}
use Rattle.stitch.specs.Calls.{whole, output_of, joining, stitching}
use Rattle.stitch.specs.Calls.Stitch.{Text, Fault}
use Rattle.stitch.proofs.MarkTextLaws.{kept}
use Rattle.stitch.proofs.MarkLaws.{all_known, has_of, unmarked, known_kept, among_kept, among_both}
use Rattle.stitch.proofs.TextLaws.{Pair, pairs_of}
use Rattle.stitch.proofs.LegalLaws.{Fits, number, at_most_three, moved_one, few_channels, place_left, place_right, apart, apart_left, channel-at, each_same, pair}
use Rattle.stitch.proofs.CallLaws.{fits, output_reads}
use Rattle.places.specs.Output.{block_at, SameBlock, back_by, From, Stitched}
use Rattle.places.proofs.SeenLaws.{seen_lows, seen_highs}
use Rattle.places.proofs.ThreeLaws.{Long, long_lows, long_highs}
use Rattle.places.proofs.SheetPlaceLaws.{nth, firsts, woven_left, woven_right, Linked, linked}

module _ (s t : Sheet) (h k : Held) (l : LegalSheet whole s h.lent) (b : LegalBlocks h) (m : LegalSheet whole t k.lent) (g : LegalBlocks k) (f : Fits s t) (hm : LegalMarks s [] h.marks) (km : LegalMarks t [] k.marks) where
  abbrev S : Sheet
  S = stitched_sheet s t

  abbrev H : Held
  H = stitched_held s t h k

  both : Pair s t h k
  both = pair s t h k l b m g f km

  -- Marked where it was

  few_left : s.header.channels ≤ 3
  few_left = at_most_three s.header.channels (number s h l b)

  few_right : t.header.channels ≤ 3
  few_right = at_most_three t.header.channels (number t k m g)

  no_more : (x : Bool) → (x || false) ≡ x
  no_more true = refl
  no_more false = refl

  marked_left : (p : Mark) → Place s p → among (block_of S p) H.marks ≡ among (block_of s p) h.marks
  marked_left p q =
      let M = kept (λ x. x) S h.marks in
      let N = kept (moved_by s) S k.marks in
      let few = few_channels s t h k l b m g f in
      let a = among_kept s S (λ x. x) (λ x y e. e) (place_left s t h k l b m g f) few few_left p q h.marks (all_known s [] h.marks hm) in
      let u =
      unmarked S few p (place_left s t h k l b m g f p q) N (known_kept t S (moved_by s) (moved_one s) (place_right s t h k l b m g f) few k.marks (all_known t [] k.marks km)) (apart_left s t h k l b m g f p q k.marks) in
      among_both (block_of S p) M N ∙ (λ i. a i || u i) ∙ no_more (among (block_of s p) h.marks)

  marked_right : (p : Mark) → Place t p → among (block_of S (moved_by s p)) H.marks ≡ among (block_of t p) k.marks
  marked_right p q =
      let M = kept (λ x. x) S h.marks in
      let N = kept (moved_by s) S k.marks in
      let few = few_channels s t h k l b m g f in
      let a = among_kept t S (moved_by s) (moved_one s) (place_right s t h k l b m g f) few few_right p q k.marks (all_known t [] k.marks km) in
      let u =
      unmarked S few (moved_by s p) (place_right s t h k l b m g f p q) M (known_kept s S (λ x. x) (λ x y e. e) (place_left s t h k l b m g f) few h.marks (all_known s [] h.marks hm)) (apart s t h k l b m g f p h.marks (all_known s [] h.marks hm)) in
      among_both (block_of S (moved_by s p)) M N ∙ (λ i. u i || a i)

  -- The levels at a place

  module _ (p : Mark) (h₀ : p.channel < s.header.channels) where
    link_left : Linked s.header.channels s p.channel
    link_left = linked s.header.channels s l.three_channels (number s h l b) p.channel h₀

    link_right : Linked t.header.channels t p.channel
    link_right = linked t.header.channels t m.three_channels (number t k m g) p.channel (subst (λ (n : ℕ). p.channel < n) f.channels h₀)

    link_both : Linked s.header.channels S p.channel
    link_both = linked s.header.channels S refl (number s h l b) p.channel h₀

    first_both : firsts (pairs_of (channels_of s) (channels_of t)) p.channel ≡ blocks_before S p.channel
    first_both = ap (λ (cs : List Channel). firsts cs p.channel) (sym both.both) ∙ link_both.first

    column_left : columns_in (nth (channels_of s) p.channel) ≡ columns_in (channel_at s p.channel)
    column_left = ap columns_in link_left.is

    column_right : columns_in (nth (channels_of t) p.channel) ≡ columns_in (channel_at t p.channel)
    column_right = ap columns_in link_right.is

    -- where a block of the output stands
    stands : (y x : ℕ) → firsts (pairs_of (channels_of s) (channels_of t)) p.channel + (y * (columns_in (nth (channels_of s) p.channel) + columns_in (nth (channels_of t) p.channel)) + x)
        ≡ blocks_before S p.channel + y * ((channel_at S p.channel).width / 8) + x
    stands y x =
        (λ i. first_both i + (y * (column_left i + column_right i) + x))
        ∙ ap (λ (n : ℕ). blocks_before S p.channel + (y * n + x)) (sym (both.columns p.channel))
        ∙ omega arith

    stands_left : (y x : ℕ) → firsts (channels_of s) p.channel + (y * columns_in (nth (channels_of s) p.channel) + x) ≡ blocks_before s p.channel + y * ((channel_at s p.channel).width / 8) + x
    stands_left y x = (λ i. link_left.first i + (y * column_left i + x)) ∙ omega arith

    stands_right : (y x : ℕ) → firsts (channels_of t) p.channel + (y * columns_in (nth (channels_of t) p.channel) + x) ≡ blocks_before t p.channel + y * ((channel_at t p.channel).width / 8) + x
    stands_right y x = (λ i. link_right.first i + (y * column_right i + x)) ∙ omega arith

    row_of : (y : ℕ) → y < rows_in (channel_at s p.channel) → y < rows_in (nth (channels_of s) p.channel)
    row_of y = subst (λ (c : Channel). y < rows_in c) (sym link_left.is)

  levels_left : (xs ys : List ℤ) → Long 64 (channels_of s) xs → Long 64 (channels_of t) ys → (p : Mark) → Place s p
      → block_at S p (woven 64 (channels_of s) (channels_of t) xs ys) ≡ block_at s p xs
  unfolding block_of
  levels_left xs ys u v p q =
      ap (λ (n : ℕ). take 64 (drop (64 * n) (woven 64 (channels_of s) (channels_of t) xs ys))) (sym (stands p q.channel p.row p.column))
      ∙ woven_left 64 (channels_of s) (channels_of t) xs ys p.channel p.row p.column both.beside u v (link_left p q.channel).inside (row_of p q.channel p.row q.row)
      (subst (λ (n : ℕ). p.column < n) (sym (column_left p q.channel)) q.column)
      ∙ ap (λ (n : ℕ). take 64 (drop (64 * n) xs)) (stands_left p q.channel p.row p.column)

  levels_right : (xs ys : List ℤ) → Long 64 (channels_of s) xs → Long 64 (channels_of t) ys → (p : Mark) → Place t p
      → block_at S (moved_by s p) (woven 64 (channels_of s) (channels_of t) xs ys) ≡ block_at t p ys
  unfolding block_of
  levels_right xs ys u v p q =
      let o : p.channel < s.header.channels = omega (arith, q.channel, f.channels) in
      let y : p.row < rows_in (channel_at s p.channel) = omega (arith, q.row, ap (λ (n : ℕ). n / 8) (each_same s t h k l b m g f p.channel o).height) in
      ap (λ (n : ℕ). take 64 (drop (64 * n) (woven 64 (channels_of s) (channels_of t) xs ys)))
      (sym (ap (λ (n : ℕ). firsts (pairs_of (channels_of s) (channels_of t)) p.channel + (p.row * (columns_in (nth (channels_of s) p.channel) + columns_in (nth (channels_of t) p.channel)) + (n + p.column))) (column_left p o)
      ∙ stands p o p.row (columns_in (channel_at s p.channel) + p.column)))
      ∙ woven_right 64 (channels_of s) (channels_of t) xs ys p.channel p.row p.column both.beside u v (link_left p o).inside (row_of p o p.row y)
      (subst (λ (n : ℕ). p.column < n) (sym (column_right p o)) q.column)
      ∙ ap (λ (n : ℕ). take 64 (drop (64 * n) ys)) (stands_right p o p.row p.column)

  -- To either reader

  abbrev C : Contents
  C = record { sheet = S; held = H }

  from_left : (who : Reader) (p : Mark) → Place s p → SameBlock who C p (record { sheet = s; held = h }) p
  from_left who p q =
      record {
        there = has_of s p q;
        lows = seen_lows who H h (block_of S p) (block_of s p) (marked_left p q) (levels_left h.lent.lows k.lent.lows (long_lows (channels_of s) h both.held_left) (long_lows (channels_of t) k both.held_right) p q);
        highs = seen_highs who H h (block_of S p) (block_of s p) (marked_left p q) (levels_left h.lent.highs k.lent.highs (long_highs (channels_of s) h both.held_left) (long_highs (channels_of t) k both.held_right) p q);
      }

  from_right : (who : Reader) (p : Mark) → Place t p → SameBlock who C (moved_by s p) (record { sheet = t; held = k }) p
  from_right who p q =
      record {
        there = has_of t p q;
        lows = seen_lows who H k (block_of S (moved_by s p)) (block_of t p) (marked_right p q) (levels_right h.lent.lows k.lent.lows (long_lows (channels_of s) h both.held_left) (long_lows (channels_of t) k both.held_right) p q);
        highs = seen_highs who H k (block_of S (moved_by s p)) (block_of t p) (marked_right p q) (levels_right h.lent.highs k.lent.highs (long_highs (channels_of s) h both.held_left) (long_highs (channels_of t) k both.held_right) p q);
      }

  -- every place of the output is one of the left, or one of the right that is moved
  is_left : (p : Mark) → Place S p → p.column < columns_in (channel_at s p.channel) → Place s p
  is_left p q w = record { channel = q.channel; row = rw (channel-at s t p.channel) at q.row; column = w }

  is_right : (p : Mark) → Place S p → columns_in (channel_at s p.channel) ≤ p.column → Place t (back_by s p)
  is_right p q w =
      let y : p.row < (channel_at s p.channel).height / 8 = rw (channel-at s t p.channel) at q.row in
      record {
        channel = omega (arith, q.channel, f.channels);
        row = omega (arith, y, ap (λ (n : ℕ). n / 8) (each_same s t h k l b m g f p.channel q.channel).height);
        column = omega (arith, q.column, both.columns p.channel);
      }

  back_again : (p : Mark) → columns_in (channel_at s p.channel) ≤ p.column → moved_by s (back_by s p) ≡ p
  back_again p w =
      let e : columns_in (channel_at s p.channel) + (p.column - columns_in (channel_at s p.channel)) ≡ p.column = omega arith in
      λ i. record { channel = p.channel; row = p.row; column = e i }

  pub each_block : (who : Reader) (p : Mark) → has_block S p ≡ true → From (ltb p.column (columns_in (channel_at s p.channel))) who C p (record { sheet = s; held = h }) (record { sheet = t; held = k })
  each_block who p e = by (ltb p.column (columns_in (channel_at s p.channel))) refl
    where
      q : Place S p
      q = place-of S p e

      by : (x : Bool) → ltb p.column (columns_in (channel_at s p.channel)) ≡ x → From x who C p (record { sheet = s; held = h }) (record { sheet = t; held = k })
      by true d = from_left who p (is_left p q (ltb-true p.column (columns_in (channel_at s p.channel)) d))
      by false d =
          let w = ltb-false p.column (columns_in (channel_at s p.channel)) d in
          subst (λ (z : Mark). SameBlock who C z (record { sheet = t; held = k }) (back_by s p)) (back_again p w) (from_right who (back_by s p) (is_right p q w))

-- The whole

pub stitched : (left right text : List ℕ) → stitching left right ≡ Text text → Stitched left right text
unfolding stitching
stitched left right text e = by (read_text whole left) (read_text whole right) refl refl e
  where
    fit : (c d : Contents) → read_text whole left ≡ Gives c → read_text whole right ≡ Gives d → (x : Bool) → seam c d ≡ x → (y : Bool) → leb (c.sheet.header.width + d.sheet.header.width) 512 ≡ y
        → cond x (cond y (Text (output_of c d)) (Fault 2 0 0)) (Fault 16 0 0) ≡ Text text → Stitched left right text
    fit c d p q false f y g e = absurd cc
    fit c d p q true f false g e = absurd cc
    fit c d p q true f true g e =
        let o : output_of c d ≡ text = cc in
        let w = leb-true (c.sheet.header.width + d.sheet.header.width) 512 g in
        record {
          one = c;
          other = d;
          both = record { sheet = stitched_sheet c.sheet d.sheet; held = stitched_held c.sheet d.sheet c.held d.held };
          left_reads = p;
          right_reads = q;
          reads = ap (read_text whole) (sym o) ∙ output_reads left right c d p q f w;
          sheet = refl;
          tables = refl;
          blocks =
              each_block c.sheet d.sheet c.held d.held (legal whole left c.sheet c.held p) (legal_blocks whole left c.sheet c.held p) (legal whole right d.sheet d.held q) (legal_blocks whole right d.sheet d.held q)
              (fits left right c d p q f w) (legal_marks whole left c.sheet c.held p) (legal_marks whole right d.sheet d.held q);
        }

    by : (T U : Outcome Contents) → read_text whole left ≡ T → read_text whole right ≡ U → joining T U ≡ Text text → Stitched left right text
    by (Refused a b) U p q e = absurd cc
    by (Gives c) (Refused a b) p q e = absurd cc
    by (Gives c) (Gives d) p q e = fit c d p q (seam c d) refl (leb (c.sheet.header.width + d.sheet.header.width) 512) refl e
