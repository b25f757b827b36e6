-- The written rows: their fields are good, they say what was written, and they are short and free of tabs and line ends.
use Rattle.refusal.specs.declared.Refusal.{Refusal}
use Rattle.std.proofs.Common.{Some, None, Ok}
use Rattle.refusal.specs.declared.Refusal.TheVariants as refusal
use Prim.Native.Nat.{ℕ, ◌*◌, ◌<◌, ◌≤◌}
use mathlib.Core.Path.{◌≡◌, refl, sym, ap, ◌∙◌}
use mathlib.Core.List.{List, [], ◌∷◌, ◌++◌, map, append-nil}
use mathlib.Core.Bool.{Bool, true, false, cond}
use mathlib.Core.Logic.{◌⊎◌, inl, inr}
use native.Mathlib.Nat.{le_trans}
use native.Mathlib.Omega.{arith}
use lib.ListN.{length, get_or, replicate, length-map}
use lib.IntN.{ℤ}
use borrow.Author.Tests.{eq-eqb}
use Rattle.contents.specs.declared.Weight.{Weight}
use Rattle.text.specs.declared.field.Rule.{Rule}
use Rattle.text.specs.declared.field.Rule.TheVariants as rule
use Rattle.text.specs.declared.field.Field.TheVariants as field
use Rattle.text.specs.Numbers.{number_of, number_value, number_at}
use Rattle.text.specs.Weights.{weight_of, weight_in, weight_at}
use Rattle.text.specs.Fields.{letter, field_of, fault_in, lows_in, highs_in, tables_in}
use Rattle.contents.specs.Legal.{Between, LegalSide, LegalWeight, LegalLimits, LegalHeader, LegalChannel, LegalQuantisers, LegalLevels, LegalRanges}
use Rattle.text.specs.Written.{weight_text, level_text}
use Rattle.digits.specs.Written.{decimal, joined}
use Rattle.text.proofs.FieldLaws.{range_in, count_in, side_in, channels_one, channels_three, quantiser_in, weight_is, level-of, low_of, high_of}
use Rattle.text.proofs.DecimalLaws.{number_written}
use Rattle.digits.proofs.Lengths.{decimal_length}
use Rattle.text.proofs.SpellingLaws.{weight_written, level_written, weight_length}
use Rattle.text.proofs.JoinLaws.{above, above_free, above_less, above_decimal, above_weight, above_level, all_free, Within, joined_length}
use Rattle.contents.specs.Hold.{iterations_at, measured, LegalHold}
use Rattle.contents.proofs.ThreeLaws.{three_of}
use Rattle.contents.specs.declared.Limits.{Limits}
use Rattle.contents.specs.declared.Header.{Header}
use Rattle.contents.specs.declared.Channel.{Channel}
use Rattle.contents.specs.declared.Mark.{Mark}
use Rattle.contents.specs.declared.Sheet.{Sheet}
use Rattle.contents.specs.Sheets.{Held, no_weight, smoothing_at, data_at}
use Rattle.lines.specs.Lines.{count, mode, header_rules, hold_rules, hold_of, mark_rules, mark_of, channel_rules, block_rules, pair_rules, range_rules, field_count, first_fault, line_adds, holding, header_of, channel_of}
use Rattle.grammar.specs.Written.{header_fields, hold_fields, mark_fields, channel_fields, pair_texts, block_fields, end_fields}
use Rattle.lines.proofs.GoodLines.{lows_skip, highs_skip, tables_skip}
use Rattle.grammar.proofs.BlockLaws.{Block, with_block, block_bytes}

-- Good fields

range_written : (k : Refusal) (low high n : ℕ) → Between low high n → n ≤ 999999 → fault_in (field_of (rule.Range k low high) (decimal n)) ≡ None
range_written k low high n b h = rw (← range_in (decimal n) (Some n) n (sym (number_written n h)) refl k low high b.low b.top)

side_written : (most n : ℕ) → LegalSide most n → n ≤ 999999 → fault_in (field_of (rule.Side most) (decimal n)) ≡ None
side_written most n b h = rw (← side_in (decimal n) (Some n) n (sym (number_written n h)) refl most b.whole b.low b.top)

channels_written : (n : ℕ) → (n ≡ 1) ⊎ (n ≡ 3) → fault_in (field_of rule.Channels (decimal n)) ≡ None
channels_written n (inl e) = rw (← channels_one (decimal n) (Some n) n (sym (number_written n (omega arith))) refl e)
channels_written n (inr e) = rw (← channels_three (decimal n) (Some n) n (sym (number_written n (omega arith))) refl (λ q. omega arith) e)

weight_field_written : (w : Weight) → LegalWeight w → fault_in (field_of rule.Weight (weight_text w)) ≡ None
weight_field_written w h = rw (← weight_is (weight_text w) (Ok w) (sym (weight_written w h)) w refl)

quantiser_written : (q : ℕ) → Between 1 255 q → field_of rule.Quantiser (decimal q) ≡ Ok (field.Quantiser q)
quantiser_written q b = sym (quantiser_in (decimal q) (Some q) q (sym (number_written q (omega (arith, b.top)))) refl b.low b.top)

tag_written : (t : ℕ) → fault_in (field_of (rule.Tag t) (t ∷ [])) ≡ None
unfolding field_of
tag_written t = rw (eq-eqb t t refl)

mode_written : (j : Bool) → fault_in (field_of mode (cond j 106 115 ∷ [])) ≡ None
unfolding field_of
mode_written true = refl
mode_written false = refl

-- every field is good
abbrev Goods : List Rule → List (List ℕ) → Type 0
Goods [] fs = Unit {0}
Goods (r ∷ rs) [] = Unit {0}
Goods (r ∷ rs) (f ∷ fs) = (fault_in (field_of r f) ≡ None) × Goods rs fs

goods : (rs : List Rule) (fs : List (List ℕ)) → Goods rs fs → first_fault rs fs ≡ None
goods [] fs g = refl
goods (r ∷ rs) [] g = refl
goods (r ∷ rs) (f ∷ fs) g = rw g.0 (goods rs fs g.1)

-- The header

number_back : (n : ℕ) → n ≤ 999999 → number_value (number_of (decimal n)) ≡ n
number_back n h = rw (number_written n h)

weight_back : (w : Weight) → LegalWeight w → weight_in (weight_of (weight_text w)) ≡ w
weight_back w h = rw (weight_written w h)

mode_back : (j : Bool) → letter 106 (cond j 106 115 ∷ []) ≡ j
mode_back true = refl
mode_back false = refl

module _ (limits : Limits) (allowed : LegalLimits limits) (h : Header) (l : LegalHeader limits h) where
  most : limits.side ≤ 512
  most = allowed.side.top

  page : limits.iterations ≤ 1000
  page = allowed.iterations

  wide : h.width ≤ 999999
  wide = omega (arith, most, l.width.top)

  high : h.height ≤ 999999
  high = omega (arith, most, l.height.top)

  few : h.channels ≤ 999999
  few = by l.channels
    where
      by : (h.channels ≡ 1) ⊎ (h.channels ≡ 3) → h.channels ≤ 999999
      by (inl e) = omega arith
      by (inr e) = omega arith

  pub header_good : first_fault (header_rules limits (header_fields h)) (header_fields h) ≡ None
  unfolding number_at
  header_good =
      goods (header_rules limits (header_fields h)) (header_fields h) (
        tag_written 83,
        (
          side_written limits.side h.width l.width wide,
          (
            side_written limits.side h.height l.height high,
            (
              rw (number_back h.width wide) (range_written refusal.Size 1 h.width h.picture_width l.shown_width (omega (arith, l.shown_width.top, wide))),
              (
                rw (number_back h.height high) (range_written refusal.Size 1 h.height h.picture_height l.shown_height (omega (arith, l.shown_height.top, high))),
                (
                  channels_written h.channels l.channels,
                  (
                    mode_written h.joint,
                    (
                      count_written (iterations_at h 0) (l.iterations 0),
                      (
                        count_written (iterations_at h 1) (l.iterations 1),
                        (
                          count_written (iterations_at h 2) (l.iterations 2),
                          (
                            weight_field_written (smoothing_at h 0) (l.smoothing 0),
                            (
                              weight_field_written (smoothing_at h 1) (l.smoothing 1),
                              (
                                weight_field_written (smoothing_at h 2) (l.smoothing 2),
                                (
                                  weight_field_written (data_at h 0) (l.data_weights 0),
                                  (
                                    weight_field_written (data_at h 1) (l.data_weights 1),
                                    (weight_field_written (data_at h 2) (l.data_weights 2), tt),
                                  ),
                                ),
                              ),
                            ),
                          ),
                        ),
                      ),
                    ),
                  ),
                ),
              ),
            ),
          ),
        ),
      )
    where
      count_written : (n : ℕ) → n ≤ limits.iterations → fault_in (field_of (count limits) (decimal n)) ≡ None
      count_written n k = rw (← count_in (decimal n) (Some n) n (sym (number_written n (omega (arith, page)))) refl limits.iterations (omega (arith, page)) k)

  pub header_back : header_of (header_fields h) ≡ h
  unfolding header_of number_at weight_at
  header_back =
      rw (
        number_back h.width wide,
        number_back h.height high,
        number_back h.picture_width (omega (arith, l.shown_width.top, wide)),
        number_back h.picture_height (omega (arith, l.shown_height.top, high)),
        number_back h.channels few,
        mode_back h.joint,
        number_back (iterations_at h 0) (omega (arith, page, (l.iterations 0))),
        number_back (iterations_at h 1) (omega (arith, page, (l.iterations 1))),
        number_back (iterations_at h 2) (omega (arith, page, (l.iterations 2))),
        weight_back (smoothing_at h 0) (l.smoothing 0),
        weight_back (smoothing_at h 1) (l.smoothing 1),
        weight_back (smoothing_at h 2) (l.smoothing 2),
        weight_back (data_at h 0) (l.data_weights 0),
        weight_back (data_at h 1) (l.data_weights 1),
        weight_back (data_at h 2) (l.data_weights 2),
      )
      (λ i.
      record {
        width = h.width;
        height = h.height;
        picture_width = h.picture_width;
        picture_height = h.picture_height;
        channels = h.channels;
        joint = h.joint;
        iterations = three_of 0 h.iterations l.three_iterations i;
        smoothing = three_of no_weight h.smoothing l.three_smoothing i;
        data_weights = three_of no_weight h.data_weights l.three_data i;
      })

-- The held counts

module _ (h : Header) (six : (c : ℕ) → measured h c ≤ 999999) (l : List ℕ) (g : LegalHold h (Some l)) where
  first_six : get_or l 0 0 ≤ 999999
  first_six = le_trans g.1 (six 0)

  second_six : get_or l 1 0 ≤ 999999
  second_six = le_trans g.2 (six 1)

  third_six : get_or l 2 0 ≤ 999999
  third_six = le_trans g.3 (six 2)

  pub hold_good : first_fault (hold_rules h) (hold_fields l) ≡ None
  hold_good =
      rw (
        tag_written 72,
        range_written refusal.Hold 0 (measured h 0) (get_or l 0 0) (record { low = omega arith; top = g.1 }) first_six,
        range_written refusal.Hold 0 (measured h 1) (get_or l 1 0) (record { low = omega arith; top = g.2 }) second_six,
        range_written refusal.Hold 0 (measured h 2) (get_or l 2 0) (record { low = omega arith; top = g.3 }) third_six,
      )

  pub hold_back : hold_of (hold_fields l) ≡ l
  unfolding hold_of number_at
  hold_back = rw (number_back (get_or l 0 0) first_six, number_back (get_or l 1 0) second_six, number_back (get_or l 2 0) third_six) (three_of 0 l g.0)

-- Marks

pub record SmallMark (m : Mark) : Type 0 where
  pub channel : m.channel ≤ 2
  pub row : m.row ≤ 63
  pub column : m.column ≤ 63

module _ (m : Mark) (g : SmallMark m) where
  any_written : (n : ℕ) → n ≤ 999999 → fault_in (field_of (rule.Range refusal.Form 0 999999) (decimal n)) ≡ None
  any_written n h = range_written refusal.Form 0 999999 n (record { low = omega arith; top = h }) h

  pub mark_good : first_fault mark_rules (mark_fields m) ≡ None
  mark_good =
      rw (tag_written 78, any_written m.channel (omega (arith, g.channel)), any_written m.row (omega (arith, g.row)), any_written m.column (omega (arith, g.column)))

  pub mark_back : mark_of (mark_fields m) ≡ m
  unfolding mark_of number_at
  mark_back = rw (number_back m.channel (omega (arith, g.channel)), number_back m.row (omega (arith, g.row)), number_back m.column (omega (arith, g.column)))

-- Channels

all_decimal : (qs : List ℕ) → LegalQuantisers qs → (first_fault (replicate (length qs) rule.Quantiser) (map decimal qs) ≡ None) × (line_adds tables_in (replicate (length qs) rule.Quantiser) (map decimal qs) ≡ qs)
all_decimal [] l = (refl, refl)
all_decimal (q ∷ qs) l =
    let r = all_decimal qs l.1 in
    rw (quantiser_written q l.0) (r.0, ap (λ (x : List ℕ). q ∷ x) r.1)

-- the line of levels that is written, or of pairs: its fields are good, and what they add to the lows, the highs and the tables
record Adds (rs : List Rule) (fs : List (List ℕ)) (ls hs : List ℤ) : Type 0 where
  good : first_fault rs fs ≡ None
  lows : line_adds lows_in rs fs ≡ ls
  highs : line_adds highs_in rs fs ≡ hs
  tables : line_adds tables_in rs fs ≡ []

all_level : (zs : List ℤ) → LegalLevels zs → Adds (replicate (length zs) rule.Level) (map level_text zs) zs zs
all_level [] l = record { good = refl; lows = refl; highs = refl; tables = refl }
all_level (z ∷ zs) l =
    let r = all_level zs l.1 in
    let e = level-of (level_text z) z (level_written z l.0) in
    record {
      good = rw e r.good;
      lows = rw e (ap (λ (x : List ℤ). z ∷ x) r.lows);
      highs = rw e (ap (λ (x : List ℤ). z ∷ x) r.highs);
      tables = rw e r.tables;
    }

all_pairs : (ls hs : List ℤ) → length ls ≡ length hs → LegalLevels ls → LegalLevels hs → LegalRanges ls hs → Adds (pair_rules (length ls) (pair_texts ls hs)) (pair_texts ls hs) ls hs
all_pairs [] [] n l h o = record { good = refl; lows = refl; highs = refl; tables = refl }
all_pairs [] (y ∷ hs) n l h o = let w : ⊥ = omega arith in absurd w
all_pairs (z ∷ ls) [] n l h o = let w : ⊥ = omega arith in absurd w
all_pairs (z ∷ ls) (y ∷ hs) n l h o =
    let r = all_pairs ls hs (omega arith) l.1 h.1 o.1 in
    let w = level_written z l.0 in
    let e = low_of (level_text z) z w in
    let f = high_of (level_text y) y (level_written y h.0) z o.0 in
    record {
      good = rw (e, w, f) r.good;
      lows = rw (e, w, f) (ap (λ (x : List ℤ). z ∷ x) r.lows);
      highs = rw (e, w, f) (ap (λ (x : List ℤ). y ∷ x) r.highs);
      tables = rw (e, w, f) r.tables;
    }

-- the full sides have at most six digits
abbrev pub SixDigits : Header → Type 0
SixDigits h = (h.width ≤ 999999) × (h.height ≤ 999999)

wider : (a m n : ℕ) → LegalSide m a → m ≤ n → LegalSide n a
wider a m n l h = record { whole = l.whole; low = l.low; top = le_trans l.top h }

module _ (h : Header) (x : SixDigits h) (c : Channel) (l : LegalChannel h c) (qs : List ℕ) (n : length qs ≡ 64) (g : LegalQuantisers qs) where
  pub channel_good : first_fault channel_rules (channel_fields c qs) ≡ None
  channel_good =
      rw (
        tag_written 67,
        side_written 999999 c.width (wider c.width h.width 999999 l.width x.0) (le_trans l.width.top x.0),
        side_written 999999 c.height (wider c.height h.height 999999 l.height x.1) (le_trans l.height.top x.1),
        range_written refusal.Factor 1 4 c.across l.across (omega (arith, l.across.top)),
        range_written refusal.Factor 1 4 c.down l.down (omega (arith, l.down.top)),
      )
      (rw n at (all_decimal qs g).0)

  pub channel_said : line_adds tables_in (replicate 64 rule.Quantiser) (map decimal qs) ≡ qs
  channel_said = rw n at (all_decimal qs g).1

  pub channel_back : channel_of (channel_fields c qs) ≡ c
  unfolding channel_of number_at
  channel_back =
      rw (number_back c.width (le_trans l.width.top x.0), number_back c.height (le_trans l.height.top x.1), number_back c.across (omega (arith, l.across.top)), number_back c.down (omega (arith, l.down.top)))

-- Blocks and the end

-- the rules of a block's line
abbrev pub rules_in : Bool → List (List ℕ) → List Rule
rules_in false fs = block_rules
rules_in true fs = range_rules fs

abbrev pub tag_in : Bool → ℕ
tag_in false = 66
tag_in true = 71

module _ (ls hs : List ℤ) where
  levels-in : Block false ls hs → Adds (replicate 64 rule.Level) (map level_text ls) ls ls
  levels-in b = rw b.low_count at (all_level ls b.lows)

  pairs_in : Block true ls hs → Adds (pair_rules 64 (pair_texts ls hs)) (pair_texts ls hs) ls hs
  pairs_in b = rw b.low_count at (all_pairs ls hs (b.low_count ∙ sym b.high_count) b.lows b.highs b.ranges)

  pub block_good : (r : Bool) → Block r ls hs → first_fault (rules_in r (block_fields r ls hs)) (block_fields r ls hs) ≡ None
  block_good false b = rw (tag_written 66) (levels-in b).good
  block_good true b = rw (tag_written 71) (pairs_in b).good

  pub block_holds : (r : Bool) → Block r ls hs → (H : Held) (s : Sheet) → holding H s (tag_in r) (rules_in r (block_fields r ls hs)) (block_fields r ls hs) ≡ with_block H r ls hs
  block_holds false b H s =
      let a = levels-in b in
      rw (
        lows_skip (rule.Tag 66 ∷ []) (replicate 64 rule.Level) (block_fields false ls hs) refl,
        highs_skip (rule.Tag 66 ∷ []) (replicate 64 rule.Level) (block_fields false ls hs) refl,
        tables_skip (rule.Tag 66 ∷ []) (replicate 64 rule.Level) (block_fields false ls hs) refl,
        a.lows,
        a.highs,
        a.tables,
        append-nil H.lent.tables,
        append-nil H.marks,
        b.alike refl,
      )
  block_holds true b H s =
      let a = pairs_in b in
      rw (
        lows_skip (rule.Tag 71 ∷ []) (pair_rules 64 (pair_texts ls hs)) (block_fields true ls hs) refl,
        highs_skip (rule.Tag 71 ∷ []) (pair_rules 64 (pair_texts ls hs)) (block_fields true ls hs) refl,
        tables_skip (rule.Tag 71 ∷ []) (pair_rules 64 (pair_texts ls hs)) (block_fields true ls hs) refl,
        a.lows,
        a.highs,
        a.tables,
        append-nil H.lent.tables,
        append-nil H.marks,
      )

pairs_many : (ls hs : List ℤ) → length ls ≡ length hs → length (pair_texts ls hs) ≡ 2 * length ls
pairs_many [] hs e = refl
pairs_many (z ∷ ls) [] e = let w : ⊥ = omega arith in absurd w
pairs_many (z ∷ ls) (y ∷ hs) e = omega (arith, pairs_many ls hs (omega arith))

pub block-count : (r : Bool) (ls hs : List ℤ) → Block r ls hs → length (block_fields r ls hs) ≡ field_count (tag_in r)
unfolding field_count
block-count false ls hs b = omega (arith, length-map ls level_text, b.low_count)
block-count true ls hs b = omega (arith, pairs_many ls hs (b.low_count ∙ sym b.high_count), b.low_count)

pub end_good : first_fault (rule.Tag 69 ∷ []) end_fields ≡ None
end_good = rw (tag_written 69)

-- No field has a tab or a line end

abbrev Cleans : List (List ℕ) → Type 0
Cleans [] = Unit {0}
Cleans (f ∷ fs) = (above 45 f ≡ true) × Cleans fs

cleans_free : (b : ℕ) → b < 45 → (fs : List (List ℕ)) → Cleans fs → all_free b fs ≡ true
cleans_free b h [] c = refl
cleans_free b h (f ∷ fs) c = rw (above_free 45 b f h c.0) (cleans_free b h fs c.1)

clean_decimal : (n : ℕ) → above 45 (decimal n) ≡ true
clean_decimal n = above_less 45 48 (decimal n) (omega arith) (above_decimal n)

clean_decimals : (qs : List ℕ) → Cleans (map decimal qs)
clean_decimals [] = tt
clean_decimals (q ∷ qs) = (clean_decimal q, clean_decimals qs)

clean_levels : (zs : List ℤ) → Cleans (map level_text zs)
clean_levels [] = tt
clean_levels (z ∷ zs) = (above_level z, clean_levels zs)

clean_mode : (j : Bool) → above 45 (cond j 106 115 ∷ []) ≡ true
clean_mode true = refl
clean_mode false = refl

pub header_free : (b : ℕ) → b < 45 → (h : Header) → all_free b (header_fields h) ≡ true
header_free b k h =
    cleans_free b k (header_fields h) (
      refl,
      (
        clean_decimal h.width,
        (
          clean_decimal h.height,
          (
            clean_decimal h.picture_width,
            (
              clean_decimal h.picture_height,
              (
                clean_decimal h.channels,
                (
                  clean_mode h.joint,
                  (
                    clean_decimal (iterations_at h 0),
                    (
                      clean_decimal (iterations_at h 1),
                      (
                        clean_decimal (iterations_at h 2),
                        (above_weight (smoothing_at h 0), (above_weight (smoothing_at h 1), (above_weight (smoothing_at h 2), (above_weight (data_at h 0), (above_weight (data_at h 1), (above_weight (data_at h 2), tt)))))),
                      ),
                    ),
                  ),
                ),
              ),
            ),
          ),
        ),
      ),
    )

pub hold_free : (b : ℕ) → b < 45 → (l : List ℕ) → all_free b (hold_fields l) ≡ true
hold_free b h l = cleans_free b h (hold_fields l) (refl, (clean_decimal (get_or l 0 0), (clean_decimal (get_or l 1 0), (clean_decimal (get_or l 2 0), tt))))

pub mark_free : (b : ℕ) → b < 45 → (m : Mark) → all_free b (mark_fields m) ≡ true
mark_free b h m = cleans_free b h (mark_fields m) (refl, (clean_decimal m.channel, (clean_decimal m.row, (clean_decimal m.column, tt))))

pub channel_free : (b : ℕ) → b < 45 → (c : Channel) (qs : List ℕ) → all_free b (channel_fields c qs) ≡ true
channel_free b k c qs =
    cleans_free b k (channel_fields c qs)
    (refl, (clean_decimal c.width, (clean_decimal c.height, (clean_decimal c.across, (clean_decimal c.down, clean_decimals qs)))))

clean_pairs : (ls hs : List ℤ) → Cleans (pair_texts ls hs)
clean_pairs [] hs = tt
clean_pairs (z ∷ ls) [] = tt
clean_pairs (z ∷ ls) (y ∷ hs) = (above_level z, (above_level y, clean_pairs ls hs))

pub block_free : (b : ℕ) → b < 45 → (r : Bool) (ls hs : List ℤ) → all_free b (block_fields r ls hs) ≡ true
block_free b k false ls hs = cleans_free b k (block_fields false ls hs) (refl, clean_levels ls)
block_free b k true ls hs = cleans_free b k (block_fields true ls hs) (refl, clean_pairs ls hs)

-- No row is over 1,024 bytes

short_decimal : (n : ℕ) → n ≤ 999999 → length (decimal n) ≤ 6
short_decimal n h = decimal_length 5 n (omega arith)

all_short : (qs : List ℕ) → LegalQuantisers qs → Within (map decimal qs) (replicate (length qs) 6)
all_short [] l = tt
all_short (q ∷ qs) l = (short_decimal q (omega (arith, l.0.top)), all_short qs l.1)

pub header_short : (limits : Limits) → LegalLimits limits → (h : Header) → LegalHeader limits h → length (joined (header_fields h)) ≤ 1024
header_short limits most h l =
    let w = short_decimal h.width (wide limits most h l) in
    let v = short_decimal h.height (high limits most h l) in
    omega (
      arith,
      joined_length (header_fields h) (1 ∷ replicate 5 6 ++ 1 ∷ replicate 3 6 ++ replicate 6 9) (omega arith) (
        omega arith,
        (
          w,
          (
            v,
            (
              short_decimal h.picture_width (omega (arith, l.shown_width.top, wide limits most h l)),
              (
                short_decimal h.picture_height (omega (arith, l.shown_height.top, high limits most h l)),
                (
                  short_decimal h.channels (few limits most h l),
                  (
                    omega arith,
                    (
                      short_decimal (iterations_at h 0) (omega (arith, most.iterations, (l.iterations 0))),
                      (
                        short_decimal (iterations_at h 1) (omega (arith, most.iterations, (l.iterations 1))),
                        (
                          short_decimal (iterations_at h 2) (omega (arith, most.iterations, (l.iterations 2))),
                          (
                            weight_length (smoothing_at h 0) (l.smoothing 0),
                            (
                              weight_length (smoothing_at h 1) (l.smoothing 1),
                              (
                                weight_length (smoothing_at h 2) (l.smoothing 2),
                                (weight_length (data_at h 0) (l.data_weights 0), (weight_length (data_at h 1) (l.data_weights 1), (weight_length (data_at h 2) (l.data_weights 2), tt))),
                              ),
                            ),
                          ),
                        ),
                      ),
                    ),
                  ),
                ),
              ),
            ),
          ),
        ),
      ),
    )

pub channel_short : (h : Header) → SixDigits h → (c : Channel) → LegalChannel h c → (qs : List ℕ) → length qs ≡ 64 → LegalQuantisers qs → length (joined (channel_fields c qs)) ≤ 1024
channel_short h x c l qs n g =
    omega (
      arith,
      joined_length (channel_fields c qs) (1 ∷ replicate 4 6 ++ replicate 64 6) (omega arith) (
        omega arith,
        (
          short_decimal c.width (le_trans l.width.top x.0),
          (
            short_decimal c.height (le_trans l.height.top x.1),
            (short_decimal c.across (omega (arith, l.across.top)), (short_decimal c.down (omega (arith, l.down.top)), rw n at (all_short qs g))),
          ),
        ),
      ),
    )

pub block_short : (r : Bool) (ls hs : List ℤ) → Block r ls hs → length (joined (block_fields r ls hs)) ≤ 1024
block_short r ls hs b = omega (arith, block_bytes r ls hs b)

pub mark_short : (m : Mark) → SmallMark m → length (joined (mark_fields m)) ≤ 1024
mark_short m g =
    omega (
      arith,
      joined_length (mark_fields m) (1 ∷ replicate 3 6) (omega arith) (
        omega arith,
        (short_decimal m.channel (omega (arith, g.channel)), (short_decimal m.row (omega (arith, g.row)), (short_decimal m.column (omega (arith, g.column)), tt))),
      ),
    )
