-- A sheet that is read is not refused by solve: its runs are legal, and buffers of the lengths that its header gives are long enough.
use mathlib.Core.Path.{◌≡◌, refl, sym, ap, ◌∙◌, subst}
use mathlib.Core.Logic.{◌⊎◌, inl, inr}
use mathlib.Core.Bool.{Bool, true, false, not, ◌&&◌, ◌||◌}
use mathlib.Core.List.{List, [], ◌∷◌}
use Prim.Native.Nat.{ℕ, zero, suc, ◌+◌, ◌*◌, ◌%◌, ◌≤◌, ◌<◌}
use native.Mathlib.Nat.{mul_comm, le_refl, le_trans}
use native.Mathlib.Omega.{arith}
use lib.Dec.{T, eqb, leb, le→leb}
use lib.IntN.{ℤ, pos, negsuc}
use lib.Ieee.{Float, nan, inf, fin}
use lib.Ieee.Fits.{and_i, eq→eqb}
use lib.ListN.{length, get_or}
use Rattle.contents.specs.Legal.{Between, LegalSide, LegalWeight, LegalLevel, LegalChannel, LegalSheet, LegalQuantisers, LegalLevels, LegalRanges}
use Rattle.contents.specs.Weights.{value_of, plain}
use Rattle.contents.specs.declared.Weight.{Weight}
use Rattle.contents.proofs.ValueLaws as ValueLaws
use Rattle.contents.specs.Hold.{measured}
use Rattle.contents.proofs.HoldLaws.{three_0, measured_first, measured_apart, measured_one, hold_most}
use Rattle.contents.specs.declared.Limits.{Limits}
use Rattle.contents.specs.declared.Sheet.{Sheet}
use Rattle.contents.specs.declared.Header.{Header}
use Rattle.contents.specs.declared.Channel as Line
use Rattle.contents.specs.Sheets as Sheets
use Rattle.contents.specs.Sheets.{Lent, channel_at, data_at, levels_to}
use Rattle.start.specs.Coef.{Levels, pairs}
use Rattle.calls.specs.Run.{coefs, count, levels_before, Numbers, fresh, own, place, side, full_side, factor, weight, own_ok, header_ok, sheet_ok, places_ok, legal, every}
use Rattle.calls.specs.Run as Model
use Rattle.calls.specs.Calls.{all, table_ok, level_ok, levels_fault, lend_tests, start_refusal}
use Rattle.calls.proofs.Tests.{every_of, never, skip, of_lent}
use Rattle.calls.specs.Between.{PlaceIs}
use Rattle.calls.proofs.Legal.{places-ok}
use Rattle.record.specs.declared.Run.{Run}
use Rattle.record.specs.declared.Channel.{Channel}
use Rattle.record.specs.Model.{sheet_of, places_of, own_of, place_of, no_channel}
use Rattle.record.proofs.Channels.{at_own, at_place, at_position, at_mark, first_long}
use Rattle.solve.proofs.Alone.{then_start}
use Rattle.solve.specs.Solve.{held_in, joint, alone, iterations_at, run_channel, joint_given, blend_count, is_legal, all_legal, solve_refusal}
use Rattle.program.specs.Printed.{levels_of}

-- ---- tests from facts

six : (a b c d e f : Bool) → T a → T b → T c → T d → T e → T f → T (a && b && c && d && e && f)
six a b c d e f ta tb tc td te tf =
    and_i (a && b && c && d && e) f (and_i (a && b && c && d) e (and_i (a && b && c) d (and_i (a && b) c (and_i a b ta tb) tc) td) te) tf

side_test : (m n : ℕ) → LegalSide m n → T (side n)
side_test m n l = and_i (eqb (n % 8) 0) (leb 8 n) (eq→eqb l.whole) (le→leb 8 n l.low)

pub full_test : (n : ℕ) → LegalSide 512 n → T (full_side n)
full_test n l = and_i (side n) (leb n 512) (side_test 512 n l) (le→leb n 512 l.top)

pub wider : (m k n : ℕ) → LegalSide m n → m ≤ k → LegalSide k n
wider m k n l h = record { whole = l.whole; low = l.low; top = omega (arith, l.top) }

factor_test : (n : ℕ) → Between 1 4 n → T (factor n)
factor_test n l = and_i (leb 1 n) (leb n 4) (le→leb 1 n l.low) (le→leb n 4 l.top)

same_test : (x : Float) → plain x ≡ true → T (weight x)
unfolding weight
same_test nan e = never false refl e
same_test (inf s) e = never false refl e
same_test (fin false m k) e = tt
same_test (fin true m k) e = never false refl e

weight_test : (w : Weight) → LegalWeight w → T (weight (value_of w))
weight_test w l = same_test (value_of w) (ValueLaws.legal_plain w l)

-- ---- a run of fresh channels

-- what a run must have to be legal, at position 0
record Fine (r : Run) : Type 0 where
  three : length r.channels ≡ 3
  wide : LegalSide 512 r.w
  high : LegalSide 512 r.h
  few : r.n ≤ 1000
  smooth : T (weight r.smoothing)
  count : (r.count ≡ 1) ⊎ (r.count ≡ 3)
  each : (c : ℕ) → c < r.count → T (own_ok (sheet_of r) (own_of (get_or r.channels c no_channel)))
  at_start : (c : ℕ) → c < r.count → (get_or r.channels c no_channel).position ≡ 0
  unmarked : (c : ℕ) → c < r.count → (get_or r.channels c no_channel).mark ≡ false
  unclipped : (c : ℕ) → c < r.count → (get_or r.channels c no_channel).clipped ≡ 0

pub counted : (n : ℕ) → (n ≡ 1) ⊎ (n ≡ 3) → T (eqb n 1 || eqb n 3)
counted n (inl e) = subst (λ (k : ℕ). T (eqb k 1 || eqb k 3)) (sym e) tt
counted n (inr e) = subst (λ (k : ℕ). T (eqb k 1 || eqb k 3)) (sym e) tt

pub at-most : (n : ℕ) → (n ≡ 1) ⊎ (n ≡ 3) → n ≤ 3
at-most n (inl e) = omega arith
at-most n (inr e) = omega arith

module _ (r : Run) (f : Fine r) where
  short : r.count ≤ length r.channels
  short = omega (arith, at-most r.count f.count, f.three)

  header_fine : T (header_ok (sheet_of r))
  unfolding header_ok
  header_fine =
      six (full_side r.w) (full_side r.h) (leb r.n 1000) (weight r.smoothing) (eqb r.count 1 || eqb r.count 3) (eqb (length (sheet_of r).owns) r.count)
      (full_test r.w f.wide) (full_test r.h f.high) (le→leb r.n 1000 f.few) f.smooth (counted r.count f.count)
      (eq→eqb (first_long own_of (own (sheet_of r) 3) r short))

  own_fine : (c : ℕ) → c < r.count → T (own_ok (sheet_of r) (own (sheet_of r) c))
  own_fine c h = subst (λ (o : Numbers). T (own_ok (sheet_of r) o)) (sym (at_own r c short h)) (f.each c h)

  place_fine : (c : ℕ) → c < r.count → PlaceIs (sheet_of r) (own (sheet_of r) c) (place (places_of r) c)
  place_fine c h =
      let none : (place (places_of r) c).clipped ≡ 0 = ap (λ (p : Model.Place). p.clipped) (at_place r c short h) ∙ f.unclipped c h in
      record {
        within = omega (arith, at_position r c short h, f.at_start c h);
        marked = λ m. never (place (places_of r) c).mark (at_mark r c short h ∙ f.unmarked c h) m;
        clipped_most = omega arith;
        clipped_none = λ e. none;
      }

  run_legal : T (is_legal r)
  unfolding sheet_ok
  run_legal =
      and_i (sheet_ok (sheet_of r)) (places_ok (sheet_of r) (places_of r))
      (and_i (header_ok (sheet_of r)) (every r.count (λ c. own_ok (sheet_of r) (own (sheet_of r) c))) header_fine
      (every_of r.count (λ c. own_ok (sheet_of r) (own (sheet_of r) c)) own_fine))
      (places-ok (sheet_of r) (places_of r)
      (record {
        long = first_long place_of fresh r short;
        each = place_fine;
        equal = λ c h. ap Model.blends_in (at_position r c short h ∙ f.at_start c h ∙ sym (at_position r 0 short (omega arith) ∙ f.at_start 0 (omega arith)));
      }))

-- ---- the runs of a legal sheet

own_test : (r : Run) (m n : ℕ) (x : Channel) → LegalSide m x.width → LegalSide n x.height → Between 1 4 x.across → Between 1 4 x.down
    → x.width * x.across ≤ r.w → x.height * x.down ≤ r.h → T (weight x.weight) → x.held ≤ r.n → T (own_ok (sheet_of r) (own_of x))
unfolding own_ok
own_test r m n x wide high across down cover-across cover-down w held =
    let sized = side x.width && side x.height && factor x.across && factor x.down && leb (x.width * x.across) r.w && leb (x.height * x.down) r.h in
    and_i (sized && weight x.weight) (leb x.held r.n)
    (and_i sized (weight x.weight)
    (six (side x.width) (side x.height) (factor x.across) (factor x.down) (leb (x.width * x.across) r.w) (leb (x.height * x.down) r.h)
    (side_test m x.width wide) (side_test n x.height high) (factor_test x.across across) (factor_test x.down down)
    (le→leb (x.width * x.across) r.w cover-across) (le→leb (x.height * x.down) r.h cover-down))
    w)
    (le→leb x.held r.n held)

-- a channel line and a weight of a legal sheet, as a channel of a run with the sheet's sides, held within the run's steps
channel_test : (r : Run) (h : Header) (x : Line.Channel) (w : Weight) (held : ℕ) → r.w ≡ h.width → r.h ≡ h.height → LegalChannel h x → LegalWeight w → held ≤ r.n
    → T (own_ok (sheet_of r) (own_of (run_channel x w held)))
channel_test r h x w held e f l lw most =
    own_test r h.width h.height (run_channel x w held) l.width l.height l.across l.down (omega (arith, l.wide)) (omega (arith, l.high))
    (weight_test w lw) most

-- a run's channel c below its count, of three
below_3 : (A : ℕ → Type 0) → A 0 → A 1 → A 2 → (c : ℕ) → c < 3 → A c
below_3 A x y z zero h = x
below_3 A x y z (suc zero) h = y
below_3 A x y z (suc (suc zero)) h = z
below_3 A x y z (suc (suc (suc c))) h = absurd (omega arith)

-- quantisers and levels
tables_test : (ts : List ℕ) → LegalQuantisers ts → T (all table_ok ts)
tables_test [] h = tt
tables_test (q ∷ qs) h = and_i (table_ok q) (all table_ok qs) (and_i (leb 1 q) (leb q 255) (le→leb 1 q h.0.low) (le→leb q 255 h.0.top)) (tables_test qs h.1)

level_test : (z : ℤ) → LegalLevel z → T (level_ok z)
level_test (pos n) h = le→leb n 2047 h
level_test (negsuc n) h = le→leb (suc n) 2047 (omega arith)

pub is_true : (b : Bool) → T b → b ≡ true
is_true true t = refl
is_true false t = absurd t

-- no pair of legal levels, low not above high, is 5 or 14
pairs_test : (ls hs : List ℤ) → LegalLevels ls → LegalLevels hs → LegalRanges ls hs → levels_fault (pairs ls hs) ≡ 0
pairs_test [] hs l h o = refl
pairs_test (x ∷ ls) [] l h o = refl
pairs_test (x ∷ ls) (y ∷ hs) l h o = rw (is_true (level_ok x) (level_test x l.0), is_true (level_ok y) (level_test y h.0), o.0) (pairs_test ls hs l.1 h.1 o.1)

module _ (limits : Limits) (S : Sheet) (b : Lent) (l : LegalSheet limits S b) where
  abbrev ls : Levels
  ls = levels_of b

  abbrev ts : List ℕ
  ts = b.tables

  full : (n : ℕ) → LegalSide limits.side n → LegalSide 512 n
  full n s = wider limits.side 512 n s l.limits_legal.side.top

  thousand : (n : ℕ) → n ≤ limits.iterations → n ≤ 1000
  thousand n k = le_trans k l.limits_legal.iterations

  -- M-108: in the sheet's own mode a count is within what it is measured against, which is the run's steps; in the other mode it is the run's steps
  measured_joint : S.header.joint ≡ true → (c : ℕ) → c < S.header.channels → measured S.header c ≡ iterations_at S 0
  measured_joint j c below = go l.header.channels
    where
      go : (S.header.channels ≡ 1) ⊎ (S.header.channels ≡ 3) → measured S.header c ≡ iterations_at S 0
      go (inl e) =
          let first : c ≡ 0 = omega arith in
          sym (measured_one S.header c (iterations_at S 0) (three_0 c _ _ _ first) (λ t. omega arith))
      go (inr e) = sym (measured_first S.header c 0 e j)

  measured_alone : S.header.joint ≡ false → (c : ℕ) → measured S.header c ≡ iterations_at S c
  measured_alone j c = go l.header.channels
    where
      go : (S.header.channels ≡ 1) ⊎ (S.header.channels ≡ 3) → measured S.header c ≡ iterations_at S c
      go (inl e) = sym (measured_one S.header c (iterations_at S c) refl (λ t. omega arith))
      go (inr e) = sym (measured_apart S.header c (iterations_at S c) refl j e)

  joint_held : (c : ℕ) → c < S.header.channels → held_in S.header.joint S c (iterations_at S 0) ≤ iterations_at S 0
  joint_held c below = go S.header.joint refl
    where
      go : (b : Bool) → S.header.joint ≡ b → held_in b S c (iterations_at S 0) ≤ iterations_at S 0
      go true j = omega (arith, hold_most S l.hold c, measured_joint j c below)
      go false j = omega arith

  alone_held : (c : ℕ) → held_in (not S.header.joint) S c (iterations_at S c) ≤ iterations_at S c
  alone_held c = go S.header.joint refl
    where
      go : (b : Bool) → S.header.joint ≡ b → held_in (not b) S c (iterations_at S c) ≤ iterations_at S c
      go true j = le_refl (iterations_at S c)
      go false j = omega (arith, hold_most S l.hold c, measured_alone j c)

  joint_fine : Fine (joint S)
  unfolding joint
  joint_fine =
      let h = S.header in
      record {
        three = refl;
        wide = full h.width l.header.width;
        high = full h.height l.header.height;
        few = thousand (iterations_at S 0) (l.header.iterations 0);
        smooth = weight_test (Sheets.smoothing_at h 0) (l.header.smoothing 0);
        count = l.header.channels;
        each =
            λ c below.
            below_3 (λ c. c < h.channels → T (own_ok (sheet_of (joint S)) (own_of (get_or (joint S).channels c no_channel))))
            (λ b. channel_test (joint S) h (channel_at S 0) (data_at h 0) _ refl refl (l.channel 0 b) (l.header.data_weights 0) (joint_held 0 b))
            (λ b. channel_test (joint S) h (channel_at S 1) (data_at h 1) _ refl refl (l.channel 1 b) (l.header.data_weights 1) (joint_held 1 b))
            (λ b. channel_test (joint S) h (channel_at S 2) (data_at h 2) _ refl refl (l.channel 2 b) (l.header.data_weights 2) (joint_held 2 b))
            c (omega (arith, at-most h.channels l.header.channels)) below;
        at_start = λ c below. below_3 (λ c. (get_or (joint S).channels c no_channel).position ≡ 0) refl refl refl c (omega (arith, at-most h.channels l.header.channels));
        unmarked = λ c below. below_3 (λ c. (get_or (joint S).channels c no_channel).mark ≡ false) refl refl refl c (omega (arith, at-most h.channels l.header.channels));
        unclipped = λ c below. below_3 (λ c. (get_or (joint S).channels c no_channel).clipped ≡ 0) refl refl refl c (omega (arith, at-most h.channels l.header.channels));
      }

  alone_fine : (c : ℕ) → c < S.header.channels → Fine (alone S c)
  unfolding alone
  alone_fine c below =
      let h = S.header in
      record {
        three = refl;
        wide = full h.width l.header.width;
        high = full h.height l.header.height;
        few = thousand (iterations_at S c) (l.header.iterations c);
        smooth = weight_test (Sheets.smoothing_at h c) (l.header.smoothing c);
        count = inl refl;
        each =
            λ d b.
            subst (λ (d : ℕ). T (own_ok (sheet_of (alone S c)) (own_of (get_or (alone S c).channels d no_channel)))) (sym (zero_of d b))
            (channel_test (alone S c) h (channel_at S c) (data_at h 0) _ refl refl (l.channel c below) (l.header.data_weights 0) (alone_held c));
        at_start = λ d b. subst (λ (d : ℕ). (get_or (alone S c).channels d no_channel).position ≡ 0) (sym (zero_of d b)) refl;
        unmarked = λ d b. subst (λ (d : ℕ). (get_or (alone S c).channels d no_channel).mark ≡ false) (sym (zero_of d b)) refl;
        unclipped = λ d b. subst (λ (d : ℕ). (get_or (alone S c).channels d no_channel).clipped ≡ 0) (sym (zero_of d b)) refl;
      }
    where
      zero_of : (d : ℕ) → d < 1 → d ≡ 0
      zero_of d b = omega arith

  pub all-legal : T (all_legal S)
  unfolding all_legal
  all-legal =
      and_i (is_legal (joint S)) (every S.header.channels (λ c. is_legal (alone S c))) (run_legal (joint S) joint_fine)
      (every_of S.header.channels (λ c. is_legal (alone S c)) (λ c h. run_legal (alone S c) (alone_fine c h)))

  -- ---- lengths, levels and tables

  joint_short : S.header.channels ≤ 3
  joint_short = at-most S.header.channels l.header.channels

  -- channel c of the joint run has the sides of the sheet's
  pub same_sides : (c : ℕ) → c < S.header.channels → coefs (sheet_of (joint S)) c ≡ (channel_at S c).width * (channel_at S c).height
  unfolding joint
  same_sides c below =
      ap (λ (o : Numbers). o.width * o.height) (at_own (joint S) c joint_short below)
      ∙ below_3 (λ c. (own_of (get_or (joint S).channels c no_channel)).width * (own_of (get_or (joint S).channels c no_channel)).height ≡ (channel_at S c).width * (channel_at S c).height)
      refl refl refl c (omega (arith, joint_short))

  pub levels_same : (n : ℕ) → n ≤ S.header.channels → levels_before (sheet_of (joint S)) n ≡ levels_to S n
  levels_same zero h = refl
  levels_same (suc n) h = λ i. levels_same n (omega arith) i + same_sides n h i

  pub start_accepts : (lens : List ℕ) → T (all (λ n. eqb n (S.header.channels * (S.header.width * S.header.height))) lens)
      → start_refusal (joint_given S ls ts) (places_of (joint S)) lens ≡ 0
  unfolding start_refusal joint
  start_accepts lens t =
      let G = joint_given S ls ts in
      skip (lend_tests G (places_of (joint S)) lens true) []
      (of_lent G (places_of (joint S)) lens true
      record {
        is-legal = run_legal (joint S) joint_fine;
        long = t;
        levels-long = λ e. let same = sym (levels_same S.header.channels (omega arith)) in (l.lows_count ∙ same, l.highs_count ∙ same);
        tables_long = λ e. l.tables_count ∙ mul_comm 64 S.header.channels;
        tables_ok = λ e. tables_test ts l.tables;
        levels_ok = λ e. pairs_test b.lows b.highs l.lows l.highs l.ranges;
      })

  pub accepts : (lens : List ℕ) → T (all (λ n. eqb n (S.header.channels * (S.header.width * S.header.height))) lens) → (k : ℕ) → k ≡ blend_count S * 2
      → solve_refusal S ls ts lens k ≡ 0
  accepts lens t k room =
      sym (then_start S ls ts lens k (is_true (all_legal S) all-legal) room (start_refusal (joint_given S ls ts) (places_of (joint S)) lens) refl) ∙ start_accepts lens t
