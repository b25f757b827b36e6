-- The seams of three sheets: where the first two fit and the last two, the first two together fit the third, and the first the last two together.
use Prim.Native.Nat.{ℕ, zero, suc, ◌+◌, ◌*◌}
use mathlib.Core.Path.{◌≡◌, refl, sym, ap, ◌∙◌, subst}
use mathlib.Core.List.{List, [], ◌∷◌}
use mathlib.Core.Bool.{Bool, true, false, ◌&&◌}
use native.Mathlib.Nat.{add-mul}
use native.Mathlib.Omega.{arith}
use lib.ListN.{length}
use lib.Dec.{eqb}
use lib.Ieee.{binary32, to_bits}
use borrow.Author.Tests.{eqb-true, eq-eqb}
use Rattle.digits.proofs.Both.{both_left, both_right}
use Rattle.contents.specs.declared.Weight.{Weight}
use Rattle.std.specs.Prelude.{Option, Some, None}
use Rattle.contents.specs.declared.Header.{Header}
use Rattle.contents.specs.declared.Settings.{Settings}
use Rattle.contents.specs.declared.Channel.{Channel}
use Rattle.contents.specs.declared.Sheet.{Sheet}
use Rattle.contents.specs.Weights.{value_of}
use Rattle.contents.specs.Hold.{measured, count_at, hold_at}
use Rattle.contents.specs.Legal.{LegalHeader}
use Rattle.contents.specs.Sheets.{channels_of}
use Rattle.sheet.specs.Reading.{Contents}
use Rattle.seam.specs.Seam.{same, same_weight, same_weights, same_shape, same_header, second, same_letters, same_holds, same_channel, same_channels, same_sheet, same_numbers, seam}
use Rattle.stitch.specs.Stitched.{wider, besides, stitched_sheet, stitched_held}
use Rattle.stitch.proofs.TextLaws.{pairs_of}
use Rattle.stitch.specs.Calls.{whole}
use Rattle.stitch.proofs.CallLaws.{itself}
use Rattle.stitch.proofs.LegalLaws.{Same, same_is}

-- Tests that are all true

record Two (a b : Bool) : Type 0 where
  one : a ≡ true
  two : b ≡ true

two_of : (a b : Bool) → (a && b) ≡ true → Two a b
two_of a b e = record { one = both_left a b e; two = both_right a b e }

record Three (a b c : Bool) : Type 0 where
  one : a ≡ true
  two : b ≡ true
  three : c ≡ true

three_of : (a b c : Bool) → (a && (b && c)) ≡ true → Three a b c
three_of a b c e = let r = two_of b c (both_right a (b && c) e) in record { one = both_left a (b && c) e; two = r.one; three = r.two }

record Four (a b c d : Bool) : Type 0 where
  one : a ≡ true
  rest : Three b c d

four_of : (a b c d : Bool) → (a && (b && (c && d))) ≡ true → Four a b c d
four_of a b c d e = record { one = both_left a (b && (c && d)) e; rest = three_of b c d (both_right a (b && (c && d)) e) }

same_eq : (a b : Bool) → same a b ≡ true → a ≡ b
same_eq true true p = refl
same_eq true false p = sym p
same_eq false true p = p
same_eq false false p = refl

eq_same : (a b : Bool) → a ≡ b → same a b ≡ true
eq_same a b e = rw e (self b)
  where
    self : (b : Bool) → same b b ≡ true
    self true = refl
    self false = refl

and_of : (a b : Bool) → a ≡ true → b ≡ true → (a && b) ≡ true
and_of true b p q = q
and_of false b p q = p

-- Numbers and weights, place by place

abbrev bits_of : Weight → ℕ
bits_of w = to_bits binary32 (value_of w)

numbers_eq : (xs ys : List ℕ) → same_numbers xs ys ≡ true → xs ≡ ys
numbers_eq [] [] e = refl
numbers_eq [] (y ∷ ys) e = absurd cc
numbers_eq (x ∷ xs) [] e = absurd cc
numbers_eq (x ∷ xs) (y ∷ ys) e =
    let p = eqb-true x y (both_left (eqb x y) (same_numbers xs ys) e) in
    let q = numbers_eq xs ys (both_right (eqb x y) (same_numbers xs ys) e) in
    λ i. p i ∷ q i

weights_both : (us vs ws : List Weight) → length us ≡ length vs → same_weights us vs ≡ true → same_weights vs ws ≡ true → same_weights us ws ≡ true
weights_both [] vs ws e p q = refl
weights_both (u ∷ us) [] ws e p q = absurd (omega arith)
weights_both (u ∷ us) (v ∷ vs) [] e p q = refl
weights_both (u ∷ us) (v ∷ vs) (w ∷ ws) e p q =
    and_of _ _
    (eq-eqb (bits_of u) (bits_of w)
    (eqb-true (bits_of u) (bits_of v) (both_left (same_weight u v) (same_weights us vs) p) ∙ eqb-true (bits_of v) (bits_of w) (both_left (same_weight v w) (same_weights vs ws) q)))
    (weights_both us vs ws (omega arith) (both_right (same_weight u v) (same_weights us vs) p) (both_right (same_weight v w) (same_weights vs ws) q))

-- Headers

record Alike (h k : Header) : Type 0 where
  height : h.height ≡ k.height
  channels : h.channels ≡ k.channels
  joint : h.joint ≡ k.joint
  high : h.picture_height ≡ k.picture_height
  wide : h.picture_width ≡ h.width
  counts : h.iterations ≡ k.iterations
  smoothing : same_weights h.smoothing k.smoothing ≡ true
  data_weights : same_weights h.data_weights k.data_weights ≡ true

alike : (h k : Header) → same_header h k ≡ true → Alike h k
alike h k e =
    let p = four_of (same_shape h k) (same_numbers h.iterations k.iterations) (same_weights h.smoothing k.smoothing) (same_weights h.data_weights k.data_weights) e in
    let A = eqb h.picture_height k.picture_height && eqb h.picture_width h.width in
    let s = four_of (eqb h.height k.height) (eqb h.channels k.channels) (same h.joint k.joint) A p.one in
    let w = two_of (eqb h.picture_height k.picture_height) (eqb h.picture_width h.width) s.rest.three in
    record {
      height = eqb-true h.height k.height s.one;
      channels = eqb-true h.channels k.channels s.rest.one;
      joint = same_eq h.joint k.joint s.rest.two;
      high = eqb-true h.picture_height k.picture_height w.one;
      wide = eqb-true h.picture_width h.width w.two;
      counts = numbers_eq h.iterations k.iterations p.rest.one;
      smoothing = p.rest.two;
      data_weights = p.rest.three;
    }

header-of : (h k : Header) → Alike h k → same_header h k ≡ true
header-of h k a =
    let s = and_of _ _ (eq-eqb h.height k.height a.height) (and_of _ _ (eq-eqb h.channels k.channels a.channels) (and_of _ _ (eq_same h.joint k.joint a.joint) (and_of _ _ (eq-eqb h.picture_height k.picture_height a.high) (eq-eqb h.picture_width h.width a.wide)))) in
    and_of _ _ s (and_of _ _ (ap (λ (l : List ℕ). same_numbers l k.iterations) a.counts ∙ itself k.iterations) (and_of _ _ a.smoothing a.data_weights))

-- the first two together, and the third
alike_left : (h k l : Header) → length h.smoothing ≡ length k.smoothing → length h.data_weights ≡ length k.data_weights → Alike h k → Alike k l → Alike (wider h k) l
alike_left h k l m n a b =
    record {
      height = a.height ∙ b.height;
      channels = a.channels ∙ b.channels;
      joint = a.joint ∙ b.joint;
      high = a.high ∙ b.high;
      wide = λ i. a.wide i + b.wide i;
      counts = a.counts ∙ b.counts;
      smoothing = weights_both h.smoothing k.smoothing l.smoothing m a.smoothing b.smoothing;
      data_weights = weights_both h.data_weights k.data_weights l.data_weights n a.data_weights b.data_weights;
    }

-- Settings

letters_both : (x y z : Settings) → same_letters x y ≡ true → same_letters y z ≡ true → same_letters x z ≡ true
letters_both x y z p q =
    let a = two_of (same (second x.rounding) (second y.rounding)) (same (second x.start) (second y.start)) p in
    let b = two_of (same (second y.rounding) (second z.rounding)) (same (second y.start) (second z.start)) q in
    and_of _ _ (eq_same (second x.rounding) (second z.rounding) (same_eq (second x.rounding) (second y.rounding) a.one ∙ same_eq (second y.rounding) (second z.rounding) b.one))
    (eq_same (second x.start) (second z.start) (same_eq (second x.start) (second y.start) a.two ∙ same_eq (second y.start) (second z.start) b.two))

count_left : (x : Option (List ℕ)) (h k : Header) (c : ℕ) → count_at x (wider h k) c ≡ count_at x h c
unfolding measured
count_left None h k c = refl
count_left (Some x) h k c = refl

hold_left : (s t : Sheet) (c : ℕ) → hold_at (stitched_sheet s t) c ≡ hold_at s c
unfolding hold_at
hold_left s t c = count_left s.settings.hold s.header t.header c

module _ (s t v : Sheet) where
  holds_left : (n : ℕ) → same_holds n s t ≡ true → same_holds n t v ≡ true → same_holds n (stitched_sheet s t) v ≡ true
  holds_left zero p q = refl
  holds_left (suc n) p q =
      let a = two_of (same_holds n s t) (eqb (hold_at s n) (hold_at t n)) p in
      let b = two_of (same_holds n t v) (eqb (hold_at t n) (hold_at v n)) q in
      and_of _ _ (holds_left n a.one b.one)
      (eq-eqb (hold_at (stitched_sheet s t) n) (hold_at v n) (hold_left s t n ∙ eqb-true (hold_at s n) (hold_at t n) a.two ∙ eqb-true (hold_at t n) (hold_at v n) b.two))

  holds_right : (n : ℕ) → same_holds n s t ≡ true → same_holds n s (stitched_sheet t v) ≡ true
  holds_right zero p = refl
  holds_right (suc n) p =
      let a = two_of (same_holds n s t) (eqb (hold_at s n) (hold_at t n)) p in
      and_of _ _ (holds_right n a.one) (eq-eqb (hold_at s n) (hold_at (stitched_sheet t v) n) (eqb-true (hold_at s n) (hold_at t n) a.two ∙ sym (hold_left t v n)))

-- Channels

channel-of : (w v : ℕ) (c d : Channel) → Same w v c d → same_channel w v c d ≡ true
channel-of w v c d a =
    and_of _ _ (eq-eqb c.height d.height a.height)
    (and_of _ _ (eq-eqb c.across d.across a.across)
    (and_of _ _ (eq-eqb c.down d.down a.down) (and_of _ _ (eq-eqb (c.width * c.across) w a.wide) (eq-eqb (d.width * d.across) v a.wide_right))))

module _ (w v u : ℕ) where
  wide_both : (c d : Channel) (x y : ℕ) → c.across ≡ d.across → c.width * c.across ≡ x → d.width * d.across ≡ y → (c.width + d.width) * c.across ≡ x + y
  wide_both c d x y e f g =
      let o : d.width * c.across ≡ y = ap (λ (n : ℕ). d.width * n) e ∙ g in
      add-mul c.width d.width c.across ∙ (λ i. f i + o i)

  channels_left : (cs ds es : List Channel) → same_channels w v cs ds ≡ true → same_channels v u ds es ≡ true → same_channels (w + v) u (pairs_of cs ds) es ≡ true
  channels_left [] ds es p q = refl
  channels_left (c ∷ cs) [] es p q = refl
  channels_left (c ∷ cs) (d ∷ ds) [] p q = refl
  channels_left (c ∷ cs) (d ∷ ds) (e ∷ es) p q =
      let a = same_is w v c d (both_left (same_channel w v c d) (same_channels w v cs ds) p) in
      let b = same_is v u d e (both_left (same_channel v u d e) (same_channels v u ds es) q) in
      and_of _ _
      (channel-of (w + v) u (besides c d) e (record { height = a.height ∙ b.height; across = a.across ∙ b.across; down = a.down ∙ b.down; wide = wide_both c d w v a.across a.wide a.wide_right; wide_right = b.wide_right }))
      (channels_left cs ds es (both_right (same_channel w v c d) (same_channels w v cs ds) p) (both_right (same_channel v u d e) (same_channels v u ds es) q))

  channels_right : (cs ds es : List Channel) → same_channels w v cs ds ≡ true → same_channels v u ds es ≡ true → same_channels w (v + u) cs (pairs_of ds es) ≡ true
  channels_right [] ds es p q = refl
  channels_right (c ∷ cs) [] es p q = refl
  channels_right (c ∷ cs) (d ∷ ds) [] p q = refl
  channels_right (c ∷ cs) (d ∷ ds) (e ∷ es) p q =
      let a = same_is w v c d (both_left (same_channel w v c d) (same_channels w v cs ds) p) in
      let b = same_is v u d e (both_left (same_channel v u d e) (same_channels v u ds es) q) in
      and_of _ _ (channel-of w (v + u) c (besides d e) (record { height = a.height; across = a.across; down = a.down; wide = a.wide; wide_right = wide_both d e v u b.across b.wide b.wide_right }))
      (channels_right cs ds es (both_right (same_channel w v c d) (same_channels w v cs ds) p) (both_right (same_channel v u d e) (same_channels v u ds es) q))

-- Whole sheets

record Parts (s t : Sheet) : Type 0 where
  header : Alike s.header t.header
  letters : same_letters s.settings t.settings ≡ true
  holds : same_holds s.header.channels s t ≡ true
  channels : same_channels s.header.width t.header.width (channels_of s) (channels_of t) ≡ true

parts : (s t : Sheet) → same_sheet s t ≡ true → Parts s t
parts s t e =
    let p = four_of (same_header s.header t.header) (same_letters s.settings t.settings) (same_holds s.header.channels s t) (same_channels s.header.width t.header.width (channels_of s) (channels_of t)) e in
    record { header = alike s.header t.header p.one; letters = p.rest.one; holds = p.rest.two; channels = p.rest.three }

module _ (c d e : Contents) (x : channels_of (stitched_sheet c.sheet d.sheet) ≡ pairs_of (channels_of c.sheet) (channels_of d.sheet)) (y : channels_of (stitched_sheet d.sheet e.sheet) ≡ pairs_of (channels_of d.sheet) (channels_of e.sheet))
    (l : LegalHeader whole c.sheet.header) (m : LegalHeader whole d.sheet.header)
    (p : seam c d ≡ true) (q : seam d e ≡ true) where
  pub seam_left : seam (record { sheet = stitched_sheet c.sheet d.sheet; held = stitched_held c.sheet d.sheet c.held d.held }) e ≡ true
  unfolding seam
  seam_left =
      let s = c.sheet in
      let t = d.sheet in
      let v = e.sheet in
      let a = parts s t (both_left (same_sheet s t) (same_numbers c.held.lent.tables d.held.lent.tables) p) in
      let b = parts t v (both_left (same_sheet t v) (same_numbers d.held.lent.tables e.held.lent.tables) q) in
      let n = a.header.channels in
      let T : same_numbers c.held.lent.tables e.held.lent.tables ≡ true =
      ap (λ (l : List ℕ). same_numbers l e.held.lent.tables) (numbers_eq c.held.lent.tables d.held.lent.tables (both_right (same_sheet s t) (same_numbers c.held.lent.tables d.held.lent.tables) p))
      ∙ both_right (same_sheet t v) (same_numbers d.held.lent.tables e.held.lent.tables) q in
      and_of _ _
      (and_of _ _ (header-of (wider s.header t.header) v.header (alike_left s.header t.header v.header (l.three_smoothing ∙ sym m.three_smoothing) (l.three_data ∙ sym m.three_data) a.header b.header))
      (and_of _ _ (letters_both s.settings t.settings v.settings a.letters b.letters)
      (and_of _ _ (holds_left s t v s.header.channels a.holds (subst (λ (k : ℕ). same_holds k t v ≡ true) (sym n) b.holds))
      (ap (λ (cs : List Channel). same_channels (s.header.width + t.header.width) v.header.width cs (channels_of v)) x
      ∙ channels_left s.header.width t.header.width v.header.width (channels_of s) (channels_of t) (channels_of v) a.channels b.channels)))) T

  pub seam_right : seam c (record { sheet = stitched_sheet d.sheet e.sheet; held = stitched_held d.sheet e.sheet d.held e.held }) ≡ true
  unfolding seam
  seam_right =
      let s = c.sheet in
      let t = d.sheet in
      let v = e.sheet in
      let a = parts s t (both_left (same_sheet s t) (same_numbers c.held.lent.tables d.held.lent.tables) p) in
      let b = parts t v (both_left (same_sheet t v) (same_numbers d.held.lent.tables e.held.lent.tables) q) in
      and_of _ _
      (and_of _ _ (both_left (same_header s.header t.header) (same_letters s.settings t.settings && (same_holds s.header.channels s t && same_channels s.header.width t.header.width (channels_of s) (channels_of t))) (both_left (same_sheet s t) (same_numbers c.held.lent.tables d.held.lent.tables) p))
      (and_of _ _ a.letters
      (and_of _ _ (holds_right s t v s.header.channels a.holds)
      (ap (λ (ds : List Channel). same_channels s.header.width (t.header.width + v.header.width) (channels_of s) ds) y
      ∙ channels_right s.header.width t.header.width v.header.width (channels_of s) (channels_of t) (channels_of v) a.channels b.channels))))
      (both_right (same_sheet s t) (same_numbers c.held.lent.tables d.held.lent.tables) p)
