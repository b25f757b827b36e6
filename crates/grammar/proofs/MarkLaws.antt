-- The lines of marks: each marks a block of the sheet, and none a block that is marked.
use Rattle.refusal.specs.declared.Refusal.TheVariants as refusal
use Rattle.std.proofs.Common.{None}
use Prim.Native.Nat.{ℕ, zero, suc, ◌+◌, ◌*◌, ◌/◌, ◌<◌, ◌≤◌}
use mathlib.Core.Path.{◌≡◌, refl, sym, ap, ◌∙◌, subst⁻¹}
use mathlib.Core.List.{List, [], ◌∷◌, ◌++◌, append-nil, append_assoc}
use mathlib.Core.Bool.{Bool, true, false, cond, ◌&&◌, ◌||◌}
use mathlib.Core.Logic.{◌⊎◌, inl, inr}
use native.Mathlib.Nat.{mul-le-mul}
use native.Mathlib.Omega.{arith}
use lib.Dec.{eqb, ltb}
use lib.ListN.{length, get_or, set}
use borrow.Author.Tests.{ltb-true, eqb-true, eqb-false, eq-eqb, ne_eqb}
use Rattle.text.specs.declared.field.Rule.TheVariants as rule
use Rattle.text.specs.Numbers.{number_at}
use Rattle.text.specs.Fields.{field_of, fault_in}
use Rattle.digits.specs.Written.{joined, row_bytes}
use Rattle.digits.proofs.Both.{both_left, both_right}
use Rattle.digits.proofs.Lengths.{decimal_length}
use Rattle.text.proofs.SizeLaws.{decimal_grow}
use Rattle.text.proofs.JoinLaws.{joined_length}
use Rattle.text.proofs.SizeLaws.{tag_as, range_as}
use Rattle.contents.specs.declared.Limits.{Limits}
use Rattle.contents.specs.declared.Channel.{Channel}
use Rattle.contents.specs.declared.Mark.{Mark}
use Rattle.contents.specs.declared.Sheet.{Sheet}
use Rattle.contents.specs.Sheets.{Lent, Marked, marked, Held, held, no_channel, channel_at}
use Rattle.contents.specs.Marks.{blocks_in, blocks_before, all_blocks, block_of, has_block, among}
use Rattle.contents.specs.Legal.{LegalSheet, LegalMark, LegalMarks}
use Rattle.lines.specs.Lines.{mark_rules, mark_of, first_fault, holding}
use Rattle.progress.specs.Progress.{placed, most_blocks, exists}
use Rattle.grammar.specs.Written.{mark_fields}
use Rattle.grammar.specs.Longest.{mark_sizes}
use Rattle.sheet.proofs.WalkLaws.{among_more}
use Rattle.lines.proofs.GoodLines.{fault_at, field_at, no_more, lows_without, highs_without, tables_without}
use Rattle.grammar.proofs.RowLaws.{SmallMark}

-- what is held, and a mark more
abbrev pub with_mark : Held → Marked → Held
with_mark H m = held H.lent H.ranged (H.marks ++ m ∷ [])

-- a good line is written so, and adds its mark alone
pub mark_as : (fs : List (List ℕ)) → length fs ≡ 4 → first_fault mark_rules fs ≡ None → mark_fields (mark_of fs) ≡ fs
unfolding mark_of number_at
mark_as fs n e =
    field_at fs 0 _ _ (omega arith) (tag_as (get_or fs 0 []) 78 (at 0 (omega arith)))
    (field_at fs 1 _ _ (omega arith) (range_as (get_or fs 1 []) refusal.Form 0 999999 (at 1 (omega arith)))
    (field_at fs 2 _ _ (omega arith) (range_as (get_or fs 2 []) refusal.Form 0 999999 (at 2 (omega arith)))
    (field_at fs 3 _ _ (omega arith) (range_as (get_or fs 3 []) refusal.Form 0 999999 (at 3 (omega arith))) (no_more fs 4 (omega arith)))))
  where
    at : (i : ℕ) → i < 4 → fault_in (field_of (get_or mark_rules i (rule.Tag 0)) (get_or fs i [])) ≡ None
    at i h = fault_at mark_rules fs i e h (omega arith)

pub holds_mark : (H : Held) (s : Sheet) (fs : List (List ℕ)) → holding H s 78 mark_rules fs ≡ with_mark H (marked (mark_of fs) (block_of s (mark_of fs)))
holds_mark H s fs =
    rw (lows_without mark_rules fs refl, highs_without mark_rules fs refl, tables_without mark_rules fs refl, append-nil H.lent.lows, append-nil H.lent.highs, append-nil H.lent.tables, append-nil H.ranged)

pub exists_has : (s : Sheet) (m : Mark) → exists s m ≡ true → has_block s m ≡ true
unfolding exists
exists_has s m e = both_left (has_block s m) (ltb (block_of s m) most_blocks) e

-- one mark after the others
pub more_marks : (s : Sheet) (before ms : List Marked) (m : Marked) → LegalMarks s before ms → LegalMark s (before ++ ms) m → LegalMarks s before (ms ++ m ∷ [])
more_marks s before [] m l g = (subst⁻¹ (λ (x : List Marked). LegalMark s x m) (sym (append-nil before)) g, tt)
more_marks s before (n ∷ ms) m l g =
    (l.0, more_marks s (before ++ n ∷ []) ms m l.1 (subst⁻¹ (λ (x : List Marked). LegalMark s x m) (append_assoc before (n ∷ []) ms) g))

-- A mark's block

pub record Place (s : Sheet) (m : Mark) : Type 0 where
  pub channel : m.channel < s.header.channels
  pub row : m.row < (channel_at s m.channel).height / 8
  pub column : m.column < (channel_at s m.channel).width / 8

pub place-of : (s : Sheet) (m : Mark) → has_block s m ≡ true → Place s m
unfolding has_block
place-of s m e =
    let c = channel_at s m.channel in
    let a = ltb m.channel s.header.channels in
    let b = ltb m.row (c.height / 8) in
    let d = ltb m.column (c.width / 8) in
    let r = both_right a (b && d) e in
    record {
      channel = ltb-true m.channel s.header.channels (both_left a (b && d) e);
      row = ltb-true m.row (c.height / 8) (both_left b d r);
      column = ltb-true m.column (c.width / 8) (both_right b d r);
    }

-- a place in a row of blocks, and rows of them
pub within : (w h r k : ℕ) → r < h / 8 → k < w / 8 → r * (w / 8) + k < w * h / 64
within w h r k a b =
    let x : suc r ≤ h / 8 = omega arith in
    let p : suc r * (w / 8) ≤ (h / 8) * (w / 8) = mul-le-mul x (le_same (w / 8)) in
    let q : suc r * (w / 8) ≡ r * (w / 8) + w / 8 = omega arith in
    let u : 8 * (w / 8) ≤ w = omega arith in
    let v : 8 * (h / 8) ≤ h = omega arith in
    let y : (8 * (w / 8)) * (8 * (h / 8)) ≤ w * h = mul-le-mul u v in
    let z : (8 * (w / 8)) * (8 * (h / 8)) ≡ 64 * ((h / 8) * (w / 8)) = omega arith in
    omega arith
  where
    le_same : (n : ℕ) → n ≤ n
    le_same n = omega arith

four_thousand : (w h : ℕ) → w ≤ 512 → h ≤ 512 → w * h / 64 ≤ 4096
four_thousand w h a b = omega (arith, mul-le-mul a b)

module _ (limits : Limits) (s : Sheet) (b : Lent) (l : LegalSheet limits s b) where
  wide : (c : ℕ) → c < s.header.channels → (channel_at s c).width ≤ 512
  wide c h = omega (arith, (l.channel c h).width.top, l.header.width.top, l.limits_legal.side.top)

  high : (c : ℕ) → c < s.header.channels → (channel_at s c).height ≤ 512
  high c h = omega (arith, (l.channel c h).height.top, l.header.height.top, l.limits_legal.side.top)

  few_channels : s.header.channels ≤ 3
  few_channels = by l.header.channels
    where
      by : (s.header.channels ≡ 1) ⊎ (s.header.channels ≡ 3) → s.header.channels ≤ 3
      by (inl e) = omega arith
      by (inr e) = omega arith

  before_few : (c : ℕ) → c < s.header.channels → blocks_before s c ≤ 8192
  before_few zero h = omega arith
  before_few (suc zero) h = let n = four_thousand (channel_at s 0).width (channel_at s 0).height (wide 0 (omega arith)) (high 0 (omega arith)) in omega arith
  before_few (suc (suc zero)) h =
      let n = four_thousand (channel_at s 0).width (channel_at s 0).height (wide 0 (omega arith)) (high 0 (omega arith)) in
      let m = four_thousand (channel_at s 1).width (channel_at s 1).height (wide 1 (omega arith)) (high 1 (omega arith)) in
      omega arith
  before_few (suc (suc (suc c))) h = let y : ⊥ = omega (arith, few_channels) in absurd y

  pub few_marks : (m : Mark) → Place s m → SmallMark m × (block_of s m < most_blocks)
  unfolding block_of
  few_marks m p =
      let c = channel_at s m.channel in
      let w = wide m.channel p.channel in
      let h = high m.channel p.channel in (
        record { channel = omega (arith, p.channel, few_channels); row = omega (arith, p.row, h); column = omega (arith, p.column, w) },
        omega (arith, before_few m.channel p.channel, within c.width c.height m.row m.column p.row p.column, four_thousand c.width c.height w h),
      )

-- How many of the first n blocks are not marked: so many lines may still mark one

abbrev pub unmarked : ℕ → List Marked → ℕ
unmarked zero ms = 0
unmarked (suc n) ms = unmarked n ms + cond (among n ms) 0 1

pub unmarked_most : (n : ℕ) (ms : List Marked) → unmarked n ms ≤ n
unmarked_most zero ms = omega arith
unmarked_most (suc n) ms = two (among n ms) (unmarked_most n ms)
  where
    two : (x : Bool) → unmarked n ms ≤ n → unmarked n ms + cond x 0 1 ≤ suc n
    two true h = omega arith
    two false h = omega arith

module _ (ms : List Marked) (m : Marked) where
  with_other : (b : ℕ) → (b ≡ m.block → ⊥) → among b (ms ++ m ∷ []) ≡ among b ms
  with_other b h = among_more b ms m ∙ rw (ne_eqb b m.block h) (two (among b ms))
    where
      two : (x : Bool) → (x || false) ≡ x
      two true = refl
      two false = refl

  with_this : (b : ℕ) → b ≡ m.block → among b (ms ++ m ∷ []) ≡ true
  with_this b h = among_more b ms m ∙ rw (eq-eqb b m.block h) (two (among b ms))
    where
      two : (x : Bool) → (x || true) ≡ true
      two true = refl
      two false = refl

  unmarked_same : (n : ℕ) → n ≤ m.block → unmarked n (ms ++ m ∷ []) ≡ unmarked n ms
  unmarked_same zero h = refl
  unmarked_same (suc n) h = rw (with_other n (λ e. omega arith), unmarked_same n (omega arith))

  pub unmarked_less : (n : ℕ) → m.block < n → among m.block ms ≡ false → unmarked n (ms ++ m ∷ []) + 1 ≤ unmarked n ms
  unmarked_less zero h e = let y : ⊥ = omega arith in absurd y
  unmarked_less (suc n) h e = two (eqb n m.block) refl (λ k. unmarked_less n k e)
    where
      two : (x : Bool) → eqb n m.block ≡ x → (m.block < n → unmarked n (ms ++ m ∷ []) + 1 ≤ unmarked n ms)
          → unmarked n (ms ++ m ∷ []) + cond (among n (ms ++ m ∷ [])) 0 1 + 1 ≤ unmarked n ms + cond (among n ms) 0 1
      two true q ih =
          let k = eqb-true n m.block q in
          rw (with_this n k, unmarked_same n (omega arith), ap (λ (b : ℕ). among b ms) k ∙ e) (omega arith)
      two false q ih =
          let k = eqb-false n m.block q in
          let i = ih (omega arith) in
          rw (with_other n k) (omega arith)

-- a block of the sheet is one of all
pub block_below : (s : Sheet) (m : Mark) → Place s m → block_of s m < all_blocks s
unfolding block_of
block_below s m p = by m.channel (within (channel_at s m.channel).width (channel_at s m.channel).height m.row m.column p.row p.column)
  where
    by : (c : ℕ) → m.row * ((channel_at s c).width / 8) + m.column < (channel_at s c).width * (channel_at s c).height / 64
        → blocks_before s c + m.row * ((channel_at s c).width / 8) + m.column < all_blocks s
    by zero h = omega arith
    by (suc zero) h = omega arith
    by (suc (suc c)) h = rw (ne_eqb (suc (suc c)) 0 (λ e. omega arith), ne_eqb (suc (suc c)) 1 (λ e. omega arith)) (omega (arith, rw (ne_eqb (suc (suc c)) 0 (λ e. omega arith), ne_eqb (suc (suc c)) 1 (λ e. omega arith)) at h))

-- a channel more
pub placed_blocks : (s : Sheet) (r : ℕ) (c : Channel) → all_blocks (placed s r c) ≤ all_blocks s + blocks_in c
placed_blocks s r c = by s.channels r
  where
    all : List Channel → ℕ
    all xs = blocks_in (get_or xs 0 no_channel) + blocks_in (get_or xs 1 no_channel) + blocks_in (get_or xs 2 no_channel)

    by : (xs : List Channel) (r : ℕ) → all (set xs r c) ≤ all xs + blocks_in c
    by [] r = omega arith
    by (x ∷ xs) zero = omega arith
    by (x ∷ []) (suc r) = omega arith
    by (x ∷ (y ∷ xs)) (suc zero) = omega arith
    by (x ∷ (y ∷ [])) (suc (suc r)) = omega arith
    by (x ∷ (y ∷ (z ∷ xs))) (suc (suc zero)) = omega arith
    by (x ∷ (y ∷ (z ∷ xs))) (suc (suc (suc r))) = omega arith

-- A mark's line has few bytes

pub mark_bytes : (side : ℕ) (s : Sheet) (m : Mark) → s.header.channels ≤ 3 → (channel_at s m.channel).width ≤ side → (channel_at s m.channel).height ≤ side → Place s m
    → length (joined (mark_fields m)) + 1 ≤ row_bytes (mark_sizes side)
mark_bytes side s m few w h p =
    joined_length (mark_fields m) (mark_sizes side) (omega arith) (
      omega arith,
      (
        decimal_length 0 m.channel (omega (arith, p.channel)),
        (decimal_grow m.row (side / 8) (omega (arith, p.row)), (decimal_grow m.column (side / 8) (omega (arith, p.column)), tt)),
      ),
    )
