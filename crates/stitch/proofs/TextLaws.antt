-- What is copied is the text of the two sheets side by side.
use Prim.Native.Nat.{ℕ, ◌+◌, ◌*◌, ◌/◌, ◌%◌, ◌≤◌}
use mathlib.Core.Path.{◌≡◌, refl, sym, ap, ◌∙◌, subst}
use mathlib.Core.List.{List, [], ◌∷◌, ◌++◌, map, append_assoc}
use mathlib.Core.Bool.{true}
use native.Mathlib.Omega.{arith}
use native.Mathlib.Numerals.{add-one}
use native.Mathlib.Nat.{mul-div_cancel_left}
use lib.ListN.{length, take, drop, length-append}
use lib.Seq.{length-take-le, take_at, drop_at}
use lib.IntN.{ℤ}
use Rattle.std.specs.Prelude.{Option, Some, None}
use Rattle.lines.specs.declared.Setting.{Setting}
use Rattle.lines.specs.declared.Setting.TheVariants as setting
use Rattle.contents.specs.declared.Letter.TheVariants as letter
use Rattle.contents.specs.declared.Header.{Header}
use Rattle.contents.specs.declared.Settings.{Settings}
use Rattle.contents.specs.declared.Channel.{Channel}
use Rattle.contents.specs.declared.Sheet.{Sheet}
use Rattle.contents.specs.Sheets.{lent, Marked, Held, held, channel_at, channels_of}
use Rattle.contents.specs.Marks.{blocks_in}
use Rattle.digits.specs.Written.{decimal, joined, ended}
use Rattle.digits.proofs.Both.{both_right}
use Rattle.text.proofs.JoinLaws.{free, all_free, above_decimal, above_free, joined_free}
use Rattle.grammar.specs.Written.{header_fields, channel_fields, end_fields, setting_line, line_if, setting_lines, block_lines, drop_held, channel_lines, mark_lines, written}
use Rattle.grammar.proofs.RowLaws.{header_free, channel_free}
use Rattle.grammar.proofs.RoundTrip.{free_both, free_settings, free_channels}
use Rattle.copying.specs.Parts.{up_to, past, after_two, refitted, rows_of, past_rows}
use Rattle.copying.proofs.PartLaws.{up_zero, past_zero}
use Rattle.seam.specs.Used.{used_of}
use Rattle.stitch.specs.Stitched.{wider, besides, stitched_sheet, rows_in, columns_in, weave, woven, woven_held, stitched_marks, stitched_held}
use Rattle.stitch.specs.Bytes.{lines_of, said_lines, head_text, head_left, pair_text, pair_left, pair_right, last_text, pairs_text, stitch_text, open_text, in_use_text}
use Rattle.stitch.proofs.LineLaws.{up_line, past_line, free_drop, up_lines, past_lines, ended_both, rows_lines, past-rows, refit_line, two_gone}
use Rattle.stitch.proofs.WeaveLaws.{weave_length, weave_front}
use Rattle.stitch.proofs.MarkTextLaws.{AllSmall, last_free, last_lines}
use Rattle.stitch.proofs.BlockLaws.{Enough, blocks_length, blocks_first, blocks_both, blocks_weave, once}

-- Sides in blocks

pub cells : (w h : ℕ) → w % 8 ≡ 0 → h % 8 ≡ 0 → w * h / 64 ≡ (h / 8) * (w / 8)
cells w h p q =
    let a : w ≡ 8 * (w / 8) = omega arith in
    let b : h ≡ 8 * (h / 8) = omega arith in
    let c : (8 * (w / 8)) * (8 * (h / 8)) ≡ 64 * ((h / 8) * (w / 8)) = omega arith in
    let d : w * h ≡ 64 * ((h / 8) * (w / 8)) = ap (λ (x : ℕ). x * h) a ∙ ap (λ (y : ℕ). (8 * (w / 8)) * y) b ∙ c in
    ap (λ (x : ℕ). x / 64) d ∙ mul-div_cancel_left ((h / 8) * (w / 8)) {n = 64} (omega arith)

pub record Beside (c d : Channel) : Type 0 where
  pub left : c.width % 8 ≡ 0
  pub right : d.width % 8 ≡ 0
  pub rows : c.height % 8 ≡ 0
  pub same : c.height ≡ d.height

module _ (c d : Channel) (f : Beside c d) where
  pub left_blocks : blocks_in c ≡ rows_in c * columns_in c
  left_blocks = cells c.width c.height f.left f.rows

  pub right_blocks : blocks_in d ≡ rows_in c * columns_in d
  right_blocks = ap (λ (h : ℕ). d.width * h / 64) (sym f.same) ∙ cells d.width c.height f.right f.rows

  pub both_blocks : blocks_in (besides c d) ≡ rows_in c * (columns_in c + columns_in d)
  both_blocks =
      let e : (c.width + d.width) % 8 ≡ 0 = omega (arith, f.left, f.right) in
      let g : (c.width + d.width) / 8 ≡ c.width / 8 + d.width / 8 = omega (arith, f.left, f.right) in
      cells (c.width + d.width) c.height e f.rows ∙ ap (λ (k : ℕ). (c.height / 8) * k) g

-- The channels of both

abbrev pub pairs_of : List Channel → List Channel → List Channel
pairs_of [] ds = []
pairs_of (c ∷ cs) [] = []
pairs_of (c ∷ cs) (d ∷ ds) = besides c d ∷ pairs_of cs ds

abbrev pub AllBeside : List Channel → List Channel → Type 0
AllBeside [] [] = Unit {0}
AllBeside [] (d ∷ ds) = ⊥
AllBeside (c ∷ cs) [] = ⊥
AllBeside (c ∷ cs) (d ∷ ds) = Beside c d × AllBeside cs ds

-- enough is held for these channels
abbrev pub HeldFor : List Channel → Held → Type 0
HeldFor [] h = Unit {0}
HeldFor (c ∷ cs) h = Enough (blocks_in c) h.ranged h.lent.lows h.lent.highs × HeldFor cs (drop_held (blocks_in c) 64 h)

decimal_free : (n : ℕ) → free 9 (decimal n) ≡ true
decimal_free n = above_free 48 9 (decimal n) (omega arith) (above_decimal n)

-- a channel's line with another width, and what follows it
module _ (t g F W R : List ℕ) where
  line_parts : ((t ++ 9 ∷ (g ++ 9 ∷ [])) ++ ((F ++ 10 ∷ []) ++ W)) ++ R ≡ (t ++ 9 ∷ (g ++ 9 ∷ F)) ++ 10 ∷ (W ++ R)
  line_parts = simp append_assoc

head_parts : (t w g p F R : List ℕ) → (t ++ 9 ∷ (w ++ 9 ∷ [])) ++ ((g ++ 9 ∷ (p ++ 9 ∷ [])) ++ (F ++ 10 ∷ R)) ≡ (t ++ 9 ∷ (w ++ 9 ∷ (g ++ 9 ∷ (p ++ 9 ∷ F)))) ++ 10 ∷ R
head_parts t w g p F R = simp append_assoc

-- the lines of channels, with what they hold, and those that follow
abbrev lines_in : List Channel → Held → List (List ℕ) → List (List ℕ)
lines_in cs h L = channel_lines cs h ++ L

abbrev blocks_of : Held → List (List ℕ)
blocks_of h = block_lines h.ranged h.lent.lows h.lent.highs

abbrev table_of : Held → List ℕ
table_of h = take 64 h.lent.tables

module _ (c : Channel) (cs : List Channel) (h : Held) (L : List (List ℕ)) (q : ℕ) (e : blocks_in c ≡ q) where
  lines_first : lines_in (c ∷ cs) h L ≡ joined (channel_fields c (table_of h)) ∷ (take q (blocks_of h) ++ lines_in cs (drop_held (blocks_in c) 64 h) L)
  lines_first =
      let K = channel_lines cs (drop_held (blocks_in c) 64 h) in
      let B = block_lines (take (blocks_in c) h.ranged) h.lent.lows h.lent.highs in
      ap (λ (l : List (List ℕ)). joined (channel_fields c (table_of h)) ∷ l)
      (append_assoc B K L ∙ ap (λ (l : List (List ℕ)). l ++ (K ++ L)) (blocks_first (blocks_in c) h.ranged h.lent.lows h.lent.highs ∙ ap (λ (k : ℕ). take k (blocks_of h)) e))

  rest_free : all_free 10 L ≡ true → all_free 10 (take q (blocks_of h) ++ lines_in cs (drop_held (blocks_in c) 64 h) L) ≡ true
  rest_free f =
      both_right (free 10 (joined (channel_fields c (table_of h)))) (all_free 10 (take q (blocks_of h) ++ lines_in cs (drop_held (blocks_in c) 64 h) L))
      (ap (all_free 10) (sym lines_first) ∙ free_both (channel_lines (c ∷ cs) h) L (free_channels (c ∷ cs) h) f)

-- what follows the own width in a channel's line
abbrev fields_after : Channel → List ℕ → List ℕ
fields_after c qs = joined (decimal c.height ∷ decimal c.across ∷ decimal c.down ∷ map decimal qs)

module _ (c : Channel) (qs : List ℕ) (R : List (List ℕ)) where
  after_free : free 10 (fields_after c qs) ≡ true
  after_free = joined_free (drop 2 (channel_fields c qs)) (free_drop 10 2 (channel_fields c qs) (channel_free 10 (omega arith) c qs))

  c_refit : (w : ℕ) → refitted w (ended (joined (channel_fields c qs) ∷ R)) ≡ (67 ∷ []) ++ 9 ∷ (decimal w ++ 9 ∷ [])
  c_refit w = refit_line (67 ∷ []) (decimal c.width) (fields_after c qs) (10 ∷ ended R) refl (decimal_free c.width) w

  c_two : after_two (ended (joined (channel_fields c qs) ∷ R)) ≡ fields_after c qs ++ 10 ∷ ended R
  c_two = two_gone (67 ∷ []) (decimal c.width) (fields_after c qs) (10 ∷ ended R) refl (decimal_free c.width)

  c_up : up_to 10 1 (after_two (ended (joined (channel_fields c qs) ∷ R))) ≡ fields_after c qs ++ 10 ∷ []
  c_up = ap (λ (l : List ℕ). up_to 10 1 l) c_two ∙ up_line 10 0 (fields_after c qs) (ended R) after_free ∙ ap (λ (l : List ℕ). fields_after c qs ++ 10 ∷ l) (up_zero 10 (ended R))

  c_past : past 10 1 (after_two (ended (joined (channel_fields c qs) ∷ R))) ≡ ended R
  c_past = ap (λ (l : List ℕ). past 10 1 l) c_two ∙ past_line 10 0 (fields_after c qs) (ended R) after_free ∙ past_zero 10 (ended R)

  c_skip : past 10 1 (ended (joined (channel_fields c qs) ∷ R)) ≡ ended R
  c_skip = past_line 10 0 (joined (channel_fields c qs)) (ended R) (joined_free (channel_fields c qs) (channel_free 10 (omega arith) c qs)) ∙ past_zero 10 (ended R)

-- one channel of both
module _ (c d : Channel) (cs ds : List Channel) (h k : Held) (f : Beside c d) (u : HeldFor (c ∷ cs) h) (v : HeldFor (d ∷ ds) k) where
  enough_left : Enough (rows_in c * columns_in c) h.ranged h.lent.lows h.lent.highs
  enough_left = subst (λ (n : ℕ). Enough n h.ranged h.lent.lows h.lent.highs) (left_blocks c d f) u.0

  enough_right : Enough (rows_in c * columns_in d) k.ranged k.lent.lows k.lent.highs
  enough_right = subst (λ (n : ℕ). Enough n k.ranged k.lent.lows k.lent.highs) (right_blocks c d f) v.0

  long_left : rows_in c * columns_in c ≤ length (blocks_of h)
  long_left = subst (λ (n : ℕ). rows_in c * columns_in c ≤ n) (sym (blocks_length h.ranged h.lent.lows h.lent.highs)) enough_left.kinds

  long_right : rows_in c * columns_in d ≤ length (blocks_of k)
  long_right = subst (λ (n : ℕ). rows_in c * columns_in d ≤ n) (sym (blocks_length k.ranged k.lent.lows k.lent.highs)) enough_right.kinds

  -- the blocks of both
  pub kinds_count : length (weave (rows_in c) (columns_in c) (columns_in d) h.ranged k.ranged) ≡ rows_in c * (columns_in c + columns_in d)
  kinds_count = weave_length (rows_in c) (columns_in c) (columns_in d) h.ranged k.ranged enough_left.kinds enough_right.kinds

  levels_count : (xs ys : List ℤ) → 64 * (rows_in c * columns_in c) ≤ length xs → 64 * (rows_in c * columns_in d) ≤ length ys
      → length (weave (rows_in c) (64 * columns_in c) (64 * columns_in d) xs ys) ≡ 64 * (rows_in c * (columns_in c + columns_in d))
  levels_count xs ys p q = weave_length (rows_in c) (64 * columns_in c) (64 * columns_in d) xs ys (omega arith) (omega arith) ∙ omega arith

  lows_count : length (weave (rows_in c) (64 * columns_in c) (64 * columns_in d) h.lent.lows k.lent.lows) ≡ 64 * (rows_in c * (columns_in c + columns_in d))
  lows_count = levels_count h.lent.lows k.lent.lows enough_left.lows enough_right.lows

  highs_count : length (weave (rows_in c) (64 * columns_in c) (64 * columns_in d) h.lent.highs k.lent.highs) ≡ 64 * (rows_in c * (columns_in c + columns_in d))
  highs_count = levels_count h.lent.highs k.lent.highs enough_left.highs enough_right.highs

  -- the kinds, by whole blocks
  pub woven_kinds : woven 1 (c ∷ cs) (d ∷ ds) h.ranged k.ranged
      ≡ weave (rows_in c) (columns_in c) (columns_in d) h.ranged k.ranged ++ woven 1 cs ds (drop (blocks_in c) h.ranged) (drop (blocks_in d) k.ranged)
  woven_kinds =
      λ i. weave (rows_in c) (once (columns_in c) i) (once (columns_in d) i) h.ranged k.ranged ++ woven 1 cs ds (drop (once (blocks_in c) i) h.ranged) (drop (once (blocks_in d) i) k.ranged)

  blocks_both_sheets : take (rows_in c * (columns_in c + columns_in d)) (blocks_of (woven_held (c ∷ cs) (d ∷ ds) h k)) ≡ weave (rows_in c) (columns_in c) (columns_in d) (blocks_of h) (blocks_of k)
  blocks_both_sheets =
      let r = rows_in c in
      let a = columns_in c in
      let b = columns_in d in
      let W = weave r a b h.ranged k.ranged in
      let P = weave r (64 * a) (64 * b) h.lent.lows k.lent.lows in
      let Q = weave r (64 * a) (64 * b) h.lent.highs k.lent.highs in
      let w = woven 1 cs ds (drop (blocks_in c) h.ranged) (drop (blocks_in d) k.ranged) in
      let p = woven 64 cs ds (drop (64 * blocks_in c) h.lent.lows) (drop (64 * blocks_in d) k.lent.lows) in
      let q = woven 64 cs ds (drop (64 * blocks_in c) h.lent.highs) (drop (64 * blocks_in d) k.lent.highs) in
      let e : block_lines W P Q ≡ weave r a b (blocks_of h) (blocks_of k) = blocks_weave r a b h.ranged h.lent.lows h.lent.highs k.ranged k.lent.lows k.lent.highs enough_left enough_right in
      (λ i. take (r * (a + b)) (block_lines (woven_kinds i) (P ++ p) (Q ++ q)))
      ∙ ap (λ (l : List (List ℕ)). take (r * (a + b)) l)
      (blocks_both W P Q w p q (lows_count ∙ ap (λ (n : ℕ). 64 * n) (sym kinds_count)) (highs_count ∙ ap (λ (n : ℕ). 64 * n) (sym kinds_count)) ∙ ap (λ (l : List (List ℕ)). l ++ block_lines w p q) e)
      ∙ take_at (weave r a b (blocks_of h) (blocks_of k)) (block_lines w p q) (r * (a + b)) (weave_length r a b (blocks_of h) (blocks_of k) long_left long_right)

  rest_both : drop_held (blocks_in (besides c d)) 64 (woven_held (c ∷ cs) (d ∷ ds) h k) ≡ woven_held cs ds (drop_held (blocks_in c) 64 h) (drop_held (blocks_in d) 64 k)
  rest_both =
      let r = rows_in c in
      let a = columns_in c in
      let b = columns_in d in
      let N = blocks_in (besides c d) in
      let e : N ≡ r * (a + b) = both_blocks c d f in
      let g : 64 * (r * (a + b)) ≡ 64 * N = ap (λ (n : ℕ). 64 * n) (sym e) in
      let W = weave r a b h.ranged k.ranged in
      let P = weave r (64 * a) (64 * b) h.lent.lows k.lent.lows in
      let Q = weave r (64 * a) (64 * b) h.lent.highs k.lent.highs in
      let w = woven 1 cs ds (drop (blocks_in c) h.ranged) (drop (blocks_in d) k.ranged) in
      let p = woven 64 cs ds (drop (64 * blocks_in c) h.lent.lows) (drop (64 * blocks_in d) k.lent.lows) in
      let q = woven 64 cs ds (drop (64 * blocks_in c) h.lent.highs) (drop (64 * blocks_in d) k.lent.highs) in
      let x : drop (64 * N) (P ++ p) ≡ p = drop_at P p (64 * N) (lows_count ∙ g) in
      let y : drop (64 * N) (Q ++ q) ≡ q = drop_at Q q (64 * N) (highs_count ∙ g) in
      let z : drop N (woven 1 (c ∷ cs) (d ∷ ds) h.ranged k.ranged) ≡ w = (λ i. drop N (woven_kinds i)) ∙ drop_at W w N (kinds_count ∙ sym e) in
      λ i. held (lent (x i) (y i) (drop 64 h.lent.tables)) (z i) []

-- and the lines that follow
module _ (c d : Channel) (cs ds : List Channel) (h k : Held) (f : Beside c d) (u : HeldFor (c ∷ cs) h) (v : HeldFor (d ∷ ds) k) (L R : List (List ℕ)) (fl : all_free 10 L ≡ true) (fr : all_free 10 R ≡ true) where
  lines_left : lines_in (c ∷ cs) h L ≡ joined (channel_fields c (table_of h)) ∷ (take (rows_in c * columns_in c) (blocks_of h) ++ lines_in cs (drop_held (blocks_in c) 64 h) L)
  lines_left = lines_first c cs h L (rows_in c * columns_in c) (left_blocks c d f)

  lines_right : lines_in (d ∷ ds) k R ≡ joined (channel_fields d (table_of k)) ∷ (take (rows_in c * columns_in d) (blocks_of k) ++ lines_in ds (drop_held (blocks_in d) 64 k) R)
  lines_right = lines_first d ds k R (rows_in c * columns_in d) (right_blocks c d f)

  free_left : all_free 10 (take (rows_in c * columns_in c) (blocks_of h) ++ lines_in cs (drop_held (blocks_in c) 64 h) L) ≡ true
  free_left = rest_free c cs h L (rows_in c * columns_in c) (left_blocks c d f) fl

  free_right : all_free 10 (take (rows_in c * columns_in d) (blocks_of k) ++ lines_in ds (drop_held (blocks_in d) 64 k) R) ≡ true
  free_right = rest_free d ds k R (rows_in c * columns_in d) (right_blocks c d f) fr

  pair-text : pair_text c d (ended (lines_in (c ∷ cs) h L)) (ended (lines_in (d ∷ ds) k R))
      ≡ ((67 ∷ []) ++ 9 ∷ (decimal (c.width + d.width) ++ 9 ∷ [])) ++ ((fields_after c (table_of h) ++ 10 ∷ []) ++ ended (weave (rows_in c) (columns_in c) (columns_in d) (blocks_of h) (blocks_of k)))
  pair-text =
      let X = take (rows_in c * columns_in c) (blocks_of h) ++ lines_in cs (drop_held (blocks_in c) 64 h) L in
      let Y = take (rows_in c * columns_in d) (blocks_of k) ++ lines_in ds (drop_held (blocks_in d) 64 k) R in
      let e = c_refit c (table_of h) X (c.width + d.width) in
      let o = c_up c (table_of h) X in
      let p = c_past c (table_of h) X in
      let q = c_skip d (table_of k) Y in
      (λ i. pair_text c d (ended (lines_left i)) (ended (lines_right i)))
      ∙ (λ i. e i ++ (o i ++ rows_of (rows_in c) (columns_in c) (columns_in d) (p i) (q i)))
      ∙ ap (λ (l : List ℕ). ((67 ∷ []) ++ 9 ∷ (decimal (c.width + d.width) ++ 9 ∷ [])) ++ ((fields_after c (table_of h) ++ 10 ∷ []) ++ l))
      (rows_lines (rows_in c) (columns_in c) (columns_in d) X Y free_left free_right
      ∙ ap ended (weave_front (rows_in c) (columns_in c) (columns_in d) (blocks_of h) (blocks_of k) (lines_in cs (drop_held (blocks_in c) 64 h) L) (lines_in ds (drop_held (blocks_in d) 64 k) R) (long_left c d cs ds h k f u v) (long_right c d cs ds h k f u v)))

  pair-left : pair_left c (ended (lines_in (c ∷ cs) h L)) ≡ ended (lines_in cs (drop_held (blocks_in c) 64 h) L)
  pair-left =
      let K = lines_in cs (drop_held (blocks_in c) 64 h) L in
      let X = take (rows_in c * columns_in c) (blocks_of h) in
      (λ i. pair_left c (ended (lines_left i)))
      ∙ ap (λ (l : List ℕ). past_rows (rows_in c) (columns_in c) l) (c_past c (table_of h) (X ++ K))
      ∙ past-rows (rows_in c) (columns_in c) (X ++ K) free_left
      ∙ ap ended (drop_at X K (rows_in c * columns_in c) (length-take-le (rows_in c * columns_in c) (blocks_of h) (long_left c d cs ds h k f u v)))

  pair-right : pair_right c d (ended (lines_in (d ∷ ds) k R)) ≡ ended (lines_in ds (drop_held (blocks_in d) 64 k) R)
  pair-right =
      let K = lines_in ds (drop_held (blocks_in d) 64 k) R in
      let X = take (rows_in c * columns_in d) (blocks_of k) in
      (λ i. pair_right c d (ended (lines_right i)))
      ∙ ap (λ (l : List ℕ). past_rows (rows_in c) (columns_in d) l) (c_skip d (table_of k) (X ++ K))
      ∙ past-rows (rows_in c) (columns_in d) (X ++ K) free_right
      ∙ ap ended (drop_at X K (rows_in c * columns_in d) (length-take-le (rows_in c * columns_in d) (blocks_of k) (long_right c d cs ds h k f u v)))

  lines_both : (M : List (List ℕ)) → lines_in (besides c d ∷ pairs_of cs ds) (woven_held (c ∷ cs) (d ∷ ds) h k) M
      ≡ joined (channel_fields (besides c d) (table_of h)) ∷ (weave (rows_in c) (columns_in c) (columns_in d) (blocks_of h) (blocks_of k) ++ lines_in (pairs_of cs ds) (woven_held cs ds (drop_held (blocks_in c) 64 h) (drop_held (blocks_in d) 64 k)) M)
  lines_both M =
      lines_first (besides c d) (pairs_of cs ds) (woven_held (c ∷ cs) (d ∷ ds) h k) M (rows_in c * (columns_in c + columns_in d)) (both_blocks c d f)
      ∙ (λ i. joined (channel_fields (besides c d) (table_of h)) ∷ (blocks_both_sheets c d cs ds h k f u v i ++ lines_in (pairs_of cs ds) (rest_both c d cs ds h k f u v i) M))

  pair_done : (s : Sheet) (M : List (List ℕ)) → pairs_text s cs ds (ended (lines_in cs (drop_held (blocks_in c) 64 h) L)) (ended (lines_in ds (drop_held (blocks_in d) 64 k) R))
      ≡ ended (lines_in (pairs_of cs ds) (woven_held cs ds (drop_held (blocks_in c) 64 h) (drop_held (blocks_in d) 64 k)) M)
      → pairs_text s (c ∷ cs) (d ∷ ds) (ended (lines_in (c ∷ cs) h L)) (ended (lines_in (d ∷ ds) k R)) ≡ ended (lines_in (besides c d ∷ pairs_of cs ds) (woven_held (c ∷ cs) (d ∷ ds) h k) M)
  pair_done s M ih =
      let W = weave (rows_in c) (columns_in c) (columns_in d) (blocks_of h) (blocks_of k) in
      let T = lines_in (pairs_of cs ds) (woven_held cs ds (drop_held (blocks_in c) 64 h) (drop_held (blocks_in d) 64 k)) M in
      (λ i. pair-text i ++ pairs_text s cs ds (pair-left i) (pair-right i))
      ∙ ap (λ (l : List ℕ). (((67 ∷ []) ++ 9 ∷ (decimal (c.width + d.width) ++ 9 ∷ [])) ++ ((fields_after c (table_of h) ++ 10 ∷ []) ++ ended W)) ++ l) ih
      ∙ line_parts (67 ∷ []) (decimal (c.width + d.width)) (fields_after c (table_of h)) (ended W) (ended T)
      ∙ ap (λ (l : List ℕ). ((67 ∷ []) ++ 9 ∷ (decimal (c.width + d.width) ++ 9 ∷ fields_after c (table_of h))) ++ 10 ∷ l) (sym (ended_both W T))
      ∙ sym (ap ended (lines_both M))

pub pairs_lines : (s : Sheet) (L R M : List (List ℕ)) → all_free 10 L ≡ true → all_free 10 R ≡ true → last_text s (ended L) (ended R) ≡ ended M → (cs ds : List Channel) (h k : Held) → AllBeside cs ds → HeldFor cs h → HeldFor ds k
    → pairs_text s cs ds (ended (channel_lines cs h ++ L)) (ended (channel_lines ds k ++ R)) ≡ ended (channel_lines (pairs_of cs ds) (woven_held cs ds h k) ++ M)
pairs_lines s L R M fl fr e [] [] h k f u v = e
pairs_lines s L R M fl fr e [] (d ∷ ds) h k f u v = absurd f
pairs_lines s L R M fl fr e (c ∷ cs) [] h k f u v = absurd f
pairs_lines s L R M fl fr e (c ∷ cs) (d ∷ ds) h k f u v =
    pair_done c d cs ds h k f.0 u v L R fl fr s M (pairs_lines s L R M fl fr e cs ds (drop_held (blocks_in c) 64 h) (drop_held (blocks_in d) 64 k) f.1 u.1 v.1)

-- The header and the settings

one_line : (s : Setting) → length (setting_line s) ≡ 1
one_line (setting.Rounding letter.First) = refl
one_line (setting.Rounding letter.Second) = refl
one_line (setting.Start letter.First) = refl
one_line (setting.Start letter.Second) = refl
one_line (setting.Hold l) = refl

module _ {A : Type 0} where
  said_line : (make : A → Setting) (o : Option A) → length (line_if make o) ≡ lines_of o
  said_line make None = refl
  said_line make (Some x) = one_line (make x)

said_count : (x : Settings) → length (setting_lines x) ≡ said_lines x
said_count x =
    let R = line_if setting.Rounding x.rounding in
    let A = line_if setting.Start x.start in
    let O = line_if setting.Hold x.hold in
    length-append R (A ++ O)
    ∙ (λ i. said_line setting.Rounding x.rounding i + length-append A O i)
    ∙ (λ i. lines_of x.rounding + (said_line setting.Start x.start i + said_line setting.Hold x.hold i))

-- what follows the picture's width in the header's line
abbrev head_after : Header → List ℕ
head_after h =
    joined (drop 4 (header_fields h))

module _ (h : Header) (x : Settings) (R : List (List ℕ)) (f : all_free 10 R ≡ true) where
  after_free_head : free 10 (head_after h) ≡ true
  after_free_head = joined_free (drop 4 (header_fields h)) (free_drop 10 4 (header_fields h) (header_free 10 (omega arith) h))

  all-free : all_free 10 (setting_lines x ++ R) ≡ true
  all-free = free_both (setting_lines x) R (free_settings x) f

  s_two : after_two (after_two (ended (joined (header_fields h) ∷ (setting_lines x ++ R)))) ≡ head_after h ++ 10 ∷ ended (setting_lines x ++ R)
  s_two =
      ap after_two (two_gone (83 ∷ []) (decimal h.width) (decimal h.height ++ 9 ∷ (decimal h.picture_width ++ 9 ∷ head_after h)) (10 ∷ ended (setting_lines x ++ R)) refl (decimal_free h.width))
      ∙ two_gone (decimal h.height) (decimal h.picture_width) (head_after h) (10 ∷ ended (setting_lines x ++ R)) (decimal_free h.height) (decimal_free h.picture_width)

  head-text : (w p : ℕ) → head_text w p (said_lines x) (ended (joined (header_fields h) ∷ (setting_lines x ++ R)))
      ≡ ((83 ∷ []) ++ 9 ∷ (decimal w ++ 9 ∷ (decimal h.height ++ 9 ∷ (decimal p ++ 9 ∷ head_after h)))) ++ 10 ∷ ended (setting_lines x)
  head-text w p =
      let T : List ℕ = 10 ∷ ended (setting_lines x ++ R) in
      let F = decimal h.height ++ 9 ∷ (decimal h.picture_width ++ 9 ∷ head_after h) in
      let a = refit_line (83 ∷ []) (decimal h.width) F T refl (decimal_free h.width) w in
      let b : refitted p (after_two (ended (joined (header_fields h) ∷ (setting_lines x ++ R)))) ≡ decimal h.height ++ 9 ∷ (decimal p ++ 9 ∷ []) =
      ap (λ (l : List ℕ). refitted p l) (two_gone (83 ∷ []) (decimal h.width) F T refl (decimal_free h.width))
      ∙ refit_line (decimal h.height) (decimal h.picture_width) (head_after h) T (decimal_free h.height) (decimal_free h.picture_width) p in
      let c : up_to 10 (said_lines x + 1) (after_two (after_two (ended (joined (header_fields h) ∷ (setting_lines x ++ R))))) ≡ head_after h ++ 10 ∷ ended (setting_lines x) =
      (λ i. up_to 10 (add-one (said_lines x) i) (s_two i))
      ∙ up_line 10 (said_lines x) (head_after h) (ended (setting_lines x ++ R)) after_free_head
      ∙ ap (λ (l : List ℕ). head_after h ++ 10 ∷ l) (up_lines (said_lines x) (setting_lines x ++ R) all-free ∙ ap ended (take_at (setting_lines x) R (said_lines x) (said_count x))) in
      (λ i. a i ++ (b i ++ c i)) ∙ head_parts (83 ∷ []) (decimal w) (decimal h.height) (decimal p) (head_after h) (ended (setting_lines x))

  head-left : head_left (said_lines x) (ended (joined (header_fields h) ∷ (setting_lines x ++ R))) ≡ ended R
  head-left =
      (λ i. past 10 (add-one (said_lines x) i) (s_two i))
      ∙ past_line 10 (said_lines x) (head_after h) (ended (setting_lines x ++ R)) after_free_head
      ∙ past_lines (said_lines x) (setting_lines x ++ R) all-free
      ∙ ap ended (drop_at (setting_lines x) R (said_lines x) (said_count x))

  head_right : past 10 (said_lines x + 1) (ended (joined (header_fields h) ∷ (setting_lines x ++ R))) ≡ ended R
  head_right =
      ap (λ (n : ℕ). past 10 n (ended (joined (header_fields h) ∷ (setting_lines x ++ R)))) (add-one (said_lines x))
      ∙ past_line 10 (said_lines x) (joined (header_fields h)) (ended (setting_lines x ++ R)) (joined_free (header_fields h) (header_free 10 (omega arith) h))
      ∙ past_lines (said_lines x) (setting_lines x ++ R) all-free
      ∙ ap ended (drop_at (setting_lines x) R (said_lines x) (said_count x))

-- The whole text

-- What makes the text of as many channels as the headers say
pub record InUse (s t : Sheet) (h k : Held) : Type 0 where
  pub both : channels_of (stitched_sheet s t) ≡ pairs_of (channels_of s) (channels_of t)
  pub beside : AllBeside (channels_of s) (channels_of t)
  pub held_left : HeldFor (channels_of s) h
  pub held_right : HeldFor (channels_of t) k
  pub columns : (c : ℕ) → columns_in (channel_at (stitched_sheet s t) c) ≡ columns_in (channel_at s c) + columns_in (channel_at t c)
  pub marks_right : AllSmall k.marks

-- and of the channels that the code looks at, where they are those
pub record Pair (s t : Sheet) (h k : Held) : Type 0 where
  pub left : used_of s.header.channels s ≡ channels_of s
  pub right : used_of s.header.channels t ≡ channels_of t
  pub both : channels_of (stitched_sheet s t) ≡ pairs_of (channels_of s) (channels_of t)
  pub beside : AllBeside (channels_of s) (channels_of t)
  pub held_left : HeldFor (channels_of s) h
  pub held_right : HeldFor (channels_of t) k
  pub columns : (c : ℕ) → columns_in (channel_at (stitched_sheet s t) c) ≡ columns_in (channel_at s c) + columns_in (channel_at t c)
  pub marks_right : AllSmall k.marks

pub in_use : (s t : Sheet) (h k : Held) → Pair s t h k → InUse s t h k
in_use s t h k p =
    record {
      both = p.both;
      beside = p.beside;
      held_left = p.held_left;
      held_right = p.held_right;
      columns = p.columns;
      marks_right = p.marks_right;
    }

-- the channels' lines hold no mark
marks_apart : (cs : List Channel) (h : Held) (ms : List Marked) → channel_lines cs (held h.lent h.ranged ms) ≡ channel_lines cs h
marks_apart [] h ms = refl
marks_apart (c ∷ cs) h ms = refl

pub in_use_copied : (s t : Sheet) (h k : Held) → InUse s t h k
    → in_use_text s t (written s h) (written t k) ≡ written (stitched_sheet s t) (stitched_held s t h k)
unfolding in_use_text written
in_use_copied s t h k p =
    let cs = channels_of s in
    let ds = channels_of t in
    let ms = stitched_marks s t h.marks k.marks in
    let LM = mark_lines h.marks ++ joined end_fields ∷ [] in
    let RM = mark_lines k.marks ++ joined end_fields ∷ [] in
    let M = mark_lines ms ++ joined end_fields ∷ [] in
    let L = channel_lines cs h ++ LM in
    let R = channel_lines ds k ++ RM in
    let T = channel_lines (pairs_of cs ds) (woven_held cs ds h k) ++ M in
    let fl = free_both (channel_lines cs h) LM (free_channels cs h) (last_free h.marks) in
    let fr = free_both (channel_lines ds k) RM (free_channels ds k) (last_free k.marks) in
    let a = head-text s.header s.settings L fl (s.header.width + t.header.width) (s.header.picture_width + t.header.picture_width) in
    let b = head-left s.header s.settings L fl in
    let c = head_right t.header t.settings R fr in
    (λ i. a i ++ pairs_text s cs ds (b i) (c i))
    ∙ ap (λ (l : List ℕ). (joined (header_fields (wider s.header t.header)) ++ 10 ∷ ended (setting_lines s.settings)) ++ l)
    (pairs_lines s LM RM M (last_free h.marks) (last_free k.marks) (last_lines s t h.marks k.marks p.marks_right) cs ds h k p.beside p.held_left p.held_right)
    ∙ append_assoc (joined (header_fields (wider s.header t.header))) (10 ∷ ended (setting_lines s.settings)) (ended T)
    ∙ ap (λ (l : List ℕ). joined (header_fields (wider s.header t.header)) ++ 10 ∷ l) (sym (ended_both (setting_lines s.settings) T))
    ∙ (λ i. ended (joined (header_fields (wider s.header t.header)) ∷ (setting_lines s.settings ++ (sym (marks_apart (pairs_of cs ds) (woven_held cs ds h k) ms) i ++ M))))
    ∙ (λ i. ended (joined (header_fields (wider s.header t.header)) ∷ (setting_lines s.settings ++ (channel_lines (sym p.both i) (stitched_held s t h k) ++ M))))

pub as_copied : (s t : Sheet) (h k : Held) → Pair s t h k → stitch_text s t (written s h) (written t k) ≡ written (stitched_sheet s t) (stitched_held s t h k)
unfolding stitch_text in_use_text
as_copied s t h k p =
    let xs = head_left (said_lines s.settings) (written s h) in
    let ys = past 10 (said_lines t.settings + 1) (written t k) in
    (λ i. open_text s t (written s h) ++ pairs_text s (p.left i) (p.right i) xs ys)
    ∙ in_use_copied s t h k (in_use s t h k p)
