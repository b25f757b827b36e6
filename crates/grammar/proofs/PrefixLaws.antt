-- The first bytes of a text decide it.
use Rattle.refusal.specs.declared.Refusal.{Refusal}
use Rattle.refusal.specs.Refusal as table
use Rattle.std.proofs.Common.{Some, None, Option, Ok, Err, Result}
use Rattle.refusal.specs.declared.Refusal.TheVariants as refusal
use Prim.Native.Nat.{ℕ, zero, suc, ◌+◌, ◌-◌, ◌*◌, ◌/◌, ◌<◌, ◌≤◌}
use mathlib.Core.Path.{◌≡◌, refl, sym, ap, ◌∙◌, subst, subst⁻¹}
use mathlib.Core.List.{List, [], ◌∷◌, ◌++◌, append-nil}
use mathlib.Core.Bool.{Bool, true, false, not, cond, ◌&&◌, ◌||◌}
use mathlib.Core.Logic.{◌⊎◌, inl, inr}
use native.Mathlib.Nat.{mul-le-mul, mul-le-mul_right, le_trans, suc-mul}
use native.Mathlib.Omega.{arith}
use lib.ListN.{length, get_or, set, take, drop, replicate, length-drop, length-take, drop_of_length-le}
use lib.Seq.{drop-cons, take_all, take-nil, length-take-le}
use lib.Dec.{eqb, ltb, leb}
use borrow.Author.Tests.{lt-ltb, le-ltb, ne_eqb, ltb-true, ltb-false, eqb-true, eqb-false, leb-true, leb-false}
use Rattle.text.specs.declared.field.Rule.{Rule}
use Rattle.text.specs.declared.field.Rule.TheVariants as rule
use Rattle.text.specs.Pieces.{split, before}
use Rattle.text.specs.Numbers.{number_at}
use Rattle.text.specs.Fields.{field_of, fault_in}
use Rattle.digits.specs.Written.{decimal, joined, row_bytes}
use Rattle.text.proofs.PieceLaws.{split_cut, split_whole, split_some}
use Rattle.digits.proofs.Both.{both_left, both_right}
use Rattle.digits.proofs.Lengths.{decimal_length}
use Rattle.text.proofs.JoinLaws.{joined_split, joined_length, Within}
use Rattle.text.proofs.SizeLaws.{tag_short, range_short, count_short, side_short, channels_short, letters_short, weight_short, quantiser_short}
use Rattle.contents.specs.declared.Limits.{Limits}
use Rattle.contents.specs.declared.Header.{Header}
use Rattle.contents.specs.Legal.{LegalLimits}
use Rattle.contents.specs.Hold.{measured}
use Rattle.contents.proofs.ThreeLaws.{each_of}
use Rattle.contents.proofs.HoldLaws.{measured_most}
use Rattle.contents.specs.declared.Settings.{Settings}
use Rattle.progress.specs.declared.State.{State}
use Rattle.lines.specs.Lines.{header_rules, channel_rules, mark_rules, mark_of, marks_in, rules_of, first_fault, fields_fault, holding, header_of, channel_of, record_of}
use Rattle.contents.specs.declared.Channel.{Channel}
use Rattle.contents.specs.declared.Mark.{Mark}
use Rattle.contents.specs.Marks.{all_blocks, block_of, among}
use Rattle.contents.specs.Sheets.{Marked, marked, Held, nothing, no_channel}
use Rattle.progress.specs.Progress.{headed, blank, last_said, may_stand, line_tag, opened, covers, exists, taken_if}
use Rattle.sheet.specs.Reading.{Outcome, Contents, contents, taken_of, is_last, line_fault, nothing_left, on_fault, on_taken, read_from, allowed, read_text}
use Rattle.sheet.specs.Reading.Outcome.{Gives, Refused}
use Rattle.grammar.specs.Longest.{header_sizes, channel_sizes, block_sizes, mark_sizes, channel_bytes, longest, decisive}
use Rattle.progress.proofs.StateLaws.{SettingTag, BlockTag, Stands, stands, unbegun, first_tag}
use Rattle.progress.proofs.StateLaws.Stands.{Header-line, Setting-line, Block-line, Channel-line, End-line, Mark-line}
use Rattle.progress.proofs.StateLaws.SettingTag.{F-tag, A-tag, H-tag}
use Rattle.progress.proofs.StateLaws.BlockTag.{B-tag, G-tag}
use Rattle.grammar.specs.Written.{mark_fields}
use Rattle.grammar.proofs.MarkLaws.{mark_as, exists_has, place-of, unmarked, unmarked_most, unmarked_less, block_below, placed_blocks, mark_bytes}
use Rattle.sheet.proofs.WalkLaws.{line_long, split_head, not_last, some_after}
use Rattle.lines.proofs.GoodLines.{or_left, or_right, fault_at, fault_drop, row_as}
use Rattle.grammar.proofs.SettingLaws.{place_of, settings_left, said_line, now_said, setting_spent}
use Rattle.grammar.proofs.BlockLaws.{said_block, block_record, block_bytes}
use Rattle.grammar.proofs.LegalLaws.{header_is_legal, allowed_is, channel_is_legal, few, fields_count, line_fields, line-is, no_gives, with_set, less_block}

-- The length of a good line

row-bytes : (p : List ℕ) (ms : List ℕ) → Within (split 9 p) ms → length p + 1 ≤ row_bytes ms
row-bytes p ms w = subst (λ (x : List ℕ). length x + 1 ≤ row_bytes ms) (joined_split p) (joined_length (split 9 p) ms (split_some 9 p) w)

-- a line that was taken
abbrev good : State → Result State Refusal
good s = Ok s

-- 64 fields of one rule
same_rule : (r : Rule) (m : ℕ) → ((f : List ℕ) → fault_in (field_of r f) ≡ None → length f ≤ m) → (n : ℕ) (fs : List (List ℕ)) → length fs ≡ n → first_fault (replicate n r) fs ≡ None
    → Within fs (replicate n m)
same_rule r m short zero [] l e = tt
same_rule r m short zero (f ∷ fs) l e = let y : ⊥ = omega arith in absurd y
same_rule r m short (suc n) [] l e = let y : ⊥ = omega arith in absurd y
same_rule r m short (suc n) (f ∷ fs) l e =
    (short f (or_left (fault_in (field_of r f)) (first_fault (replicate n r) fs) e), same_rule r m short n fs (omega arith) (or_right (fault_in (field_of r f)) (first_fault (replicate n r) fs) e))

four : (f : List ℕ) → fault_in (field_of (rule.Range refusal.Factor 1 4) f) ≡ None → length f ≤ 1
four f e = le_trans (range_short f refusal.Factor 1 4 4 (omega arith) e) (decimal_length 0 4 (omega arith))

-- field i, and those after it
within_at : (fs : List (List ℕ)) (i m : ℕ) (ms : List ℕ) → i < length fs → length (get_or fs i []) ≤ m → Within (drop (suc i) fs) ms → Within (drop i fs) (m ∷ ms)
within_at fs i m ms h k w = rw (drop-cons fs i [] h) (k, w)

within_end : (fs : List (List ℕ)) (i : ℕ) → length fs ≤ i → Within (drop i fs) []
within_end fs i h = rw (drop_of_length-le fs {i = i} h) tt

module _ (limits : Limits) (most : LegalLimits limits) where
  d : ℕ
  d = length (decimal limits.side)

  header_within : (fs : List (List ℕ)) → length fs ≡ 16 → first_fault (header_rules limits fs) fs ≡ None → Within fs (header_sizes d)
  unfolding header_of number_at d
  header_within fs n e =
      let l = header_is_legal limits fs n e in
      within_at fs 0 1 _ (omega arith) (tag_short (get_or fs 0 []) 83 (at 0 (omega arith)))
      (within_at fs 1 d _ (omega arith) (side_short (get_or fs 1 []) limits.side limits.side l.width.top (at 1 (omega arith)))
      (within_at fs 2 d _ (omega arith) (side_short (get_or fs 2 []) limits.side limits.side l.height.top (at 2 (omega arith)))
      (within_at fs 3 d _ (omega arith) (range_short (get_or fs 3 []) refusal.Size 1 (number_at fs 1) limits.side l.width.top (at 3 (omega arith)))
      (within_at fs 4 d _ (omega arith) (range_short (get_or fs 4 []) refusal.Size 1 (number_at fs 2) limits.side l.height.top (at 4 (omega arith)))
      (within_at fs 5 1 _ (omega arith) (channels_short (get_or fs 5 []) (at 5 (omega arith)))
      (within_at fs 6 1 _ (omega arith) (letters_short (get_or fs 6 []) 106 115 (at 6 (omega arith)))
      (within_at fs 7 4 _ (omega arith) (count_short (get_or fs 7 []) limits.iterations (at 7 (omega arith)))
      (within_at fs 8 4 _ (omega arith) (count_short (get_or fs 8 []) limits.iterations (at 8 (omega arith)))
      (within_at fs 9 4 _ (omega arith) (count_short (get_or fs 9 []) limits.iterations (at 9 (omega arith)))
      (within_at fs 10 9 _ (omega arith) (weight_short (get_or fs 10 []) (at 10 (omega arith)))
      (within_at fs 11 9 _ (omega arith) (weight_short (get_or fs 11 []) (at 11 (omega arith)))
      (within_at fs 12 9 _ (omega arith) (weight_short (get_or fs 12 []) (at 12 (omega arith)))
      (within_at fs 13 9 _ (omega arith) (weight_short (get_or fs 13 []) (at 13 (omega arith)))
      (within_at fs 14 9 _ (omega arith) (weight_short (get_or fs 14 []) (at 14 (omega arith)))
      (within_at fs 15 9 _ (omega arith) (weight_short (get_or fs 15 []) (at 15 (omega arith))) (within_end fs 16 (omega arith)))))))))))))))))
    where
      at : (i : ℕ) → i < 16 → fault_in (field_of (get_or (header_rules limits fs) i (rule.Tag 0)) (get_or fs i [])) ≡ None
      at i h = fault_at (header_rules limits fs) fs i e h (omega arith)

  channel_within : (fs : List (List ℕ)) → length fs ≡ 69 → first_fault channel_rules fs ≡ None → (channel_of fs).width ≤ limits.side → (channel_of fs).height ≤ limits.side → Within fs (channel_sizes d)
  unfolding channel_of number_at d
  channel_within fs n e w v =
      within_at fs 0 1 _ (omega arith) (tag_short (get_or fs 0 []) 67 (at 0 (omega arith)))
      (within_at fs 1 d _ (omega arith) (side_short (get_or fs 1 []) 999999 limits.side w (at 1 (omega arith)))
      (within_at fs 2 d _ (omega arith) (side_short (get_or fs 2 []) 999999 limits.side v (at 2 (omega arith)))
      (within_at fs 3 1 _ (omega arith) (four (get_or fs 3 []) (at 3 (omega arith)))
      (within_at fs 4 1 _ (omega arith) (four (get_or fs 4 []) (at 4 (omega arith)))
      (same_rule rule.Quantiser 3 (λ g q. quantiser_short g q) 64 (drop 5 fs) (length-drop 5 fs ∙ omega arith) (fault_drop 5 channel_rules fs e))))))
    where
      at : (i : ℕ) → i < 69 → fault_in (field_of (get_or channel_rules i (rule.Tag 0)) (get_or fs i [])) ≡ None
      at i h = fault_at channel_rules fs i e h (omega arith)

-- What is left of a legal text, at most

abbrev line_bytes : Limits → ℕ
line_bytes limits = channel_bytes limits.side (length (decimal limits.side))

-- the settings that may still stand
abbrev setting_room : State → ℕ
setting_room s = cond (eqb s.read 0) (settings_left (last_said s.sheet.settings)) 0

-- the marks that may still stand: of every block that was read, and after the last one of those that are not marked
abbrev mark_room : State → List Marked → ℕ
mark_room s ms = cond (ltb 0 s.left || ltb s.read s.sheet.header.channels) (all_blocks s.sheet) (unmarked (all_blocks s.sheet) ms)

mark_room_most : (s : State) (ms : List Marked) → mark_room s ms ≤ all_blocks s.sheet
mark_room_most s ms = two (ltb 0 s.left || ltb s.read s.sheet.header.channels)
  where
    two : (x : Bool) → cond x (all_blocks s.sheet) (unmarked (all_blocks s.sheet) ms) ≤ all_blocks s.sheet
    two true = omega arith
    two false = unmarked_most (all_blocks s.sheet) ms

abbrev room : Limits → State → List Marked → ℕ
room limits s ms =
    cond s.begun
    (setting_room s + s.left * row_bytes block_sizes + mark_room s ms * row_bytes (mark_sizes limits.side) + (s.sheet.header.channels - s.read) * line_bytes limits + 2) (longest limits.side)

-- within the caller's side
abbrev Small : Limits → Channel → Type 0
Small limits c = (c.width ≤ limits.side) × (c.height ≤ limits.side)

small_set : (limits : Limits) (xs : List Channel) (r : ℕ) (c : Channel) → ((j : ℕ) → Small limits (get_or xs j no_channel)) → Small limits c
    → (j : ℕ) → Small limits (get_or (set xs r c) j no_channel)
small_set limits [] r c f k j = f j
small_set limits (x ∷ xs) zero c f k zero = k
small_set limits (x ∷ xs) zero c f k (suc j) = f (suc j)
small_set limits (x ∷ xs) (suc r) c f k zero = f 0
small_set limits (x ∷ xs) (suc r) c f k (suc j) = small_set limits xs r c (λ i. f (suc i)) k j

small_headed : (limits : Limits) (h : Header) (j : ℕ) → Small limits (get_or (headed h).channels j no_channel)
small_headed limits h zero = (omega arith, omega arith)
small_headed limits h (suc zero) = (omega arith, omega arith)
small_headed limits h (suc (suc zero)) = (omega arith, omega arith)
small_headed limits h (suc (suc (suc j))) = (omega arith, omega arith)

record On (limits : Limits) (s : State) : Type 0 where
  begun : s.begun ≡ true
  wide : s.sheet.header.width ≤ limits.side
  high : s.sheet.header.height ≤ limits.side
  few : s.sheet.header.channels ≤ 3
  counts : (c : ℕ) → measured s.sheet.header c ≤ 1000
  small : (j : ℕ) → Small limits (get_or s.sheet.channels j no_channel)

abbrev Stage : Limits → State → Type 0
Stage limits s = (s ≡ blank) ⊎ On limits s

one_less : (c r x : ℕ) → r < c → (c - r) * x ≡ (c - (r + 1)) * x + x
one_less c r x h = let e : c - r ≡ suc (c - (r + 1)) = omega arith in ap (λ (n : ℕ). n * x) e ∙ suc-mul (c - (r + 1)) x

-- a good line of this tag takes the state s to t and the marks ms to ns, and has no more bytes than the difference
record Spent (limits : Limits) (s : State) (ms : List Marked) (p : List ℕ) (t : State) (ns : List Marked) : Type 0 where
  stage : On limits t
  bytes : length p + 1 + room limits t ns ≤ room limits s ms

good_inj : (s t : State) → ◌≡◌ {A = Result State Refusal} (Ok s) (Ok t) → s ≡ t
good_inj s t e = cc

bad_good : {k : Refusal} {t : State} {A : Type 0} → Err k ≡ Ok t → A
bad_good e = let z : ◌≡◌ {A = ℕ} 0 1 = cc in let y : ⊥ = omega arith in absurd y

no_setting_mark : (i g : ℕ) → SettingTag i g → eqb g 78 ≡ false
no_setting_mark i g (F-tag q r) = rw r
no_setting_mark i g (A-tag q r) = rw r
no_setting_mark i g (H-tag q r) = rw r

no_block_mark : (r : Bool) (g : ℕ) → BlockTag r g → eqb g 78 ≡ false
no_block_mark r g (B-tag q t) = rw t
no_block_mark r g (G-tag q t) = rw t

module _ (limits : Limits) (most : LegalLimits limits) (p : List ℕ) where
  spent_header : (t : State) → length (split 9 p) ≡ 16 → first_fault (header_rules limits (split 9 p)) (split 9 p) ≡ None
      → good (record { begun = true; sheet = headed (header_of (split 9 p)); read = 0; left = 0 }) ≡ Ok t → (ms : List Marked) → Spent limits blank ms p t ms
  unfolding blank longest d
  spent_header t n e o ms =
      let fs = split 9 p in
      let l = header_is_legal limits fs n e in
      let f = few limits (header_of fs) l in
      let c : ℕ = (header_of fs).channels in
      subst (λ (x : State). Spent limits blank ms p x ms) (good_inj _ t o)
      (record {
        stage = record { begun = refl; wide = l.width.top; high = l.height.top; few = f; counts = λ c. le_trans (measured_most (header_of fs) limits l c) most.iterations; small = small_headed limits (header_of fs) };
        bytes =
            let z : c - 0 ≤ 3 = omega arith in
            let x : mark_room (record { begun = true; sheet = headed (header_of fs); read = 0; left = 0 }) ms ≤ 0 = mark_room_most (record { begun = true; sheet = headed (header_of fs); read = 0; left = 0 }) ms in
            omega (arith, row-bytes p (header_sizes (length (decimal limits.side))) (header_within limits most fs n e), mul-le-mul_right (line_bytes limits) z, mul-le-mul_right (row_bytes (mark_sizes limits.side)) x);
      })

  module _ (s : State) (ms : List Marked) (b : On limits s) where
    spent_block : (t : State) (r : Bool) (g : ℕ) → BlockTag r g → length (split 9 p) ≡ length (rules_of g limits s.sheet.header (split 9 p))
        → first_fault (rules_of g limits s.sheet.header (split 9 p)) (split 9 p) ≡ None → 0 < s.left → taken_of s ms (record_of g (split 9 p)) ≡ Ok t → Spent limits s ms p t ms
    unfolding taken_if
    spent_block t r g q n e h o =
        let w = said_block r g limits s.sheet.header p q n e in
        let z : good (less_block s) ≡ Ok t = rw (block_record r g (split 9 p) q) at o in
        subst (λ (x : State). Spent limits s ms p x ms) (good_inj _ t z)
        (record {
          stage = record { begun = b.begun; wide = b.wide; high = b.high; few = b.few; counts = b.counts; small = b.small };
          bytes = rw (b.begun, lt-ltb 0 s.left h) (omega (arith, block_bytes r w.ls w.hs w.block, ap length w.row, mul-le-mul_right (row_bytes (mark_sizes limits.side)) (mark_room_most (less_block s) ms)));
        })

    spent_setting : (t : State) (i g : ℕ) → may_stand i s ≡ true → SettingTag i g → length (split 9 p) ≡ length (rules_of g limits s.sheet.header (split 9 p))
        → first_fault (rules_of g limits s.sheet.header (split 9 p)) (split 9 p) ≡ None → taken_of s ms (record_of g (split 9 p)) ≡ Ok t → Spent limits s ms p t ms
    unfolding taken_if
    spent_setting t i g m q n e o =
        let w = said_line i g limits s.sheet.header p q n e in
        let x : Settings = s.sheet.settings in
        let r = both_right s.begun (eqb s.read 0 && ltb (last_said x) i) m in
        let h : last_said x < place_of w.x = omega (arith, ltb-true (last_said x) i (both_right (eqb s.read 0) (ltb (last_said x) i) r), w.place) in
        let z : good (with_set s w.x) ≡ Ok t = rw w.says at o in
        subst (λ (x : State). Spent limits s ms p x ms) (good_inj _ t z)
        (record {
          stage = record { begun = b.begun; wide = b.wide; high = b.high; few = b.few; counts = b.counts; small = b.small };
          bytes =
              rw (b.begun, both_left (eqb s.read 0) (ltb (last_said x) i) r, now_said x w.x h)
              (omega (arith, setting_spent s.sheet.header b.counts w.x w.legal p (last_said x) h w.row));
        })

    spent_channel : (t : State) → length (split 9 p) ≡ 69 → first_fault channel_rules (split 9 p) ≡ None → s.left ≤ 0 → s.read < s.sheet.header.channels
        → covers s.sheet.header (channel_of (split 9 p)) ≡ true → good (opened s (channel_of (split 9 p))) ≡ Ok t → Spent limits s ms p t ms
    unfolding d
    spent_channel t n e z h v o =
        let fs = split 9 p in
        let c = channel_of fs in
        let l = channel_is_legal s.sheet.header fs n e v in
        let w : c.width ≤ limits.side = le_trans l.width.top b.wide in
        let u : c.height ≤ limits.side = le_trans l.height.top b.high in
        subst (λ (x : State). Spent limits s ms p x ms) (good_inj _ t o)
        (record {
          stage =
              record {
                begun = refl;
                wide = b.wide;
                high = b.high;
                few = b.few;
                counts = b.counts;
                small = small_set limits s.sheet.channels s.read c b.small (w, u);
              };
          bytes =
              let here : mark_room s ms ≡ all_blocks s.sheet = rw (le-ltb 0 s.left z, lt-ltb s.read s.sheet.header.channels h) in
              let more : mark_room (opened s c) ms ≤ all_blocks s.sheet + limits.side * limits.side / 64 =
              omega (arith, mark_room_most (opened s c) ms, placed_blocks s.sheet s.read c, mul-le-mul w u) in
              rw (b.begun, here, ne_eqb (s.read + 1) 0 (λ q. omega arith))
              (omega (
                arith,
                row-bytes p (channel_sizes (length (decimal limits.side))) (channel_within limits most fs n e w u),
                mul-le-mul w u,
                mul-le-mul_right (row_bytes (mark_sizes limits.side)) more,
                one_less s.sheet.header.channels s.read (line_bytes limits) h,
              ));
        })

    -- a line that is no mark leaves the marks
    none_marked : (t : State) (g : ℕ) → eqb g 78 ≡ false → Spent limits s ms p t ms → Spent limits s ms p t (ms ++ marks_in s.sheet g (split 9 p))
    none_marked t g e l = rw (e, append-nil ms) l

    spent_mark : s.left ≤ 0 → s.sheet.header.channels ≤ s.read → (t : State) → length (split 9 p) ≡ 4 → first_fault mark_rules (split 9 p) ≡ None
        → cond (exists s.sheet (mark_of (split 9 p)) && not (among (block_of s.sheet (mark_of (split 9 p))) ms)) (good s) (Err refusal.Mark) ≡ Ok t
        → Spent limits s ms p t (ms ++ marked (mark_of (split 9 p)) (block_of s.sheet (mark_of (split 9 p))) ∷ [])
    spent_mark l v t n e o = by (exists s.sheet m) (among (block_of s.sheet m) ms) refl refl o
      where
        m : Mark
        m = mark_of (split 9 p)

        by : (x y : Bool) → exists s.sheet m ≡ x → among (block_of s.sheet m) ms ≡ y → cond (x && not y) (good s) (Err refusal.Mark) ≡ Ok t
            → Spent limits s ms p t (ms ++ marked m (block_of s.sheet m) ∷ [])
        by true true q r w = bad_good w
        by false y q r w = bad_good w
        by true false q r w =
            let g = place-of s.sheet m (exists_has s.sheet m q) in
            let c = m.channel in
            let own = each_of (Small limits) _ _ _ (b.small 0) (b.small 1) (b.small 2) c in
            let less = unmarked_less ms (marked m (block_of s.sheet m)) (all_blocks s.sheet) (block_below s.sheet m g) r in
            let bytes = mark_bytes limits.side s.sheet m b.few own.0 own.1 g in
            let row : length (joined (mark_fields m)) ≡ length p = ap length (row_as p (mark_fields m) (mark_as (split 9 p) n e)) in
            subst (λ (x : State). Spent limits s ms p x (ms ++ marked m (block_of s.sheet m) ∷ [])) (good_inj s t w)
            (record {
              stage = b;
              bytes =
                  rw (b.begun, le-ltb 0 s.left l, le-ltb s.read s.sheet.header.channels v)
                  (omega (arith, bytes, row, mul-le-mul_right (row_bytes (mark_sizes limits.side)) less));
            })

    -- by the line that may stand
    spent_on : (t : State) (g : ℕ) → Stands s g → (g ≡ 69 → ⊥) → length (split 9 p) ≡ length (rules_of g limits s.sheet.header (split 9 p))
        → first_fault (rules_of g limits s.sheet.header (split 9 p)) (split 9 p) ≡ None → taken_of s ms (record_of g (split 9 p)) ≡ Ok t
        → Spent limits s ms p t (ms ++ marks_in s.sheet g (split 9 p))
    unfolding rules_of record_of taken_if
    spent_on t g (Header-line q r) x n e o = unbegun s b.begun q
    spent_on t g (Setting-line i q r) x n e o = none_marked t g (no_setting_mark i g r) (spent_setting t i g q r n e o)
    spent_on t g (Block-line r q l y) x n e o = none_marked t g (no_block_mark r g y) (spent_block t r g y n e l o)
    spent_on t g (Channel-line q l c r) x n e o = none_marked t g (rw r) (covering (covers s.sheet.header (channel_of (split 9 p))) refl (rw r at n) (rw r at e) l c (rw r at o))
      where
        covering : (c : Bool) → covers s.sheet.header (channel_of (split 9 p)) ≡ c → length (split 9 p) ≡ 69 → first_fault channel_rules (split 9 p) ≡ None
            → s.left ≤ 0 → s.read < s.sheet.header.channels → cond c (good (opened s (channel_of (split 9 p)))) (Err refusal.Size) ≡ Ok t → Spent limits s ms p t ms
        covering true v m f i j w = spent_channel t m f i j v w
        covering false v m f i j w = bad_good w
    spent_on t g (End-line q l c r) x n e o = absurd (x r)
    spent_on t g (Mark-line q l c r) x n e o = rw r (spent_mark l c t (rw r at n) (rw r at e) (rw r at o))

  abbrev Spends : State → List Marked → State → Type 0
  Spends s ms t =
      length (split 9 p) ≡ length (rules_of (line_tag s (split 9 p)) limits s.sheet.header (split 9 p)) → first_fault (rules_of (line_tag s (split 9 p)) limits s.sheet.header (split 9 p)) (split 9 p) ≡ None
      → taken_of s ms (record_of (line_tag s (split 9 p)) (split 9 p)) ≡ Ok t → Spent limits s ms p t (ms ++ marks_in s.sheet (line_tag s (split 9 p)) (split 9 p))

  spent_first : (ms : List Marked) (t : State) → Spends blank ms t
  unfolding rules_of record_of taken_if
  spent_first ms t n e o =
      rw (first_tag (split 9 p), append-nil ms) (spent_header t (rw (first_tag (split 9 p)) at n) (rw (first_tag (split 9 p)) at e) (rw (first_tag (split 9 p)) at o) ms)

  spent : (s : State) (ms : List Marked) → Stage limits s → (t : State) → (line_tag s (split 9 p) ≡ 69 → ⊥) → Spends s ms t
  spent s ms (inr b) t x n e o = spent_on s ms b t (line_tag s (split 9 p)) (stands s (split 9 p) (line_tag s (split 9 p)) refl) x n e o
  spent s ms (inl q) t x n e o = subst⁻¹ (λ (s : State). Spends s ms t) q (spent_first ms t) n e o

-- Two texts with the same first line

good_line : (rs : List Rule) (p : List ℕ) (rest : List (List ℕ)) → line_fault rs p rest ≡ None → (length (split 9 p) ≡ length rs) × (first_fault rs (split 9 p) ≡ None)
unfolding line_fault fields_fault
good_line rs p rest e =
    fields_count (length (split 9 p)) (length rs) (first_fault rs (split 9 p)) (line_fields (ltb 1024 (length p)) (is_last rest) (fields_fault rs (split 9 p)) e)

same_fault : (rs : List Rule) (p : List ℕ) (rest more : List (List ℕ)) → is_last rest ≡ is_last more → line_fault rs p rest ≡ line_fault rs p more
unfolding line_fault
same_fault rs p rest more e = rw e

module _ (limits : Limits) (s : State) (H : Held) (k : ℕ) (p : List ℕ) (rest more : List (List ℕ)) where
  same_line : is_last rest ≡ is_last more → nothing_left rest ≡ nothing_left more
      → (line_fault (rules_of (line_tag s (split 9 p)) limits s.sheet.header (split 9 p)) p more ≡ None → (line_tag s (split 9 p) ≡ 69 → ⊥) → (t : State) → taken_of s H.marks (record_of (line_tag s (split 9 p)) (split 9 p)) ≡ Ok t
      → (K : Held) → K.marks ≡ H.marks ++ marks_in s.sheet (line_tag s (split 9 p)) (split 9 p) → read_from limits t K (k + 1) rest ≡ read_from limits t K (k + 1) more)
      → read_from limits s H k (p ∷ rest) ≡ read_from limits s H k (p ∷ more)
  same_line a b ih =
      rw (same_fault (rules_of (line_tag s (split 9 p)) limits s.sheet.header (split 9 p)) p rest more a, b) (fault (line_fault (rules_of (line_tag s (split 9 p)) limits s.sheet.header (split 9 p)) p more) refl)
    where
      K : Held
      K = holding H s.sheet (line_tag s (split 9 p)) (rules_of (line_tag s (split 9 p)) limits s.sheet.header (split 9 p)) (split 9 p)

      E : Outcome Contents
      E = cond (nothing_left more) (contents s.sheet H) (Refused 7 (k + 1))

      taking : (x : Result State Refusal) → taken_of s H.marks (record_of (line_tag s (split 9 p)) (split 9 p)) ≡ x → line_fault (rules_of (line_tag s (split 9 p)) limits s.sheet.header (split 9 p)) p more ≡ None → (line_tag s (split 9 p) ≡ 69 → ⊥)
          → on_taken x k (λ t. read_from limits t K (k + 1) rest) ≡ on_taken x k (λ t. read_from limits t K (k + 1) more)
      taking (Ok t) q f g = ih f g t q K refl
      taking (Err j) q f g = refl

      tag : (x : Bool) → eqb (line_tag s (split 9 p)) 69 ≡ x → line_fault (rules_of (line_tag s (split 9 p)) limits s.sheet.header (split 9 p)) p more ≡ None
          → cond x E (on_taken (taken_of s H.marks (record_of (line_tag s (split 9 p)) (split 9 p))) k (λ t. read_from limits t K (k + 1) rest))
          ≡ cond x E (on_taken (taken_of s H.marks (record_of (line_tag s (split 9 p)) (split 9 p))) k (λ t. read_from limits t K (k + 1) more))
      tag true q f = refl
      tag false q f = taking (taken_of s H.marks (record_of (line_tag s (split 9 p)) (split 9 p))) refl f (eqb-false (line_tag s (split 9 p)) 69 q)

      fault : (x : Option ℕ) → line_fault (rules_of (line_tag s (split 9 p)) limits s.sheet.header (split 9 p)) p more ≡ x
          → on_fault x k (cond (eqb (line_tag s (split 9 p)) 69) E (on_taken (taken_of s H.marks (record_of (line_tag s (split 9 p)) (split 9 p))) k (λ t. read_from limits t K (k + 1) rest)))
          ≡ on_fault x k (cond (eqb (line_tag s (split 9 p)) 69) E (on_taken (taken_of s H.marks (record_of (line_tag s (split 9 p)) (split 9 p))) k (λ t. read_from limits t K (k + 1) more)))
      fault None q = tag (eqb (line_tag s (split 9 p)) 69) refl q
      fault (Some j) q = refl

-- The first bytes

before_part : (b m : ℕ) (l : List ℕ) → before b (take m l) ≡ take m (before b l)
before_part b zero l = refl
before_part b (suc m) [] = refl
before_part b (suc m) (x ∷ l) = two (eqb x b) (before_part b m l)
  where
    two : (t : Bool) → before b (take m l) ≡ take m (before b l) → cond t [] (x ∷ before b (take m l)) ≡ take (suc m) (cond t [] (x ∷ before b l))
    two true e = refl
    two false e = rw e

drop_part : (i m : ℕ) (l : List ℕ) → drop i (take (i + m) l) ≡ take m (drop i l)
drop_part zero m l = let e : 0 + m ≡ m = omega arith in rw e
drop_part (suc i) m [] = rw (take-nil {A = ℕ} (suc i + m), take-nil {A = ℕ} m)
drop_part (suc i) m (x ∷ l) = let e : suc i + m ≡ suc (i + m) = omega arith in rw e (drop_part i m l)

-- a line over 1,024 bytes, in sight or not
long_line : (limits : Limits) (s : State) (H : Held) (k : ℕ) (r : List ℕ) → 1024 < length (before 10 r) → read_from limits s H k (split 10 r) ≡ Refused 1 k
long_line limits s H k r h =
    ap (λ (ps : List (List ℕ)). read_from limits s H k ps) (split_head 10 r)
    ∙ line_long limits s H k (before 10 r) (drop 1 (split 10 r)) (read_from limits s H k (before 10 r ∷ drop 1 (split 10 r))) refl h

module _ (limits : Limits) (most : LegalLimits limits) (s : State) (H : Held) (k : ℕ) (r : List ℕ) (m : ℕ) (g : Stage limits s) (q : room limits s H.marks + 1026 ≤ m) (i : m < length r) where
  decides_long : 1024 < length (before 10 r) → read_from limits s H k (split 10 (take m r)) ≡ read_from limits s H k (split 10 r)
  decides_long h =
      long_line limits s H k (take m r) (rw (before_part 10 m r, length-take m (before 10 r)) (omega arith)) ∙ sym (long_line limits s H k r h)

  module _ (h : length (before 10 r) ≤ 1024) where
    rest-is : split 10 r ≡ before 10 r ∷ split 10 (drop (length (before 10 r) + 1) r)
    rest-is = split_cut 10 r (omega arith)

    part_is : split 10 (take m r) ≡ before 10 r ∷ split 10 (take (m - (length (before 10 r) + 1)) (drop (length (before 10 r) + 1) r))
    part_is =
        let p = before 10 r in
        let j = length p + 1 in
        let same : before 10 (take m r) ≡ p = before_part 10 m r ∙ take_all m p (omega arith) in
        let e : j + (m - j) ≡ m = omega arith in
        split_cut 10 (take m r) (rw (same, length-take-le m r (omega arith)) (omega arith))
        ∙ ap (λ (x : List ℕ). x ∷ split 10 (drop (length x + 1) (take m r))) same
        ∙ ap (λ (x : List ℕ). p ∷ split 10 x) (ap (λ (n : ℕ). drop j (take n r)) (sym e) ∙ drop_part j (m - j) r)

    decides-short :
        ((t : State) (K : Held) (n : ℕ) → On limits t → room limits t K.marks + 1026 ≤ n
        → read_from limits t K (k + 1) (split 10 (take n (drop (length (before 10 r) + 1) r))) ≡ read_from limits t K (k + 1) (split 10 (drop (length (before 10 r) + 1) r)))
        → read_from limits s H k (split 10 (take m r)) ≡ read_from limits s H k (split 10 r)
    decides-short ih =
        let p = before 10 r in
        let later = drop (length p + 1) r in
        let n = m - (length p + 1) in
        let some_left : 0 < length (take n later) = rw (length-take n later) (omega (arith, length-drop (length p + 1) r)) in
        ap (λ (ps : List (List ℕ)). read_from limits s H k ps) part_is
        ∙ same_line limits s H k p (split 10 (take n later)) (split 10 later) (not_last 10 (take n later) ∙ sym (not_last 10 later))
        (some_after 10 (take n later) some_left ∙ sym (some_after 10 later (omega (arith, length-drop (length p + 1) r))))
        (λ f x t o K z.
        let w = good_line (rules_of (line_tag s (split 9 p)) limits s.sheet.header (split 9 p)) p (split 10 later) f in
        let u = spent limits most p s H.marks g t x w.0 w.1 o in
        ih t K n u.stage (rw z (omega (arith, u.bytes))))
        ∙ ap (λ (ps : List (List ℕ)). read_from limits s H k ps) (sym rest-is)

decides_from : (limits : Limits) → LegalLimits limits → (fuel : ℕ) (s : State) (H : Held) (k : ℕ) (r : List ℕ) (m : ℕ) → length r ≤ fuel → Stage limits s → room limits s H.marks + 1026 ≤ m
    → read_from limits s H k (split 10 (take m r)) ≡ read_from limits s H k (split 10 r)
decides_from limits most zero s H k r m h g q = rw (take_all m r (omega arith))
decides_from limits most (suc fuel) s H k r m h g q =
    whole (leb (length r) m) (ltb 1024 (length (before 10 r))) refl refl
    (λ e t K n o b. decides_from limits most fuel t K (k + 1) (drop (length (before 10 r) + 1) r) n (omega (arith, length-drop (length (before 10 r) + 1) r)) (inr o) b)
  where
    whole : (b c : Bool) → leb (length r) m ≡ b → ltb 1024 (length (before 10 r)) ≡ c
        → (0 < length r → (t : State) (K : Held) (n : ℕ) → On limits t → room limits t K.marks + 1026 ≤ n
        → read_from limits t K (k + 1) (split 10 (take n (drop (length (before 10 r) + 1) r))) ≡ read_from limits t K (k + 1) (split 10 (drop (length (before 10 r) + 1) r)))
        → read_from limits s H k (split 10 (take m r)) ≡ read_from limits s H k (split 10 r)
    whole true c i x ih = rw (take_all m r (leb-true (length r) m i))
    whole false true i x ih = decides_long limits most s H k r m g q (leb-false (length r) m i) (ltb-true 1024 (length (before 10 r)) x)
    whole false false i x ih = decides-short limits most s H k r m g q (leb-false (length r) m i) (ltb-false 1024 (length (before 10 r)) x) (ih (omega (arith, leb-false (length r) m i)))

room_first : (limits : Limits) → room limits blank [] ≡ longest limits.side
unfolding blank
room_first limits = refl

-- The first `decisive` bytes of a text, or more, decide it
pub decides : (limits : Limits) (text : List ℕ) (n : ℕ) → decisive limits.side ≤ n → read_text limits (take n text) ≡ read_text limits text
unfolding read_text decisive
decides limits text n h = two (allowed limits) refl
  where
    two : (b : Bool) → allowed limits ≡ b
        → cond b (read_from limits blank nothing 1 (split 10 (take n text))) (Refused 2 0) ≡ cond b (read_from limits blank nothing 1 (split 10 text)) (Refused 2 0)
    two true e = decides_from limits (allowed_is limits e) (length text) blank nothing 1 text n (omega arith) (inl refl) (omega (arith, room_first limits))
    two false e = refl

-- No legal text is longer than `longest`

-- the end's line
end_bytes : (limits : Limits) (top : Header) (g : ℕ) (p : List ℕ) → g ≡ 69 → length (split 9 p) ≡ length (rules_of g limits top (split 9 p)) → first_fault (rules_of g limits top (split 9 p)) (split 9 p) ≡ None
    → length p + 1 ≤ 2
unfolding rules_of
end_bytes limits top g p q n e = row-bytes p (1 ∷ []) (one (split 9 p) (rw q at n) (rw q at e))
  where
    one : (fs : List (List ℕ)) → length fs ≡ 1 → first_fault (rule.Tag 69 ∷ []) fs ≡ None → Within fs (1 ∷ [])
    one [] l f = let y : ⊥ = omega arith in absurd y
    one (f ∷ []) l e = (tag_short f 69 (or_left (fault_in (field_of (rule.Tag 69) f)) None e), tt)
    one (f ∷ (h ∷ fs)) l e = let y : ⊥ = omega arith in absurd y

longest_some : (limits : Limits) → 2 ≤ longest limits.side
unfolding longest
longest_some limits = omega arith

room_some : (limits : Limits) (s : State) (ms : List Marked) → Stage limits s → 2 ≤ room limits s ms
unfolding blank
room_some limits s ms (inl q) = rw q (longest_some limits)
room_some limits s ms (inr b) = rw b.begun (omega arith)

-- one line, with the text after it
module _ (limits : Limits) (most : LegalLimits limits) (s : State) (H : Held) (k : ℕ) (p later : List ℕ) (C : Contents) (g : Stage limits s)
    (ih : (t : State) (K : Held) → On limits t → read_from limits t K (k + 1) (split 10 later) ≡ Gives C → length later ≤ room limits t K.marks) where
  none_left : (c : Bool) → ltb 0 (length later) ≡ c → nothing_left (split 10 later) ≡ true → length later ≤ 0
  none_left false w q = ltb-false 0 (length later) w
  none_left true w q = let z : ◌≡◌ {A = ℕ} 0 1 = cc (some_after 10 later (ltb-true 0 (length later) w)) in let y : ⊥ = omega arith in absurd y

  at-end : (b : Bool) → nothing_left (split 10 later) ≡ b → cond b (contents s.sheet H) (Refused 7 (k + 1)) ≡ Gives C → length later ≤ 0
  at-end true q o = none_left (ltb 0 (length later)) refl q
  at-end false q o = no_gives 7 (k + 1) C o

  module _ (n : length (split 9 p) ≡ length (rules_of (line_tag s (split 9 p)) limits s.sheet.header (split 9 p))) (f : first_fault (rules_of (line_tag s (split 9 p)) limits s.sheet.header (split 9 p)) (split 9 p) ≡ None)
      (K : Held) (z : K.marks ≡ H.marks ++ marks_in s.sheet (line_tag s (split 9 p)) (split 9 p)) where
    on_taking : (x : Result State Refusal) → taken_of s H.marks (record_of (line_tag s (split 9 p)) (split 9 p)) ≡ x → (line_tag s (split 9 p) ≡ 69 → ⊥)
        → on_taken x k (λ t. read_from limits t K (k + 1) (split 10 later)) ≡ Gives C → length p + 1 + length later ≤ room limits s H.marks
    on_taking (Ok t) q x o =
        let u = spent limits most p s H.marks g t x n f q in
        let i : length later ≤ room limits t (H.marks ++ marks_in s.sheet (line_tag s (split 9 p)) (split 9 p)) = rw z at (ih t K u.stage o) in
        omega (arith, u.bytes, i)
    on_taking (Err j) q x o = no_gives (table.number_of j) k C o

    on_tag : (b : Bool) → eqb (line_tag s (split 9 p)) 69 ≡ b
        → cond b (cond (nothing_left (split 10 later)) (contents s.sheet H) (Refused 7 (k + 1)))
        (on_taken (taken_of s H.marks (record_of (line_tag s (split 9 p)) (split 9 p))) k (λ t. read_from limits t K (k + 1) (split 10 later))) ≡ Gives C
        → length p + 1 + length later ≤ room limits s H.marks
    on_tag true q o =
        omega (arith, at-end (nothing_left (split 10 later)) refl o, end_bytes limits s.sheet.header (line_tag s (split 9 p)) p (eqb-true (line_tag s (split 9 p)) 69 q) n f, room_some limits s H.marks g)
    on_tag false q o = on_taking (taken_of s H.marks (record_of (line_tag s (split 9 p)) (split 9 p))) refl (eqb-false (line_tag s (split 9 p)) 69 q) o

  short_line : read_from limits s H k (p ∷ split 10 later) ≡ Gives C → length p + 1 + length later ≤ room limits s H.marks
  short_line e =
      let l = line-is (rules_of (line_tag s (split 9 p)) limits s.sheet.header (split 9 p)) k p (split 10 later) _ C e in
      on_tag l.count l.fault _ refl (eqb (line_tag s (split 9 p)) 69) refl l.more

-- an unended line is no legal text
pub not_unended : (limits : Limits) (s : State) (H : Held) (k : ℕ) (r : List ℕ) (C : Contents) {A : Type 0} → read_from limits s H k (r ∷ []) ≡ Gives C → A
unfolding line_fault
not_unended limits s H k r C e = two (ltb 1024 (length r)) _ e
  where
    two : {A : Type 0} (b : Bool) (X : Outcome Contents) → on_fault (cond b (Some 1) (Some 7)) k X ≡ Gives C → A
    two true X o = no_gives 1 k C o
    two false X o = no_gives 7 k C o

short_from : (limits : Limits) → LegalLimits limits → (fuel : ℕ) (s : State) (H : Held) (k : ℕ) (r : List ℕ) (C : Contents) → length r ≤ fuel → Stage limits s
    → read_from limits s H k (split 10 r) ≡ Gives C → length r ≤ room limits s H.marks
short_from limits most zero s H k r C h g e = omega (arith, room_some limits s H.marks g)
short_from limits most (suc fuel) s H k r C h g e =
    cut (leb (length r) (length (before 10 r))) refl
    (λ t K o. short_from limits most fuel t K (k + 1) (drop (length (before 10 r) + 1) r) C (omega (arith, length-drop (length (before 10 r) + 1) r)) (inr o))
  where
    cut : (b : Bool) → leb (length r) (length (before 10 r)) ≡ b
        → ((t : State) (K : Held) → On limits t → read_from limits t K (k + 1) (split 10 (drop (length (before 10 r) + 1) r)) ≡ Gives C
        → length (drop (length (before 10 r) + 1) r) ≤ room limits t K.marks) → length r ≤ room limits s H.marks
    cut true i ih =
        not_unended limits s H k r C
        (sym (ap (λ (ps : List (List ℕ)). read_from limits s H k ps) (split_whole 10 r (leb-true (length r) (length (before 10 r)) i))) ∙ e)
    cut false i ih =
        omega (
          arith,
          short_line limits most s H k (before 10 r) (drop (length (before 10 r) + 1) r) C g ih
              (sym (ap (λ (ps : List (List ℕ)). read_from limits s H k ps) (split_cut 10 r (leb-false (length r) (length (before 10 r)) i))) ∙ e),
          length-drop (length (before 10 r) + 1) r,
        )

pub at-most : (limits : Limits) (text : List ℕ) (C : Contents) → read_text limits text ≡ Gives C → length text ≤ longest limits.side
unfolding read_text
at-most limits text C e = two (allowed limits) refl e
  where
    two : (b : Bool) → allowed limits ≡ b → cond b (read_from limits blank nothing 1 (split 10 text)) (Refused 2 0) ≡ Gives C → length text ≤ longest limits.side
    two true q o = omega (arith, short_from limits (allowed_is limits q) (length text) blank nothing 1 text C (omega arith) (inl refl) o, room_first limits)
    two false q o = no_gives 2 0 C o
