-- The lines of blocks: B with 64 levels, which stand in the lows and in the highs, or G with 64 pairs.
use Rattle.std.proofs.Common.{None, Ok, Result}
use Rattle.refusal.specs.declared.Refusal.{Refusal}
use Prim.Native.Nat.{ℕ, zero, suc, ◌+◌, ◌*◌, ◌≤◌}
use mathlib.Core.Path.{◌≡◌, refl, sym, ap, ◌∙◌, subst, subst⁻¹}
use mathlib.Core.List.{List, [], ◌∷◌, ◌++◌, map, append-nil}
use mathlib.Core.Bool.{Bool, true, false}
use native.Mathlib.Omega.{arith}
use lib.Dec.{T, eqb}
use lib.ListN.{length, get_or, take, drop, replicate, length-drop}
use lib.Seq.{length-take-le, drop-drop, take-append-le, drop-append-le}
use lib.IntN.{ℤ}
use lib.Signed.{le_z, ≤ℤ_refl}
use Rattle.text.specs.declared.field.Rule.{Rule}
use Rattle.text.specs.declared.field.Rule.TheVariants as rule
use Rattle.text.specs.Pieces.{split}
use Rattle.text.specs.Levels.{level_of, level_value}
use Rattle.text.specs.Fields.{field_of, fault_in, lows_in, highs_in, tables_in}
use Rattle.text.specs.Written.{level_text}
use Rattle.digits.specs.Written.{joined, row_bytes}
use Rattle.text.proofs.FieldLaws.{level-of, low_of, high_of}
use Rattle.text.proofs.GoodLaws.{level_good, low_good, high_good}
use Rattle.text.proofs.SizeLaws.{tag_as}
use Rattle.text.proofs.SpellingLaws.{level_canonical, level_length}
use Rattle.text.proofs.JoinLaws.{Within, joined_length}
use Rattle.contents.specs.declared.Limits.{Limits}
use Rattle.contents.specs.declared.Header.{Header}
use Rattle.contents.specs.declared.Sheet.{Sheet}
use Rattle.contents.specs.Sheets.{lent, Held, held}
use Rattle.contents.specs.Legal.{LegalLevel, LegalLevels, LegalRanges, LegalKinds}
use Rattle.lines.specs.declared.Record.TheVariants as line
use Rattle.lines.specs.Lines.{block_rules, pair_rules, range_rules, rules_of, or_else, first_fault, line_adds, holding, record_of}
use Rattle.grammar.specs.Written.{pair_texts, block_fields}
use Rattle.grammar.specs.Longest.{block_sizes}
use Rattle.progress.proofs.StateLaws.{BlockTag}
use Rattle.progress.proofs.StateLaws.BlockTag.{B-tag, G-tag}
use Rattle.lines.proofs.GoodLines.{or_left, or_right, fault_at, fault_drop, lows_skip, highs_skip, tables_without, tables_skip, field_at, row_as}

-- a legal block
pub record Block (r : Bool) (ls hs : List ℤ) : Type 0 where
  pub low_count : length ls ≡ 64
  pub high_count : length hs ≡ 64
  pub lows : LegalLevels ls
  pub highs : LegalLevels hs
  pub ranges : LegalRanges ls hs
  pub alike : r ≡ false → ls ≡ hs

-- what is held, and a block more
abbrev pub with_block : Held → Bool → List ℤ → List ℤ → Held
with_block H r ls hs = held (lent (H.lent.lows ++ ls) (H.lent.highs ++ hs) H.lent.tables) (H.ranged ++ r ∷ []) H.marks

-- n good levels
record Levels (n : ℕ) (fs : List (List ℕ)) : Type 0 where
  zs : List ℤ
  count : length zs ≡ n
  legal : LegalLevels zs
  texts : map level_text zs ≡ fs
  lows : line_adds lows_in (replicate n rule.Level) fs ≡ zs
  highs : line_adds highs_in (replicate n rule.Level) fs ≡ zs

module _ (n : ℕ) (f : List ℕ) (fs : List (List ℕ)) (r : Levels n fs) (z : ℤ) (e : level_of f ≡ Ok z) (l : LegalLevel z) where
  level_more : Levels (suc n) (f ∷ fs)
  level_more =
      let t = level_canonical f z e in
      record {
        zs = z ∷ r.zs;
        count = ap suc r.count;
        legal = (l, r.legal);
        texts = λ i. t i ∷ r.texts i;
        lows = rw (level-of f z e) (ap (λ (x : List ℤ). z ∷ x) r.lows);
        highs = rw (level-of f z e) (ap (λ (x : List ℤ). z ∷ x) r.highs);
      }

levels_line : (n : ℕ) (fs : List (List ℕ)) → length fs ≡ n → first_fault (replicate n rule.Level) fs ≡ None → Levels n fs
levels_line zero [] h e = record { zs = []; count = refl; legal = tt; texts = refl; lows = refl; highs = refl }
levels_line zero (f ∷ fs) h e = let y : ⊥ = omega arith in absurd y
levels_line (suc n) [] h e = let y : ⊥ = omega arith in absurd y
levels_line (suc n) (f ∷ fs) h e =
    let rest = first_fault (replicate n rule.Level) fs in
    let g = level_good f (or_left (fault_in (field_of rule.Level f)) rest e) in
    level_more n f fs (levels_line n fs (omega arith) (or_right (fault_in (field_of rule.Level f)) rest e)) g.0 g.1 g.2

-- a level is no lower than itself
pub itself : (z : ℤ) → le_z z z ≡ true
itself z = yes (le_z z z) (≤ℤ_refl z).le
  where
    yes : (b : Bool) → T b → b ≡ true
    yes true t = refl
    yes false t = absurd t

pub same_ranges : (zs : List ℤ) → LegalRanges zs zs
same_ranges [] = tt
same_ranges (z ∷ zs) = (itself z, same_ranges zs)

-- n good pairs
record Pairs (n : ℕ) (fs : List (List ℕ)) : Type 0 where
  ls : List ℤ
  hs : List ℤ
  low_count : length ls ≡ n
  high_count : length hs ≡ n
  low_legal : LegalLevels ls
  high_legal : LegalLevels hs
  ranges : LegalRanges ls hs
  texts : pair_texts ls hs ≡ fs
  lows : line_adds lows_in (pair_rules n fs) fs ≡ ls
  highs : line_adds highs_in (pair_rules n fs) fs ≡ hs
  tables : line_adds tables_in (pair_rules n fs) fs ≡ []

module _ (n : ℕ) (f g : List ℕ) (fs : List (List ℕ)) (r : Pairs n fs) (z : ℤ) (e : level_of f ≡ Ok z) (l : LegalLevel z) (y : ℤ) (q : level_of g ≡ Ok y) (m : LegalLevel y)
    (o : le_z z y ≡ true) where
  pair_more : Pairs (suc n) (f ∷ (g ∷ fs))
  pair_more =
      let t = level_canonical f z e in
      let u = level_canonical g y q in
      record {
        ls = z ∷ r.ls;
        hs = y ∷ r.hs;
        low_count = ap suc r.low_count;
        high_count = ap suc r.high_count;
        low_legal = (l, r.low_legal);
        high_legal = (m, r.high_legal);
        ranges = (o, r.ranges);
        texts = λ i. t i ∷ u i ∷ r.texts i;
        lows = rw (low_of f z e, e, high_of g y q z o) (ap (λ (x : List ℤ). z ∷ x) r.lows);
        highs = rw (low_of f z e, e, high_of g y q z o) (ap (λ (x : List ℤ). y ∷ x) r.highs);
        tables = rw (low_of f z e, e, high_of g y q z o) r.tables;
      }

pairs_line : (n : ℕ) (fs : List (List ℕ)) → length fs ≡ 2 * n → first_fault (pair_rules n fs) fs ≡ None → Pairs n fs
pairs_line zero [] h e =
    record { ls = []; hs = []; low_count = refl; high_count = refl; low_legal = tt; high_legal = tt; ranges = tt; texts = refl; lows = refl; highs = refl; tables = refl }
pairs_line zero (f ∷ fs) h e = let y : ⊥ = omega arith in absurd y
pairs_line (suc n) [] h e = let y : ⊥ = omega arith in absurd y
pairs_line (suc n) (f ∷ []) h e = let y : ⊥ = omega arith in absurd y
pairs_line (suc n) (f ∷ (g ∷ fs)) h e =
    let low = level_value (level_of f) in
    let rest = first_fault (pair_rules n fs) fs in
    let high = fault_in (field_of (rule.High low) g) in
    let a = low_good f (or_left (fault_in (field_of rule.Low f)) (or_else high rest) e) in
    let w = or_right (fault_in (field_of rule.Low f)) (or_else high rest) e in
    let b = high_good low g (or_left high rest w) in
    pair_more n f g fs (pairs_line n fs (omega arith) (or_right high rest w)) a.0 a.1 a.2 b.0 b.1 b.2
    (ap (λ (r : Result ℤ Refusal). le_z (level_value r) b.0) (sym a.1) ∙ b.3)

-- A good line of a block: what it says, that it is written so, and what it adds to what is held
pub record BlockSaid (r : Bool) (g : ℕ) (rs : List Rule) (p : List ℕ) : Type 0 where
  pub ls : List ℤ
  pub hs : List ℤ
  pub block : Block r ls hs
  pub row : joined (block_fields r ls hs) ≡ p
  pub holds : (H : Held) (s : Sheet) → holding H s g rs (split 9 p) ≡ with_block H r ls hs

one_level : (p : List ℕ) → length (split 9 p) ≡ 65 → first_fault block_rules (split 9 p) ≡ None → BlockSaid false 66 block_rules p
one_level p n e =
    let fs = split 9 p in
    let a = levels_line 64 (drop 1 fs) (length-drop 1 fs ∙ omega arith) (fault_drop 1 block_rules fs e) in
    record {
      ls = a.zs;
      hs = a.zs;
      block = record { low_count = a.count; high_count = a.count; lows = a.legal; highs = a.legal; ranges = same_ranges a.zs; alike = λ q. refl };
      row = row_as p (block_fields false a.zs a.zs) (field_at fs 0 _ _ (omega arith) (tag_as (get_or fs 0 []) 66 (fault_at block_rules fs 0 e (omega arith) (omega arith))) a.texts);
      holds = λ H s.
          rw (
            lows_skip (rule.Tag 66 ∷ []) (replicate 64 rule.Level) fs refl,
            highs_skip (rule.Tag 66 ∷ []) (replicate 64 rule.Level) fs refl,
            tables_without block_rules fs refl,
            a.lows,
            a.highs,
            append-nil H.lent.tables,
            append-nil H.marks,
          );
    }

one_range : (p : List ℕ) → length (split 9 p) ≡ 129 → first_fault (range_rules (split 9 p)) (split 9 p) ≡ None → BlockSaid true 71 (range_rules (split 9 p)) p
one_range p n e =
    let fs = split 9 p in
    let a = pairs_line 64 (drop 1 fs) (length-drop 1 fs ∙ omega arith) (fault_drop 1 (range_rules fs) fs e) in
    record {
      ls = a.ls;
      hs = a.hs;
      block = record { low_count = a.low_count; high_count = a.high_count; lows = a.low_legal; highs = a.high_legal; ranges = a.ranges; alike = λ q. let z : ◌≡◌ {A = ℕ} 0 1 = cc in let y : ⊥ = omega arith in absurd y };
      row = row_as p (block_fields true a.ls a.hs) (field_at fs 0 _ _ (omega arith) (tag_as (get_or fs 0 []) 71 (fault_at (range_rules fs) fs 0 e (omega arith) (omega arith))) a.texts);
      holds = λ H s.
          rw (
            lows_skip (rule.Tag 71 ∷ []) (pair_rules 64 (drop 1 fs)) fs refl,
            highs_skip (rule.Tag 71 ∷ []) (pair_rules 64 (drop 1 fs)) fs refl,
            tables_skip (rule.Tag 71 ∷ []) (pair_rules 64 (drop 1 fs)) fs refl,
            a.lows,
            a.highs,
            a.tables,
            append-nil H.lent.tables,
            append-nil H.marks,
          );
    }

pub said_block : (r : Bool) (g : ℕ) (limits : Limits) (top : Header) (p : List ℕ) → BlockTag r g
    → length (split 9 p) ≡ length (rules_of g limits top (split 9 p)) → first_fault (rules_of g limits top (split 9 p)) (split 9 p) ≡ None
    → BlockSaid r g (rules_of g limits top (split 9 p)) p
unfolding rules_of
said_block r g limits top p (B-tag q t) n e =
    subst⁻¹ (λ (r : Bool). BlockSaid r g (rules_of g limits top (split 9 p)) p) q
    (subst⁻¹ (λ (g : ℕ). BlockSaid false g (rules_of g limits top (split 9 p)) p) t (one_level p (rw t at n) (rw t at e)))
said_block r g limits top p (G-tag q t) n e =
    subst⁻¹ (λ (r : Bool). BlockSaid r g (rules_of g limits top (split 9 p)) p) q
    (subst⁻¹ (λ (g : ℕ). BlockSaid true g (rules_of g limits top (split 9 p)) p) t (one_range p (rw t at n) (rw t at e)))

pub block_no_end : (r : Bool) (g : ℕ) → BlockTag r g → eqb g 69 ≡ false
block_no_end r g (B-tag q t) = rw t
block_no_end r g (G-tag q t) = rw t

pub block_record : (r : Bool) (g : ℕ) (fs : List (List ℕ)) → BlockTag r g → record_of g fs ≡ line.Block
unfolding record_of
block_record r g fs (B-tag q t) = rw t
block_record r g fs (G-tag q t) = rw t

-- A block's line has few bytes

all_short : (zs : List ℤ) → LegalLevels zs → Within (map level_text zs) (replicate (length zs) 5)
all_short [] l = tt
all_short (z ∷ zs) l = (level_length z l.0, all_short zs l.1)

abbrev pair_sizes : ℕ → List ℕ
pair_sizes zero = []
pair_sizes (suc n) = 5 ∷ 5 ∷ pair_sizes n

pairs_short : (ls hs : List ℤ) → length ls ≡ length hs → LegalLevels ls → LegalLevels hs → Within (pair_texts ls hs) (pair_sizes (length ls))
pairs_short [] hs n l m = tt
pairs_short (z ∷ ls) [] n l m = let y : ⊥ = omega arith in absurd y
pairs_short (z ∷ ls) (y ∷ hs) n l m = (level_length z l.0, (level_length y m.0, pairs_short ls hs (omega arith) l.1 m.1))

pub block_bytes : (r : Bool) (ls hs : List ℤ) → Block r ls hs → length (joined (block_fields r ls hs)) + 1 ≤ row_bytes block_sizes
block_bytes false ls hs b = omega (arith, joined_length (block_fields false ls hs) (1 ∷ replicate 64 5) (omega arith) (omega arith, rw b.low_count at (all_short ls b.lows)))
block_bytes true ls hs b =
    omega (arith, joined_length (block_fields true ls hs) (1 ∷ pair_sizes 64) (omega arith) (omega arith, rw b.low_count at (pairs_short ls hs (b.low_count ∙ sym b.high_count) b.lows b.highs)))

-- Parts of lists of levels

pub take_levels : (n : ℕ) (ls : List ℤ) → LegalLevels ls → LegalLevels (take n ls)
take_levels zero ls l = tt
take_levels (suc n) [] l = tt
take_levels (suc n) (z ∷ ls) l = (l.0, take_levels n ls l.1)

pub drop_levels : (n : ℕ) (ls : List ℤ) → LegalLevels ls → LegalLevels (drop n ls)
drop_levels zero ls l = l
drop_levels (suc n) [] l = tt
drop_levels (suc n) (z ∷ ls) l = drop_levels n ls l.1

pub take_ranges : (n : ℕ) (ls hs : List ℤ) → LegalRanges ls hs → LegalRanges (take n ls) (take n hs)
take_ranges zero ls hs l = tt
take_ranges (suc n) [] hs l = tt
take_ranges (suc n) (z ∷ ls) [] l = tt
take_ranges (suc n) (z ∷ ls) (y ∷ hs) l = (l.0, take_ranges n ls hs l.1)

no_ranges : (ls : List ℤ) → LegalRanges ls []
no_ranges [] = tt
no_ranges (z ∷ ls) = tt

pub drop_ranges : (n : ℕ) (ls hs : List ℤ) → LegalRanges ls hs → LegalRanges (drop n ls) (drop n hs)
drop_ranges zero ls hs l = l
drop_ranges (suc n) [] hs l = tt
drop_ranges (suc n) (z ∷ ls) [] l = no_ranges (drop n ls)
drop_ranges (suc n) (z ∷ ls) (y ∷ hs) l = drop_ranges n ls hs l.1

pub more_levels : (xs ys : List ℤ) → LegalLevels xs → LegalLevels ys → LegalLevels (xs ++ ys)
more_levels [] ys a b = b
more_levels (z ∷ xs) ys a b = (a.0, more_levels xs ys a.1 b)

pub more_ranges : (ls hs xs ys : List ℤ) → length ls ≡ length hs → LegalRanges ls hs → LegalRanges xs ys → LegalRanges (ls ++ xs) (hs ++ ys)
more_ranges [] [] xs ys n a b = b
more_ranges [] (y ∷ hs) xs ys n a b = let w : ⊥ = omega arith in absurd w
more_ranges (z ∷ ls) [] xs ys n a b = let w : ⊥ = omega arith in absurd w
more_ranges (z ∷ ls) (y ∷ hs) xs ys n a b = (a.0, more_ranges ls hs xs ys (omega arith) a.1 b)

pub same_kinds : (rs : List Bool) {xs ys us vs : List ℤ} → xs ≡ us → ys ≡ vs → LegalKinds rs xs ys → LegalKinds rs us vs
same_kinds rs {xs} {ys} {us} {vs} p q k = subst (λ (y : List ℤ). LegalKinds rs us y) q (subst (λ (x : List ℤ). LegalKinds rs x ys) p k)

-- the kinds of the first blocks, and of those after them
pub kinds_take : (n : ℕ) (rs : List Bool) (ls hs : List ℤ) → LegalKinds rs ls hs → LegalKinds (take n rs) ls hs
kinds_take zero rs ls hs k = tt
kinds_take (suc n) [] ls hs k = tt
kinds_take (suc n) (r ∷ rs) ls hs k = (k.0, kinds_take n rs (drop 64 ls) (drop 64 hs) k.1)

pub kinds_drop : (n : ℕ) (rs : List Bool) (ls hs : List ℤ) → LegalKinds rs ls hs → LegalKinds (drop n rs) (drop (64 * n) ls) (drop (64 * n) hs)
kinds_drop zero rs ls hs k = k
kinds_drop (suc n) [] ls hs k = tt
kinds_drop (suc n) (r ∷ rs) ls hs k =
    let e : 64 + 64 * n ≡ 64 * suc n = omega arith in
    let l : drop (64 * n) (drop 64 ls) ≡ drop (64 * suc n) ls = drop-drop (64 * n) 64 ls ∙ ap (λ (m : ℕ). drop m ls) e in
    let h : drop (64 * n) (drop 64 hs) ≡ drop (64 * suc n) hs = drop-drop (64 * n) 64 hs ∙ ap (λ (m : ℕ). drop m hs) e in
    same_kinds (drop n rs) l h (kinds_drop n rs (drop 64 ls) (drop 64 hs) k.1)

-- one block more
pub more_kinds : (rs : List Bool) (ls hs : List ℤ) (r : Bool) (xs ys : List ℤ) → length ls ≡ 64 * length rs → length hs ≡ 64 * length rs → LegalKinds rs ls hs → (r ≡ false → xs ≡ ys)
    → LegalKinds (rs ++ r ∷ []) (ls ++ xs) (hs ++ ys)
more_kinds [] [] [] r xs ys n m k a = (λ e. ap (λ (l : List ℤ). take 64 l) (a e), tt)
more_kinds [] [] (y ∷ hs) r xs ys n m k a = let w : ⊥ = omega arith in absurd w
more_kinds [] (z ∷ ls) hs r xs ys n m k a = let w : ⊥ = omega arith in absurd w
more_kinds (x ∷ rs) ls hs r xs ys n m k a =
    let p : 64 ≤ length ls = omega arith in
    let q : 64 ≤ length hs = omega arith in (
      λ e. take-append-le 64 ls xs p ∙ k.0 e ∙ sym (take-append-le 64 hs ys q),
      same_kinds (rs ++ r ∷ []) (sym (drop-append-le 64 ls xs p)) (sym (drop-append-le 64 hs ys q))
          (more_kinds rs (drop 64 ls) (drop 64 hs) r xs ys (length-drop 64 ls ∙ omega arith) (length-drop 64 hs ∙ omega arith) k.1 a),
    )

-- the first block
pub block_first : (r : Bool) (rs : List Bool) (ls hs : List ℤ) → 64 ≤ length ls → 64 ≤ length hs → LegalLevels ls → LegalLevels hs → LegalRanges ls hs → LegalKinds (r ∷ rs) ls hs
    → Block r (take 64 ls) (take 64 hs)
block_first r rs ls hs n m l h o k =
    record {
      low_count = length-take-le 64 ls n;
      high_count = length-take-le 64 hs m;
      lows = take_levels 64 ls l;
      highs = take_levels 64 hs h;
      ranges = take_ranges 64 ls hs o;
      alike = k.0;
    }
