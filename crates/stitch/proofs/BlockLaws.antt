-- The lines of blocks, and what is legal of them, joined row by row.
use Prim.Native.Nat.{ℕ, zero, suc, ◌+◌, ◌-◌, ◌*◌, ◌≤◌}
use mathlib.Core.Path.{◌≡◌, refl, sym, ap, ◌∙◌, subst}
use mathlib.Core.List.{List, [], ◌∷◌, ◌++◌}
use mathlib.Core.Bool.{Bool}
use native.Mathlib.Omega.{arith}
use lib.IntN.{ℤ}
use lib.ListN.{length, take, drop, length-append, length-drop, take-append-drop}
use lib.Seq.{length-take-le, take-append-le, drop-append-le, take-take, drop-drop}
use Rattle.contents.specs.declared.Channel.{Channel}
use Rattle.contents.specs.Legal.{LegalLevels, LegalRanges, LegalKinds}
use Rattle.digits.specs.Written.{joined}
use Rattle.grammar.specs.Written.{block_fields, block_lines}
use Rattle.grammar.proofs.BlockLaws.{take_levels, drop_levels, take_ranges, drop_ranges, more_levels, more_ranges, same_kinds, kinds_drop}
use Rattle.contents.specs.Marks.{blocks_in}
use Rattle.stitch.specs.Stitched.{rows_in, columns_in, weave, woven}
use Rattle.stitch.proofs.WeaveLaws.{drop-take}

-- Lines

pub blocks_length : (rs : List Bool) (ls hs : List ℤ) → length (block_lines rs ls hs) ≡ length rs
blocks_length [] ls hs = refl
blocks_length (r ∷ rs) ls hs = ap suc (blocks_length rs (drop 64 ls) (drop 64 hs))

-- so many levels for a block more
more : (n : ℕ) → 64 * suc n ≡ 64 + 64 * n
more n = omega arith

module _ {A : Type 0} where
  first_block : (n : ℕ) (xs : List A) → take 64 (take (64 * suc n) xs) ≡ take 64 xs
  first_block n xs = take-take 64 (64 * suc n) xs (omega arith)

  later_blocks : (n : ℕ) (xs : List A) → drop 64 (take (64 * suc n) xs) ≡ take (64 * n) (drop 64 xs)
  later_blocks n xs = ap (λ (k : ℕ). drop 64 (take k xs)) (more n) ∙ drop-take 64 (64 * n) xs

  past_blocks : (n : ℕ) (xs : List A) → drop (64 * n) (drop 64 xs) ≡ drop (64 * suc n) xs
  past_blocks n xs = drop-drop (64 * n) 64 xs ∙ ap (λ (k : ℕ). drop k xs) (sym (more n))

pub blocks_take : (n : ℕ) (rs : List Bool) (ls hs : List ℤ) → take n (block_lines rs ls hs) ≡ block_lines (take n rs) (take (64 * n) ls) (take (64 * n) hs)
blocks_take zero rs ls hs = refl
blocks_take (suc n) [] ls hs = refl
blocks_take (suc n) (r ∷ rs) ls hs =
    ap (λ (k : List (List ℕ)). joined (block_fields r (take 64 ls) (take 64 hs)) ∷ k) (blocks_take n rs (drop 64 ls) (drop 64 hs))
    ∙ (λ i. joined (block_fields r (sym (first_block n ls) i) (sym (first_block n hs) i)) ∷ block_lines (take n rs) (sym (later_blocks n ls) i) (sym (later_blocks n hs) i))

-- the lines of the first blocks need no other levels
pub blocks_first : (n : ℕ) (rs : List Bool) (ls hs : List ℤ) → block_lines (take n rs) ls hs ≡ take n (block_lines rs ls hs)
blocks_first zero rs ls hs = refl
blocks_first (suc n) [] ls hs = refl
blocks_first (suc n) (r ∷ rs) ls hs = ap (λ (k : List (List ℕ)). joined (block_fields r (take 64 ls) (take 64 hs)) ∷ k) (blocks_first n rs (drop 64 ls) (drop 64 hs))

pub blocks_drop : (n : ℕ) (rs : List Bool) (ls hs : List ℤ) → drop n (block_lines rs ls hs) ≡ block_lines (drop n rs) (drop (64 * n) ls) (drop (64 * n) hs)
blocks_drop zero rs ls hs = refl
blocks_drop (suc n) [] ls hs = refl
blocks_drop (suc n) (r ∷ rs) ls hs = blocks_drop n rs (drop 64 ls) (drop 64 hs) ∙ (λ i. block_lines (drop n rs) (past_blocks n ls i) (past_blocks n hs i))

pub blocks_both : (rs : List Bool) (ls hs : List ℤ) (qs : List Bool) (xs ys : List ℤ) → length ls ≡ 64 * length rs → length hs ≡ 64 * length rs
    → block_lines (rs ++ qs) (ls ++ xs) (hs ++ ys) ≡ block_lines rs ls hs ++ block_lines qs xs ys
blocks_both [] [] [] qs xs ys n m = refl
blocks_both [] [] (y ∷ hs) qs xs ys n m = absurd (omega arith)
blocks_both [] (z ∷ ls) hs qs xs ys n m = absurd (omega arith)
blocks_both (r ∷ rs) ls hs qs xs ys n m =
    let p : 64 ≤ length ls = omega arith in
    let q : 64 ≤ length hs = omega arith in
    (λ i. joined (block_fields r (take-append-le 64 ls xs p i) (take-append-le 64 hs ys q i)) ∷ block_lines (rs ++ qs) (drop-append-le 64 ls xs p i) (drop-append-le 64 hs ys q i))
    ∙ ap (λ (k : List (List ℕ)). joined (block_fields r (take 64 ls) (take 64 hs)) ∷ k)
    (blocks_both rs (drop 64 ls) (drop 64 hs) qs xs ys (length-drop 64 ls ∙ omega arith) (length-drop 64 hs ∙ omega arith))

-- n blocks, with their levels
pub record Enough (n : ℕ) (rs : List Bool) (ls hs : List ℤ) : Type 0 where
  pub kinds : n ≤ length rs
  pub lows : 64 * n ≤ length ls
  pub highs : 64 * n ≤ length hs

enough_less : {n m : ℕ} {rs : List Bool} {ls hs : List ℤ} → n ≤ m → Enough m rs ls hs → Enough n rs ls hs
enough_less h e = record { kinds = omega (arith, e.kinds); lows = omega (arith, e.lows); highs = omega (arith, e.highs) }

enough_drop : (n m : ℕ) (rs : List Bool) (ls hs : List ℤ) → Enough (n + m) rs ls hs → Enough m (drop n rs) (drop (64 * n) ls) (drop (64 * n) hs)
enough_drop n m rs ls hs e =
    record {
      kinds = rw (length-drop n rs) (omega (arith, e.kinds));
      lows = rw (length-drop (64 * n) ls) (omega (arith, e.lows));
      highs = rw (length-drop (64 * n) hs) (omega (arith, e.highs));
    }

-- the first n of them, before others
part_both : (n : ℕ) (rs : List Bool) (ls hs : List ℤ) (qs : List Bool) (xs ys : List ℤ) → Enough n rs ls hs
    → block_lines (take n rs ++ qs) (take (64 * n) ls ++ xs) (take (64 * n) hs ++ ys) ≡ take n (block_lines rs ls hs) ++ block_lines qs xs ys
part_both n rs ls hs qs xs ys e =
    let p = length-take-le n rs e.kinds in
    blocks_both (take n rs) (take (64 * n) ls) (take (64 * n) hs) qs xs ys (length-take-le (64 * n) ls e.lows ∙ ap (λ (k : ℕ). 64 * k) (sym p))
    (length-take-le (64 * n) hs e.highs ∙ ap (λ (k : ℕ). 64 * k) (sym p))
    ∙ ap (λ (k : List (List ℕ)). k ++ block_lines qs xs ys) (sym (blocks_take n rs ls hs))

-- the lines of blocks that are joined row by row are their lines joined row by row
pub blocks_weave : (n a b : ℕ) (rs : List Bool) (ls hs : List ℤ) (qs : List Bool) (xs ys : List ℤ) → Enough (n * a) rs ls hs → Enough (n * b) qs xs ys
    → block_lines (weave n a b rs qs) (weave n (64 * a) (64 * b) ls xs) (weave n (64 * a) (64 * b) hs ys) ≡ weave n a b (block_lines rs ls hs) (block_lines qs xs ys)
blocks_weave zero a b rs ls hs qs xs ys e f = refl
blocks_weave (suc n) a b rs ls hs qs xs ys e f =
    let u : suc n * a ≡ a + n * a = omega arith in
    let v : suc n * b ≡ b + n * b = omega arith in
    let p : a ≤ suc n * a = omega arith in
    let q : b ≤ suc n * b = omega arith in
    let R = weave n a b (drop a rs) (drop b qs) in
    let L = weave n (64 * a) (64 * b) (drop (64 * a) ls) (drop (64 * b) xs) in
    let H = weave n (64 * a) (64 * b) (drop (64 * a) hs) (drop (64 * b) ys) in
    let o = blocks_weave n a b (drop a rs) (drop (64 * a) ls) (drop (64 * a) hs) (drop b qs) (drop (64 * b) xs) (drop (64 * b) ys)
    (enough_drop a (n * a) rs ls hs (subst (λ (k : ℕ). Enough k rs ls hs) u e)) (enough_drop b (n * b) qs xs ys (subst (λ (k : ℕ). Enough k qs xs ys) v f)) in
    part_both a rs ls hs (take b qs ++ R) (take (64 * b) xs ++ L) (take (64 * b) ys ++ H) (enough_less p e)
    ∙ ap (λ (k : List (List ℕ)). take a (block_lines rs ls hs) ++ k) (part_both b qs xs ys R L H (enough_less q f))
    ∙ ap (λ (k : List (List ℕ)). take a (block_lines rs ls hs) ++ (take b (block_lines qs xs ys) ++ k)) o
    ∙ (λ i. take a (block_lines rs ls hs) ++ (take b (block_lines qs xs ys) ++ weave n a b (sym (blocks_drop a rs ls hs) i) (sym (blocks_drop b qs xs ys) i)))

-- What is legal of blocks of these kinds

pub record Good (rs : List Bool) (ls hs : List ℤ) : Type 0 where
  pub low_count : length ls ≡ 64 * length rs
  pub high_count : length hs ≡ 64 * length rs
  pub lows : LegalLevels ls
  pub highs : LegalLevels hs
  pub ranges : LegalRanges ls hs
  pub kinds : LegalKinds rs ls hs

pub good_none : Good [] [] []
good_none = record { low_count = refl; high_count = refl; lows = tt; highs = tt; ranges = tt; kinds = tt }

kinds_first : (n : ℕ) (rs : List Bool) (ls hs : List ℤ) → LegalKinds rs ls hs → LegalKinds (take n rs) (take (64 * n) ls) (take (64 * n) hs)
kinds_first zero rs ls hs k = tt
kinds_first (suc n) [] ls hs k = tt
kinds_first (suc n) (r ∷ rs) ls hs k = (
  λ e. first_block n ls ∙ k.0 e ∙ sym (first_block n hs),
  same_kinds (take n rs) (sym (later_blocks n ls)) (sym (later_blocks n hs)) (kinds_first n rs (drop 64 ls) (drop 64 hs) k.1),
)

kinds_both : (rs : List Bool) (ls hs : List ℤ) (qs : List Bool) (xs ys : List ℤ) → length ls ≡ 64 * length rs → length hs ≡ 64 * length rs → LegalKinds rs ls hs → LegalKinds qs xs ys
    → LegalKinds (rs ++ qs) (ls ++ xs) (hs ++ ys)
kinds_both [] [] [] qs xs ys n m k l = l
kinds_both [] [] (y ∷ hs) qs xs ys n m k l = absurd (omega arith)
kinds_both [] (z ∷ ls) hs qs xs ys n m k l = absurd (omega arith)
kinds_both (r ∷ rs) ls hs qs xs ys n m k l =
    let p : 64 ≤ length ls = omega arith in
    let q : 64 ≤ length hs = omega arith in (
      λ e. take-append-le 64 ls xs p ∙ k.0 e ∙ sym (take-append-le 64 hs ys q),
      same_kinds (rs ++ qs) (sym (drop-append-le 64 ls xs p)) (sym (drop-append-le 64 hs ys q))
          (kinds_both rs (drop 64 ls) (drop 64 hs) qs xs ys (length-drop 64 ls ∙ omega arith) (length-drop 64 hs ∙ omega arith) k.1 l),
    )

len_take : {A : Type 0} (k : ℕ) (l : List A) → length (take k l) ≡ length l - (length l - k)
len_take k l = omega (arith, ap length (take-append-drop k l), length-append (take k l) (drop k l), length-drop k l)

count_first : {A B : Type 0} (n : ℕ) (rs : List A) (ls : List B) → length ls ≡ 64 * length rs → length (take (64 * n) ls) ≡ 64 * length (take n rs)
count_first n rs ls e = omega (arith, len_take (64 * n) ls, len_take n rs, e)

count_later : {A B : Type 0} (n : ℕ) (rs : List A) (ls : List B) → length ls ≡ 64 * length rs → length (drop (64 * n) ls) ≡ 64 * length (drop n rs)
count_later n rs ls e = omega (arith, length-drop (64 * n) ls, length-drop n rs, e)

pub good_take : (n : ℕ) (rs : List Bool) (ls hs : List ℤ) → Good rs ls hs → Good (take n rs) (take (64 * n) ls) (take (64 * n) hs)
good_take n rs ls hs g =
    record {
      low_count = count_first n rs ls g.low_count;
      high_count = count_first n rs hs g.high_count;
      lows = take_levels (64 * n) ls g.lows;
      highs = take_levels (64 * n) hs g.highs;
      ranges = take_ranges (64 * n) ls hs g.ranges;
      kinds = kinds_first n rs ls hs g.kinds;
    }

pub good_drop : (n : ℕ) (rs : List Bool) (ls hs : List ℤ) → Good rs ls hs → Good (drop n rs) (drop (64 * n) ls) (drop (64 * n) hs)
good_drop n rs ls hs g =
    record {
      low_count = count_later n rs ls g.low_count;
      high_count = count_later n rs hs g.high_count;
      lows = drop_levels (64 * n) ls g.lows;
      highs = drop_levels (64 * n) hs g.highs;
      ranges = drop_ranges (64 * n) ls hs g.ranges;
      kinds = kinds_drop n rs ls hs g.kinds;
    }

good_both : (rs : List Bool) (ls hs : List ℤ) (qs : List Bool) (xs ys : List ℤ) → Good rs ls hs → Good qs xs ys → Good (rs ++ qs) (ls ++ xs) (hs ++ ys)
good_both rs ls hs qs xs ys g k =
    record {
      low_count = omega (arith, length-append ls xs, length-append rs qs, g.low_count, k.low_count);
      high_count = omega (arith, length-append hs ys, length-append rs qs, g.high_count, k.high_count);
      lows = more_levels ls xs g.lows k.lows;
      highs = more_levels hs ys g.highs k.highs;
      ranges = more_ranges ls hs xs ys (g.low_count ∙ sym g.high_count) g.ranges k.ranges;
      kinds = kinds_both rs ls hs qs xs ys g.low_count g.high_count g.kinds k.kinds;
    }

good_weave : (n a b : ℕ) (rs : List Bool) (ls hs : List ℤ) (qs : List Bool) (xs ys : List ℤ) → Good rs ls hs → Good qs xs ys
    → Good (weave n a b rs qs) (weave n (64 * a) (64 * b) ls xs) (weave n (64 * a) (64 * b) hs ys)
good_weave zero a b rs ls hs qs xs ys g k = good_none
good_weave (suc n) a b rs ls hs qs xs ys g k =
    good_both _ _ _ _ _ _ (good_take a rs ls hs g)
    (good_both _ _ _ _ _ _ (good_take b qs xs ys k)
    (good_weave n a b (drop a rs) (drop (64 * a) ls) (drop (64 * a) hs) (drop b qs) (drop (64 * b) xs) (drop (64 * b) ys) (good_drop a rs ls hs g) (good_drop b qs xs ys k)))

pub once : (n : ℕ) → 1 * n ≡ n
once n = omega arith

pub good_woven : (cs ds : List Channel) (rs : List Bool) (ls hs : List ℤ) (qs : List Bool) (xs ys : List ℤ) → Good rs ls hs → Good qs xs ys
    → Good (woven 1 cs ds rs qs) (woven 64 cs ds ls xs) (woven 64 cs ds hs ys)
good_woven [] ds rs ls hs qs xs ys g k = good_none
good_woven (c ∷ cs) [] rs ls hs qs xs ys g k = good_none
good_woven (c ∷ cs) (d ∷ ds) rs ls hs qs xs ys g k =
    let n = blocks_in c in
    let m = blocks_in d in
    let X = woven 64 (c ∷ cs) (d ∷ ds) ls xs in
    let Y = woven 64 (c ∷ cs) (d ∷ ds) hs ys in
    let e : woven 1 (c ∷ cs) (d ∷ ds) rs qs ≡ weave (rows_in c) (columns_in c) (columns_in d) rs qs ++ woven 1 cs ds (drop n rs) (drop m qs) =
    λ i. weave (rows_in c) (once (columns_in c) i) (once (columns_in d) i) rs qs ++ woven 1 cs ds (drop (once n i) rs) (drop (once m i) qs) in
    subst (λ (l : List Bool). Good l X Y) (sym e)
    (good_both _ _ _ _ _ _ (good_weave (rows_in c) (columns_in c) (columns_in d) rs ls hs qs xs ys g k)
    (good_woven cs ds (drop n rs) (drop (64 * n) ls) (drop (64 * n) hs) (drop m qs) (drop (64 * m) xs) (drop (64 * m) ys) (good_drop n rs ls hs g) (good_drop m qs xs ys k)))
