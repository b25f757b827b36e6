-- What the tests of a call tell: of each channel, and of refusals that were not given.
use mathlib.Core.Path.{◌≡◌, refl, sym, ap, ◌∙◌, subst}
use mathlib.Core.Logic.{◌≢◌, ◌⊎◌, inl, inr}
use Prim.Native.Nat.{ℕ, zero, suc, ◌+◌, ◌-◌, ◌*◌, ◌≤◌, ◌<◌}
use native.Mathlib.Nat.{le_of_suc-le-suc, not-suc-le-zero, eq-or-lt_of_le}
use native.Mathlib.Omega.{arith}
use native.Mathlib.Numerals.{add-one}
use native.Mathlib.Decide.{ℕ_discrete}
use mathlib.Core.Bool.{Bool, true, false, not, ◌&&◌, ◌||◌, cond}
use mathlib.Core.List.{List, [], ◌∷◌, ◌++◌, map}
use lib.Dec.{T, eqb, eqb→eq, leb→le, ltb}
use borrow.Author.Tests.{ltb-false, ltb-true}
use lib.IntN.{ℤ, pos, nat_abs}
use lib.Signed.{◌≤ℤ◌, le_z, le_z_yes}
use lib.Ieee.Fits.{and_l, and_r, and_i, eq→eqb}
use lib.ListN.{length, get_or, take, drop}
use lib.Seq.{drop-cons, get_or-take, get_or-drop}
use Rattle.fold.specs.Part.{part}
use Rattle.calls.specs.Run.{Place, Given, every, among, legal, count, levels_before, levels_part}
use Rattle.start.specs.Buffers.{Buffers}
use Rattle.start.specs.Coef.{Levels, Long, level_at, low_at, high_at, pairs}
use Rattle.calls.specs.Buffers.{Name, Plane, Prior, Gradient, Across, Down, Saved, get, Sized}
use Rattle.calls.specs.Jobs.{Call}
use Rattle.calls.specs.Calls.{Tests, first, test, all, all_six, lengths, level_ok, pair_fault, pair_faults, levels_fault, levels_long, table_ok, buffers_long, values_long, turn_tests, lend_tests, lent_levels, refusal}
pub use Rattle.answers.proofs.Tests.{Passed, passed_of, first_one}

pub never : {X : Type 0} (b : Bool) → b ≡ false → b ≡ true → X
never b p q = let z : ◌≡◌ {A = ℕ} 0 1 = cc in absurd (omega arith)

pub not_is : (b : Bool) → not b ≡ false → T b
not_is true e = tt
not_is false e = never true e refl

pub not_of : (b : Bool) → T b → not b ≡ false
not_of true t = refl
not_of false t = absurd t

pub or_false_l : (a b : Bool) → (a || b) ≡ false → a ≡ false
or_false_l true b e = e
or_false_l false b e = refl

pub or_false_r : (a b : Bool) → (a || b) ≡ false → b ≡ false
or_false_r true b e = never true e refl
or_false_r false b e = e

pub and-false : (a b : Bool) → b ≡ false → (a && b) ≡ false
and-false true b e = e
and-false false b e = refl

-- `not a || b`, where a tells that b
pub or_r : (a b : Bool) → T (not a || b) → a ≡ true → T b
or_r true b t e = t
or_r false b t e = never false refl e

pub or_i : (a b : Bool) → (a ≡ true → T b) → T (not a || b)
or_i true b h = h refl
or_i false b h = tt

-- ---- channels

pub every_at : (k : ℕ) (f : ℕ → Bool) → T (every k f) → (c : ℕ) → c < k → T (f c)
every_at zero f t c h = absurd (not-suc-le-zero h)
every_at (suc k) f t c h = go (eq-or-lt_of_le h) (every_at k f (and_l (every k f) (f k) t) c)
  where
    go : (suc c ≡ suc k) ⊎ (suc c < suc k) → (c < k → T (f c)) → T (f c)
    go (inl e) ih = let same : k ≡ c = omega arith in subst (λ (i : ℕ). T (f i)) same (and_r (every k f) (f k) t)
    go (inr l) ih = ih (omega arith)

pub every_of : (k : ℕ) (f : ℕ → Bool) → ((c : ℕ) → c < k → T (f c)) → T (every k f)
every_of zero f h = tt
every_of (suc k) f h = and_i (every k f) (f k) (every_of k f (λ c p. h c (omega arith))) (h k (omega arith))

pub none_at : (k : ℕ) (f : ℕ → Bool) → among k f ≡ false → (c : ℕ) → c < k → f c ≡ false
none_at zero f e c h = absurd (not-suc-le-zero h)
none_at (suc k) f e c h = go (eq-or-lt_of_le h) (none_at k f (or_false_l (among k f) (f k) e) c)
  where
    go : (suc c ≡ suc k) ⊎ (suc c < suc k) → (c < k → f c ≡ false) → f c ≡ false
    go (inl q) ih = let same : c ≡ k = omega arith in ap f same ∙ or_false_r (among k f) (f k) e
    go (inr l) ih = ih (omega arith)

pub every_true : (k : ℕ) (f : ℕ → Bool) → ((c : ℕ) → c < k → f c ≡ true) → every k f ≡ true
every_true zero f h = refl
every_true (suc k) f h = rw (every_true k f (λ c p. h c (omega arith))) (h k (omega arith))

pub among_false : (k : ℕ) (f : ℕ → Bool) → ((c : ℕ) → c < k → f c ≡ false) → among k f ≡ false
among_false zero f h = refl
among_false (suc k) f h = rw (among_false k f (λ c p. h c (omega arith))) (h k (omega arith))

or-true : (a b : Bool) → b ≡ true → (a || b) ≡ true
or-true true b e = refl
or-true false b e = e

pub among_true : (k : ℕ) (f : ℕ → Bool) (c : ℕ) → c < k → f c ≡ true → among k f ≡ true
among_true zero f c h e = absurd (omega arith)
among_true (suc k) f c h e = go (eq-or-lt_of_le h) (λ l. among_true k f c l e)
  where
    go : (suc c ≡ suc k) ⊎ (suc c < suc k) → (c < k → among k f ≡ true) → (among k f || f k) ≡ true
    go (inl q) ih = let same : k ≡ c = omega arith in or-true (among k f) (f k) (ap f same ∙ e)
    go (inr l) ih = rw (ih (omega arith))

-- ---- lists

module _ {A : Type 0} where
  -- what a test passes at each place of a list it passes past the end too, if it passes there
  pub all_anywhere : (f : A → Bool) (xs : List A) (d : A) → T (all f xs) → T (f d) → (i : ℕ) → T (f (get_or xs i d))
  all_anywhere f [] d t u i = u
  all_anywhere f (x ∷ xs) d t u zero = and_l (f x) (all f xs) t
  all_anywhere f (x ∷ xs) d t u (suc i) = all_anywhere f xs d (and_r (f x) (all f xs) t) u i

  -- and at each place of a part of it
  all_drop : (f : A → Bool) (xs : List A) (n : ℕ) → T (all f xs) → T (all f (drop n xs))
  all_drop f xs zero t = t
  all_drop f [] (suc n) t = t
  all_drop f (x ∷ xs) (suc n) t = all_drop f xs n (and_r (f x) (all f xs) t)

  all_take : (f : A → Bool) (xs : List A) (n : ℕ) → T (all f xs) → T (all f (take n xs))
  all_take f xs zero t = tt
  all_take f [] (suc n) t = t
  all_take f (x ∷ xs) (suc n) t = and_i (f x) (all f (take n xs)) (and_l (f x) (all f xs) t) (all_take f xs n (and_r (f x) (all f xs) t))

  pub all_part : (f : A → Bool) (xs : List A) (a e : ℕ) → T (all f xs) → T (all f (part xs a e))
  all_part f xs a e t = all_take f (drop a xs) (e - a) (all_drop f xs a t)

  pub get_d_map_lt : {B : Type 0} (g : A → B) (xs : List A) (a : A) (b : B) (i : ℕ) → i < length xs → get_or (map g xs) i b ≡ g (get_or xs i a)
  get_d_map_lt g [] a b i h = absurd (not-suc-le-zero h)
  get_d_map_lt g (x ∷ xs) a b zero h = refl
  get_d_map_lt g (x ∷ xs) a b (suc i) h = get_d_map_lt g xs a b i (le_of_suc-le-suc h)

-- ---- refusals that were not given

-- a test that gives no number
pub silent : (n : ℕ) (b : Bool) → test (suc n) b ≡ 0 → b ≡ false
silent n true e = absurd (omega arith)
silent n false e = refl

pub holds : (n : ℕ) (b : Bool) → test (suc n) (not b) ≡ 0 → T b
holds n b e = not_is b (silent n (not b) e)

pub test_of : (n : ℕ) (b : Bool) → T b → test n (not b) ≡ 0
test_of n b t = ap (test n) (not_of b t)

-- tests that are passed may be left out
pub skip : (ts us : Tests) → Passed ts → first (ts ++ us) ≡ first us
skip [] us h = refl
skip (t ∷ ts) us h = ap (λ (n : ℕ). first (n ∷ ts ++ us)) h.0 ∙ skip ts us h.1

-- and what comes after a refusal is not looked at
pub stops : (ts us : Tests) → first ts ≢ 0 → first (ts ++ us) ≡ first ts
stops [] us n = absurd (n refl)
stops (zero ∷ ts) us n = stops ts us n
stops (suc t ∷ ts) us n = refl

-- ---- tests looked at one by one, from place k on: one that gives a number, and one that gives none

module _ (ts : Tests) (k : ℕ) (h : k < length ts) where
  from_here : first (drop k ts) ≡ first (get_or ts k 0 ∷ drop (suc k) ts)
  from_here = ap first (drop-cons ts k 0 h)

  pub fault_here : get_or ts k 0 ≢ 0 → first (drop k ts) ≡ get_or ts k 0
  fault_here n = from_here ∙ go (get_or ts k 0) n
    where
      go : (t : ℕ) → t ≢ 0 → first (t ∷ drop (suc k) ts) ≡ t
      go zero n = absurd (n refl)
      go (suc t) n = refl

  -- at the code's `k + 1`
  pub none_here : get_or ts k 0 ≡ 0 → first (drop k ts) ≡ first (drop (k + 1) ts)
  none_here e = from_here ∙ ap (λ (n : ℕ). first (n ∷ drop (suc k) ts)) e ∙ ap (λ (n : ℕ). first (drop n ts)) (sym (add-one k))

none_anywhere : (ts : Tests) → first ts ≡ 0 → (k : ℕ) → get_or ts k 0 ≡ 0
none_anywhere [] e k = refl
none_anywhere (zero ∷ ts) e zero = refl
none_anywhere (zero ∷ ts) e (suc k) = none_anywhere ts e k
none_anywhere (suc n ∷ ts) e k = absurd (omega arith)

-- ---- 5 and 14, pair by pair

pub pair-at : (ls hs : List ℤ) → length ls ≡ length hs → (k : ℕ) → get_or (pair_faults ls hs) k 0 ≡ pair_fault (level_at ls k) (level_at hs k)
pair-at [] [] e k = refl
pair-at [] (h ∷ hs) e k = absurd (omega arith)
pair-at (l ∷ ls) [] e k = absurd (omega arith)
pair-at (l ∷ ls) (h ∷ hs) e zero = refl
pair-at (l ∷ ls) (h ∷ hs) e (suc k) = pair-at ls hs (omega arith) k

pub pairs_many : (ls hs : List ℤ) → length ls ≡ length hs → length (pair_faults ls hs) ≡ length ls
pairs_many [] [] e = refl
pairs_many [] (h ∷ hs) e = absurd (omega arith)
pairs_many (l ∷ ls) [] e = absurd (omega arith)
pairs_many (l ∷ ls) (h ∷ hs) e = ap suc (pairs_many ls hs (omega arith))

-- no pair has a fault
abbrev pub Faultless : Levels → Type 0
Faultless levels = (k : ℕ) → pair_fault (low_at levels k) (high_at levels k) ≡ 0

pub faultless_of : (levels : Levels) (n : ℕ) → Long levels n → levels_fault levels ≡ 0 → Faultless levels
faultless_of levels n l e k =
    sym (pair-at levels.lows levels.highs (l.0 ∙ sym l.1) k) ∙ none_anywhere (pair_faults levels.lows levels.highs) e k

pub of_faultless : (ls hs : List ℤ) → Faultless (pairs ls hs) → levels_fault (pairs ls hs) ≡ 0
of_faultless [] hs h = refl
of_faultless (l ∷ ls) [] h = refl
of_faultless (l ∷ ls) (x ∷ hs) h = ap (λ (n : ℕ). first (n ∷ pair_faults ls hs)) (h 0) ∙ of_faultless ls hs (λ k. h (suc k))

-- what a pair without a fault is
pub pair_ok : (low high : ℤ) → pair_fault low high ≡ 0 → (nat_abs low ≤ 2047) × (nat_abs high ≤ 2047) × (low ≤ℤ high)
pair_ok low high e =
    let p = passed_of (test 5 (not (level_ok low && level_ok high)) ∷ test 14 (not (le_z low high)) ∷ []) e in
    let both : T (level_ok low && level_ok high) = holds 4 (level_ok low && level_ok high) p.0 in (
      leb→le (nat_abs low) 2047 (and_l (level_ok low) (level_ok high) both),
      leb→le (nat_abs high) 2047 (and_r (level_ok low) (level_ok high) both),
      le_z_yes (holds 13 (le_z low high) p.1.0),
    )

-- a part of the levels: past its end it reads 0 in both
pub part_level : (ls : List ℤ) (a e k : ℕ) → k < e - a → level_at (part ls a e) k ≡ level_at ls (a + k)
part_level ls a e k h = get_or-take (e - a) (drop a ls) k (pos 0) h ∙ get_or-drop a ls k (pos 0)

level_past : (n : ℕ) (ls : List ℤ) (k : ℕ) → n ≤ k → level_at (take n ls) k ≡ pos 0
level_past zero ls k h = refl
level_past (suc n) [] k h = refl
level_past (suc n) (l ∷ ls) zero h = absurd (omega arith)
level_past (suc n) (l ∷ ls) (suc k) h = level_past n ls k (omega arith)

pub part_faultless : (levels : Levels) → Faultless levels → (a e : ℕ) → Faultless (levels_part levels a e)
part_faultless levels f a e k = go (ltb k (e - a)) refl
  where
    go : (b : Bool) → ltb k (e - a) ≡ b → pair_fault (level_at (part levels.lows a e) k) (level_at (part levels.highs a e) k) ≡ 0
    go true t =
        let h = ltb-true k (e - a) t in
        rw (part_level levels.lows a e k h, part_level levels.highs a e k h) (f (a + k))
    go false t =
        let h = ltb-false k (e - a) t in
        rw (level_past (e - a) (drop a levels.lows) k h, level_past (e - a) (drop a levels.highs) k h) refl

-- ---- 8: the lengths of the buffers that are lent

pub sized_names : (m : ℕ) (B : Buffers) → Sized m B → (names : List Name) → T (all (λ n. eqb n m) (lengths names B))
sized_names m B h [] = tt
sized_names m B h (b ∷ bs) = and_i (eqb (length (get b B)) m) (all (λ n. eqb n m) (lengths bs B)) (eq→eqb (h b)) (sized_names m B h bs)

pub sized_of : (m : ℕ) (B : Buffers) → T (all (λ n. eqb n m) (lengths all_six B)) → Sized m B
sized_of m B t Plane = eqb→eq (length B.plane) m (search (and_l, and_r) depth 12)
sized_of m B t Prior = eqb→eq (length B.prior) m (search (and_l, and_r) depth 12)
sized_of m B t Gradient = eqb→eq (length B.gradient) m (search (and_l, and_r) depth 12)
sized_of m B t Across = eqb→eq (length B.across) m (search (and_l, and_r) depth 12)
sized_of m B t Down = eqb→eq (length B.down) m (search (and_l, and_r) depth 12)
sized_of m B t Saved = eqb→eq (length B.saved) m (search (and_l, and_r) depth 12)

-- ---- what a call that passed 13, 8, 4, 5 and 14 was lent

pub record Lent (G : Given) (ps : List Place) (ls : List ℕ) (levels : Bool) : Type 0 where
  pub is-legal : T (legal G.sheet ps)
  pub long : T (buffers_long G ls)
  pub levels-long : levels ≡ true → Long G.levels (levels_before G.sheet (count G))
  pub tables_long : levels ≡ true → length G.tables ≡ count G * 64
  pub tables_ok : levels ≡ true → T (all table_ok G.tables)
  pub levels_ok : levels ≡ true → levels_fault G.levels ≡ 0

module _ (G : Given) (ps : List Place) (ls : List ℕ) where
  abbrev wanted : ℕ
  wanted = levels_before G.sheet (count G)

  abbrev lows_are : Bool
  lows_are = eqb (length G.levels.lows) wanted

  abbrev highs_are : Bool
  highs_are = eqb (length G.levels.highs) wanted

  abbrev levels_are : Bool
  levels_are = levels_long G.levels wanted

  abbrev tables_are : Bool
  tables_are = eqb (length G.tables) (count G * 64)

  pub lent_of : (levels : Bool) → first (lend_tests G ps ls levels) ≡ 0 → Lent G ps ls levels
  lent_of levels z =
      let p = passed_of (lend_tests G ps ls levels) z in
      let both : T (buffers_long G ls && (not levels || values_long G)) = holds 7 (buffers_long G ls && (not levels || values_long G)) p.1.0 in
      let values : levels ≡ true → T (values_long G) = or_r levels (values_long G) (and_r (buffers_long G ls) (not levels || values_long G) both) in
      record {
        is-legal = holds 12 (legal G.sheet ps) p.0;
        long = and_l (buffers_long G ls) (not levels || values_long G) both;
        levels-long = λ e.
            let both = and_l levels_are tables_are (values e) in
            (eqb→eq _ _ (and_l lows_are highs_are both), eqb→eq _ _ (and_r lows_are highs_are both));
        tables_long = λ e. eqb→eq _ _ (and_r levels_are tables_are (values e));
        tables_ok = λ e. holds 3 (all table_ok G.tables) (ap (λ (b : Bool). test 4 (b && not (all table_ok G.tables))) (sym e) ∙ p.1.1.0);
        levels_ok = λ e. ap (λ (b : Bool). cond b (levels_fault G.levels) 0) (sym e) ∙ p.1.1.1.0;
      }

  pub of_lent : (levels : Bool) → Lent G ps ls levels → Passed (lend_tests G ps ls levels)
  of_lent levels h = (
    test_of 13 (legal G.sheet ps) h.is-legal,
    (
      test_of 8 (buffers_long G ls && (not levels || values_long G))
          (and_i (buffers_long G ls) (not levels || values_long G) h.long
          (or_i levels (values_long G) (λ e. and_i levels_are tables_are (and_i lows_are highs_are (eq→eqb (h.levels-long e).0) (eq→eqb (h.levels-long e).1)) (eq→eqb (h.tables_long e))))),
      (tables levels h.tables_ok, (values levels h.levels_ok, tt)),
    ),
  )
    where
      tables : (b : Bool) → (b ≡ true → T (all table_ok G.tables)) → test 4 (b && not (all table_ok G.tables)) ≡ 0
      tables true t = test_of 4 (all table_ok G.tables) (t refl)
      tables false t = refl

      values : (b : Bool) → (b ≡ true → levels_fault G.levels ≡ 0) → cond b (levels_fault G.levels) 0 ≡ 0
      values true t = t refl
      values false t = refl

-- ---- a call's refusal: by what is lent, and then by turn

module _ (G : Given) (ps : List Place) (x : Call) (ls : List ℕ) where
  pub by_lent : {r : ℕ} → r ≡ first (lend_tests G ps ls (lent_levels x)) → r ≢ 0 → r ≡ refusal G ps x ls
  unfolding refusal
  by_lent e n = e ∙ sym (stops (lend_tests G ps ls (lent_levels x)) (turn_tests G.sheet ps x) (λ z. n (e ∙ z)))

  pub by-turn : {r : ℕ} → first (lend_tests G ps ls (lent_levels x)) ≡ 0 → r ≡ first (turn_tests G.sheet ps x) → r ≡ refusal G ps x ls
  unfolding refusal
  by-turn z e =
      e
      ∙ sym
      (skip (lend_tests G ps ls (lent_levels x)) (turn_tests G.sheet ps x)
      (passed_of (lend_tests G ps ls (lent_levels x)) z))

  -- an accepted call has passed all its tests
  pub passed_all : refusal G ps x ls ≡ 0 → Lent G ps ls (lent_levels x) × (first (turn_tests G.sheet ps x) ≡ 0)
  unfolding refusal
  passed_all z =
      go (ℕ_discrete (first lend) 0)
    where
      lend : Tests
      lend = lend_tests G ps ls (lent_levels x)

      go : Dec (first lend ≡ 0) → Lent G ps ls (lent_levels x) × (first (turn_tests G.sheet ps x) ≡ 0)
      go (yes e) = (lent_of G ps ls (lent_levels x) e, sym (skip lend (turn_tests G.sheet ps x) (passed_of lend e)) ∙ z)
      go (no n) = absurd (n (sym (stops lend (turn_tests G.sheet ps x) n) ∙ z))
