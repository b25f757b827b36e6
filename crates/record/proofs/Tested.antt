-- What the tests have told of what is lent.
use mathlib.Core.Path.{◌≡◌, refl, ◌∙◌, sym, subst}
use mathlib.Core.Bool.{Bool, true, false, not, ◌&&◌, ◌||◌, cond}
use mathlib.Core.List.{List, [], ◌∷◌}
use Prim.Native.Nat.{ℕ, ◌*◌, ◌≤◌}
use native.Mathlib.Omega.{arith}
use lib.Dec.{T, eqb, eqb→eq}
use lib.ListN.{length}
use lib.Ieee.Fits.{and_l, and_r}
use Rattle.calls.specs.Run.{Place, Given, legal, count, levels_before}
use Rattle.calls.specs.Calls.{Tests, first, test, all, table_ok, levels_fault, buffers_long, values_long, lend_tests}

-- what the test of all lengths has told of lows and highs
pub same_long : (G : Given) {b : Bool} → b ≡ values_long G → b ≡ true → length G.levels.highs ≡ length G.levels.lows
same_long G {b} e n =
    let places = levels_before G.sheet (count G) in
    let lows = eqb (length G.levels.lows) places in
    let highs = eqb (length G.levels.highs) places in
    let values : T (values_long G) = subst T e (subst T (sym n) tt) in
    let both : T (lows && highs) = and_l (lows && highs) (eqb (length G.tables) (count G * 64)) values in
    eqb→eq (length G.levels.highs) places (and_r lows highs both) ∙ sym (eqb→eq (length G.levels.lows) places (and_l lows highs both))

-- what the tests of every call, 13 and 8, tell of a call that is lent levels too
module _ (G : Given) (ps : List Place) (ls : List ℕ) where
  abbrev tests : Bool → Bool → Bool → Tests
  tests known long levels =
      test 13 (not known)
      ∷ test 8 (not (long && (not levels || values_long G)))
      ∷ test 4 (levels && not (all table_ok G.tables))
      ∷ cond levels (levels_fault G.levels) 0
      ∷ []

  pub lend_refused : {n : ℕ} → 1 ≤ n → n ≡ first (lend_tests G ps ls false) → n ≡ first (lend_tests G ps ls true)
  lend_refused {n} h e = go (legal G.sheet ps) (buffers_long G ls) e
    where
      go : (known long : Bool) → n ≡ first (tests known long false) → n ≡ first (tests known long true)
      go false long e = e
      go true false e = e
      go true true e = absurd (omega (arith, e, h))

  passed : 0 ≡ first (lend_tests G ps ls false) → (legal G.sheet ps ≡ true) × (buffers_long G ls ≡ true)
  passed = go (legal G.sheet ps) (buffers_long G ls)
    where
      go : (known long : Bool) → 0 ≡ first (tests known long false) → (known ≡ true) × (long ≡ true)
      go false long e = absurd (omega (arith, e))
      go true false e = absurd (omega (arith, e))
      go true true e = (refl, refl)

  -- what is left of them
  pub lend_passed : 0 ≡ first (lend_tests G ps ls false) → {long known : Bool} → long ≡ values_long G → known ≡ all table_ok G.tables
      → first (test 8 (not long) ∷ test 4 (not known) ∷ levels_fault G.levels ∷ []) ≡ first (lend_tests G ps ls true)
  lend_passed e l k = rw (l, k, (passed e).0, (passed e).1)
