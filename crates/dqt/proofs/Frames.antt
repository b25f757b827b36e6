-- What the tests of a segment have told.
use mathlib.Core.Path.{◌≡◌, refl, sym, ap, ◌∙◌}
use mathlib.Core.Bool.{Bool, true, false, not, ◌&&◌, ◌||◌, true≢false}
use mathlib.Core.List.{List, [], ◌∷◌}
use Prim.Native.Nat.{ℕ, ◌+◌, ◌-◌, ◌/◌, ◌%◌, ◌<◌, ◌≤◌}
use native.Mathlib.Omega.{arith}
use lib.Dec.{eqb, leb}
use Rattle.std.specs.List.{list_any}
use Rattle.std.proofs.Common.{nat_eq}
use lib.ListN.{length, take, drop, length-drop}
use lib.Seq.{get_or-drop, drop-drop}
use native.Mathlib.Nat.{add-zero}
use borrow.Author.Tests.{eqb-true, leb-true, le-leb}
use Rattle.answers.specs.Tests.{all, table_ok}
use Rattle.answers.specs.Answers.{filled}
use Rattle.answers.proofs.Tests.{and_left, and_right}
use Rattle.dqt.specs.Dqt.{val, lq, framed, head_ok, non_zero, elements, fault, stored, exported, exporting}

-- a head that passed is its destination
pub head_small : (b : ℕ) → head_ok b ≡ true → b < 4
head_small b e =
    let p = eqb-true (b / 16) 0 (and_left (eqb (b / 16) 0) (leb (b % 16) 3) e) in
    let d = leb-true (b % 16) 3 (and_right (eqb (b / 16) 0) (leb (b % 16) 3) e) in
    omega arith

-- a quantiser that passed
pub quantiser_range : (q : ℕ) → table_ok q ≡ true → (1 ≤ q) × (q ≤ 255)
quantiser_range q e = (leb-true 1 q (and_left (leb 1 q) (leb q 255) e), leb-true q 255 (and_right (leb 1 q) (leb q 255) e))

-- no byte is 0, in the words of the code
pub none_zero : (s : List ℕ) → all non_zero s ≡ not (list_any (λ y. nat_eq y 0) s)
none_zero [] = refl
none_zero (n ∷ s) = two (eqb n 0) (list_any (λ y. nat_eq y 0) s) (none_zero s)
  where
    two : (b c : Bool) {d : Bool} → d ≡ not c → (not b && d) ≡ not (b || c)
    two true c e = refl
    two false c e = e

-- the least length of a framed segment
pub framed_long : (s : List ℕ) → framed s ≡ true → 69 ≤ length s
unfolding framed
framed_long s e =
    let both = and_right (eqb (val s 0) 0xFF && eqb (val s 1) 0xDB) (eqb (lq s) (length s - 2) && leb 67 (lq s)) e in
    let stated = eqb-true (lq s) (length s - 2) (and_left (eqb (lq s) (length s - 2)) (leb 67 (lq s)) both) in
    let least = leb-true 67 (lq s) (and_right (eqb (lq s) (length s - 2)) (leb 67 (lq s)) both) in
    omega (arith, stated, least)

-- the call for which no test gives a number
pub exports : (tables out x : List ℕ) → length tables ≡ 256 → length out ≡ 264 → all table_ok tables ≡ true → x ≡ exported tables → filled 0 x ≡ exporting tables out
unfolding exporting
exports tables out x t o a e = rw (e, t, o, a) refl

pub same_test : (m n x y : ℕ) → (m ≤ n → x ≤ y) → (x ≤ y → m ≤ n) → leb m n ≡ leb x y
same_test m n x y f g = go (leb m n) (leb x y) refl refl
  where
    go : (a b : Bool) → leb m n ≡ a → leb x y ≡ b → a ≡ b
    go true true p q = refl
    go false false p q = refl
    go true false p q = absurd (true≢false (sym (le-leb x y (f (leb-true m n p))) ∙ q))
    go false true p q = absurd (true≢false (sym (le-leb m n (g (leb-true x y q))) ∙ p))

-- the table that starts at a is that at the start of what is left from a on
module _ (s : List ℕ) (a : ℕ) where
  pub head_from : val (drop a s) 0 ≡ val s a
  head_from = get_or-drop a s 0 0 ∙ ap (val s) (add-zero a)

  elements_from : elements (drop a s) 0 ≡ elements s a
  elements_from =
      let e : 65 - 1 ≡ a + 65 - (a + 1) = omega arith in
      ap (take (65 - 1)) (drop-drop 1 a s) ∙ ap (λ (n : ℕ). take n (drop (a + 1) s)) e

  pub fault_at : a ≤ length s → fault (drop a s) 0 ≡ fault s a
  unfolding fault
  fault_at h =
      rw (
        head_from,
        elements_from,
        same_test 65 (length (drop a s)) (a + 65) (length s) (λ l. omega (arith, length-drop a s)) (λ l. omega (arith, length-drop a s)),
      )

  pub stored_from : (tables : List ℕ) → stored (drop a s) 0 tables ≡ stored s a tables
  stored_from tables = rw (head_from, elements_from)
