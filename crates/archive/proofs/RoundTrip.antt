-- Each call undoes the other.
use mathlib.Core.Path.{◌≡◌, refl, sym, ap, ◌∙◌}
use mathlib.Core.Bool.{true, not}
use mathlib.Core.List.{List, [], ◌∷◌}
use mathlib.Core.Logic.{◌≢◌, ⊎_elim}
use Prim.Native.Nat.{ℕ, zero, suc, ◌-◌, ◌*◌, ◌/◌, ◌%◌, ◌<◌, ◌≤◌}
use native.Mathlib.Nat.{eq-zero-or-pos}
use native.Mathlib.Omega.{arith}
use lib.IntN.{ℤ, pos, ◌+ℤ◌, ◌-ℤ◌, +ℤ_comm, +ℤ-neg_ℤ_cancel, -ℤ-+ℤ_cancel}
use lib.ListN.{length}
use borrow.Author.Tests.{eq-eqb, ne_eqb, lt-ltb, le-ltb}
use Rattle.answers.specs.Tests.{test, all, level_ok}
use Rattle.answers.specs.Answers.{filled}
use Rattle.answers.proofs.Tests.{holds, passed_of}
use Rattle.answers.proofs.Fill.{fill_done, fill_refused}
use Rattle.answers.proofs.Lists.{listed_at, listed_is, listed_length}
use Rattle.zigzag.specs.Zigzag.{to_raster, to_zigzag}
use Rattle.zigzag.proofs.Places.{raster_in, zigzag_in, raster_rest, zigzag_rest, raster_zigzag, zigzag_raster}
use Rattle.archive.specs.Archive.{val, before, stored_at, rearranged, chain, restored_at, restored, fitting, refusal, rearranging, restoring, GivesBack}
use Rattle.archive.proofs.Levels.{fits}

-- y and a difference from y
sum_back : (x y : ℤ) → y +ℤ (x -ℤ y) ≡ x
sum_back x y = +ℤ_comm y (x -ℤ y) ∙ -ℤ-+ℤ_cancel x y

difference_back : (x y : ℤ) → (y +ℤ x) -ℤ y ≡ x
difference_back x y = ap (λ (z : ℤ). z -ℤ y) (+ℤ_comm y x) ∙ +ℤ-neg_ℤ_cancel x y

module _ (l : List ℤ) (whole : length l % 64 ≡ 0) where
  stored_is : (k : ℕ) → k < length l → val (rearranged l) k ≡ stored_at l k
  stored_is k h = listed_at (pos 0) (stored_at l) (length l) k h

  -- the differences add up to the first level of the block before
  chain_is : (b : ℕ) → b * 64 ≤ length l → chain (rearranged l) b ≡ before l (b * 64)
  unfolding chain stored_at
  chain_is zero h = refl
  chain_is (suc b) h =
      let first : b * 64 % 64 ≡ 0 = omega arith in
      let back : suc b * 64 - 64 ≡ b * 64 = omega arith in
      rw (chain_is b (omega arith), stored_is (b * 64) (omega arith), eq-eqb (b * 64 % 64) 0 first, le-ltb (suc b * 64) 64 (omega arith), back)
      (sum_back (val l (b * 64)) (before l (b * 64)))

  level_back : (p : ℕ) → p < length l → restored_at (rearranged l) p ≡ val l p
  unfolding restored_at stored_at
  level_back p h =
      ⊎_elim
      (λ z.
      let at : suc (p / 64) * 64 - 64 ≡ p = omega arith in
      let sum : chain (rearranged l) (suc (p / 64)) ≡ val l p =
      chain_is (suc (p / 64)) (omega arith) ∙ rw (le-ltb (suc (p / 64) * 64) 64 (omega arith), at) in
      rw (eq-eqb (p % 64) 0 z) sum)
      (λ z.
      let rest = zigzag_rest p (λ o. omega arith) in
      rw (ne_eqb (p % 64) 0 (λ o. omega arith), stored_is (to_zigzag p) (zigzag_in p (length l) whole h), ne_eqb (to_zigzag p % 64) 0 rest, raster_zigzag p))
      (eq-zero-or-pos (p % 64))

  -- whatever the levels are
  pub restored_rearranged : restored (rearranged l) ≡ l
  restored_rearranged =
      listed_is (pos 0) (restored_at (rearranged l)) (length (rearranged l)) l (sym (listed_length (stored_at l) (length l)))
      (λ p h. level_back p (rw listed_length at h))

module _ (s : List ℤ) (whole : length s % 64 ≡ 0) where
  level_is : (p : ℕ) → p < length s → val (restored s) p ≡ restored_at s p
  level_is p h = listed_at (pos 0) (restored_at s) (length s) p h

  before_is : (k : ℕ) → k % 64 ≡ 0 → k < length s → before (restored s) k ≡ chain s (k / 64)
  unfolding chain restored_at
  before_is k z h =
      ⊎_elim
      (λ m. rw (lt-ltb k 64 (omega arith), m))
      (λ m.
      let first : (k - 64) % 64 ≡ 0 = omega arith in
      let b : suc ((k - 64) / 64) ≡ k / 64 = omega arith in
      rw (le-ltb k 64 (omega arith), level_is (k - 64) (omega arith), eq-eqb ((k - 64) % 64) 0 first, ← b))
      (eq-zero-or-pos (k / 64))

  stored_back : (k : ℕ) → k < length s → stored_at (restored s) k ≡ val s k
  unfolding stored_at restored_at chain
  stored_back k h =
      ⊎_elim
      (λ z.
      let at : k / 64 * 64 ≡ k = omega arith in
      rw (eq-eqb (k % 64) 0 z, before_is k z h, level_is k h, eq-eqb (k % 64) 0 z, at) (difference_back (val s k) (chain s (k / 64))))
      (λ z.
      let rest = raster_rest k (λ o. omega arith) in
      rw (ne_eqb (k % 64) 0 (λ o. omega arith), level_is (to_raster k) (raster_in k (length s) whole h), ne_eqb (to_raster k % 64) 0 rest, zigzag_raster k))
      (eq-zero-or-pos (k % 64))

  pub rearranged_restored : rearranged (restored s) ≡ s
  rearranged_restored =
      listed_is (pos 0) (stored_at (restored s)) (length (restored s)) s (sym (listed_length (restored_at s) (length s)))
      (λ k h. stored_back k (rw listed_length at h))

-- the tests of an accepted call
accepted : (n m : ℕ) (levels : List ℤ) → refusal n m levels ≡ 0 → (m ≡ n) × (n % 64 ≡ 0) × (all level_ok levels ≡ true)
accepted n m levels e =
    let p = passed_of (test 8 (not (fitting n m)) ∷ test 5 (not (all level_ok levels)) ∷ []) e in
    let f = fits n m (holds 7 (fitting n m) p.0) in
    (f.0, f.1, holds 4 (all level_ok levels) p.1.0)

-- fitting lengths and legal levels are not refused
no_refusal : (n m : ℕ) (levels : List ℤ) → m ≡ n → n % 64 ≡ 0 → all level_ok levels ≡ true → refusal n m levels ≡ 0
no_refusal n m levels h whole legal = rw (legal, eq-eqb n m (sym h), eq-eqb (n % 64) 0 whole)

-- "For legal levels the inverse of the rearrangement is the input": what `rearrange` wrote, `restore` accepts and gives the levels
pub rearrange_restore : (levels out back : List ℤ) → (rearranging levels out).number ≡ 0 → length back ≡ length levels
    → restoring (rearranging levels out).written back ≡ filled 0 levels
unfolding rearranging restoring
rearrange_restore levels out back e h =
    let c = fill_done (refusal (length levels) (length out) levels) (rearranged levels) out e in
    let ok = accepted (length levels) (length out) levels c.0 in
    let size = listed_length (stored_at levels) (length levels) in
    rw (c.1, restored_rearranged levels ok.1, size, no_refusal (length levels) (length back) levels h ok.1 ok.2)

-- "for every slice the inverse accepts the rearrangement gives that slice back"
pub restore_rearrange : (stored out back : List ℤ) → (restoring stored out).number ≡ 0 → length back ≡ length stored
    → rearranging (restoring stored out).written back ≡ filled 0 stored
unfolding rearranging restoring
restore_rearrange stored out back e h =
    let c = fill_done (refusal (length stored) (length out) (restored stored)) (restored stored) out e in
    let ok = accepted (length stored) (length out) (restored stored) c.0 in
    let size = listed_length (restored_at stored) (length stored) in
    rw (c.1, rearranged_restored stored ok.1, size, no_refusal (length stored) (length back) (restored stored) h ok.1 ok.2)

-- the same of the lists that the two calls write
pub rearranged_undone : (levels x : List ℤ) (n : ℕ) → fitting (length levels) n ≡ true → all level_ok levels ≡ true → x ≡ rearranged levels
    → GivesBack restoring x levels
unfolding restoring
rearranged_undone levels x n f ok e back h =
    let whole = (fits (length levels) n f).1 in
    let size = listed_length (stored_at levels) (length levels) in
    rw (e, restored_rearranged levels whole, size, no_refusal (length levels) (length back) levels h whole ok)

pub restored_undone : (stored x : List ℤ) (n : ℕ) → fitting (length stored) n ≡ true → all level_ok (restored stored) ≡ true → x ≡ restored stored
    → GivesBack rearranging x stored
unfolding rearranging
restored_undone stored x n f ok e back h =
    let whole = (fits (length stored) n f).1 in
    let size = listed_length (restored_at stored) (length stored) in
    rw (e, rearranged_restored stored whole, size, no_refusal (length stored) (length back) (restored stored) h whole ok)

-- "a refusal leaves both slices unchanged"
pub rearrange_refused : (levels out : List ℤ) → (rearranging levels out).number ≢ 0 → (rearranging levels out).written ≡ out
unfolding rearranging
rearrange_refused levels out e = fill_refused (refusal (length levels) (length out) levels) (rearranged levels) out e

pub restore_refused : (stored out : List ℤ) → (restoring stored out).number ≢ 0 → (restoring stored out).written ≡ out
unfolding restoring
restore_refused stored out e = fill_refused (refusal (length stored) (length out) (restored stored)) (restored stored) out e

-- legal levels of fitting lengths are not refused
pub legal_accepted : (levels out : List ℤ) → length out ≡ length levels → length levels % 64 ≡ 0 → all level_ok levels ≡ true
    → rearranging levels out ≡ filled 0 (rearranged levels)
unfolding rearranging
legal_accepted levels out h whole legal = rw (no_refusal (length levels) (length out) levels h whole legal)
