-- A table without a fault, and tables without one.
use mathlib.Core.Path.{◌≡◌}
use mathlib.Core.Bool.{true, not}
use mathlib.Core.List.{List, [], ◌∷◌}
use Prim.Native.Nat.{ℕ, ◌+◌, ◌<◌, ◌≤◌}
use lib.Dec.{leb}
use lib.ListN.{length}
use borrow.Author.Tests.{leb-true, le-leb}
use Rattle.answers.specs.Tests.{test, all}
use Rattle.answers.specs.Lists.{listed}
use Rattle.answers.proofs.Tests.{holds, passed_of, each_listed, none_listed}
use Rattle.dqt.specs.Dqt.{val, head_ok, non_zero, elements, fault, faults, start, started}

pub record Sound (s : List ℕ) (a : ℕ) : Type 0 where
  pub head : head_ok (val s a) ≡ true
  pub long : a + 65 ≤ length s
  pub no_zero : all non_zero (elements s a) ≡ true

pub sound : (s : List ℕ) (a : ℕ) → fault s a ≡ 0 → Sound s a
unfolding fault
sound s a e =
    let p = passed_of (test 20 (not (head_ok (val s a))) ∷ test 19 (not (leb (a + 65) (length s))) ∷ test 4 (not (all non_zero (elements s a))) ∷ []) e in
    record {
      head = holds 19 (head_ok (val s a)) p.0;
      long = leb-true (a + 65) (length s) (holds 18 (leb (a + 65) (length s)) p.1.0);
      no_zero = holds 3 (all non_zero (elements s a)) p.1.1.0;
    }

pub no_fault : (s : List ℕ) (a : ℕ) → Sound s a → fault s a ≡ 0
unfolding fault
no_fault s a f = rw (f.head, le-leb (a + 65) (length s) f.long, f.no_zero)

-- none of the tables has a fault
pub each_sound : (s : List ℕ) → faults s ≡ 0 → (t : ℕ) → t < started s → Sound s (start t)
each_sound s e t h =
    let f : ℕ → ℕ = λ t. fault s (start t) in
    sound s (start t) (each_listed f (started s) (passed_of (listed f (started s)) e) t h)

pub all_sound : (s : List ℕ) → ((t : ℕ) → t < started s → Sound s (start t)) → faults s ≡ 0
all_sound s h = none_listed (λ t. fault s (start t)) (started s) (λ t l. no_fault s (start t) (h t l))
