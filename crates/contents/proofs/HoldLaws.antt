-- What a channel's held count is measured against, and that it is within it.
use Prim.Native.Nat.{ℕ, zero, suc, ◌≤◌}
use mathlib.Core.Path.{◌≡◌}
use mathlib.Core.Bool.{Bool, true, false, cond, ◌&&◌}
use native.Mathlib.Omega.{arith}
use native.Mathlib.Nat.{le_refl}
use lib.Dec.{eqb}
use Rattle.std.proofs.Common.{List, Option, Some, None}
use borrow.Author.Tests.{eq-eqb, ne_eqb}
use Rattle.contents.specs.declared.Limits.{Limits}
use Rattle.contents.specs.declared.Header.{Header}
use Rattle.contents.specs.declared.Sheet.{Sheet}
use Rattle.contents.specs.Three.{of_three}
use Rattle.contents.specs.Hold.{iterations_at, measured, count_at, hold_at, LegalHold}
use Rattle.contents.specs.Legal.{LegalHeader}

module _ (c k l m : ℕ) where
  pub three_0 : c ≡ 0 → k ≡ of_three c k l m
  three_0 e = rw (eq-eqb c 0 e)

module _ (h : Header) (c r : ℕ) where
  pub measured_first : h.channels ≡ 3 → h.joint ≡ true → iterations_at h 0 ≡ measured h c
  unfolding measured
  measured_first e j = rw (eq-eqb h.channels 3 e, j)

  pub measured_apart : r ≡ iterations_at h c → h.joint ≡ false → h.channels ≡ 3 → r ≡ measured h c
  unfolding measured
  measured_apart q j e = rw (eq-eqb h.channels 3 e, j) q

  pub measured_one : r ≡ iterations_at h c → (h.channels ≡ 3 → ⊥) → r ≡ measured h c
  unfolding measured
  measured_one q n = rw (ne_eqb h.channels 3 n) q

-- A legal count is within the iterations that it is measured against, and these are within the caller's limit

either : (b : Bool) (x y n : ℕ) → x ≤ n → y ≤ n → cond b x y ≤ n
either true x y n p q = p
either false x y n p q = q

pub measured_most : (h : Header) (limits : Limits) → LegalHeader limits h → (c : ℕ) → measured h c ≤ limits.iterations
unfolding measured
measured_most h limits l c =
    either (eqb h.channels 3 && h.joint) _ _ _ (l.iterations 0) (l.iterations c)

count_most : (x : Option (List ℕ)) (h : Header) → LegalHold h x → (c : ℕ) → count_at x h c ≤ measured h c
unfolding measured
count_most None h l c = le_refl (measured h c)
count_most (Some xs) h l zero = l.1
count_most (Some xs) h l (suc zero) = l.2
count_most (Some xs) h l (suc (suc c)) =
    rw (ne_eqb (suc (suc c)) 0 (λ e. omega arith), ne_eqb (suc (suc c)) 1 (λ e. omega arith)) l.3

pub hold_most : (s : Sheet) → LegalHold s.header s.settings.hold → (c : ℕ) → hold_at s c ≤ measured s.header c
unfolding hold_at
hold_most s l c = count_most s.settings.hold s.header l c
