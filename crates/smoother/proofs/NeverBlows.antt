-- What `never_blows` tells of the record that C's record says, as a number.
use mathlib.Core.Path.{◌≡◌, refl, sym, ap, ◌∙◌, subst}
use mathlib.Core.Bool.{Bool, true, false, cond, ◌&&◌}
use Prim.Native.Nat.{ℕ}
use native.Mathlib.Omega.{arith}
use lib.Dec.{leb}
use Rattle.calls.specs.Run.{legal}
use Rattle.record.specs.declared.Run.{Run}
use Rattle.record.specs.Model.{sheet_of, places_of}
use Rattle.mild.specs.Mild.{mild}
use Rattle.mild.specs.Checked.{Tells}
use Rattle.smoother.specs.declared.LentRun.{LentRun}
use Rattle.smoother.specs.Numbers.{run_from, NeverBlowsNumbers}

abbrev number : Bool → ℕ
number b = cond b 1 0

is_one : (b : Bool) → ◌≡◌ {A = ℕ} (cond b 1 0) 1 → b ≡ true
is_one true e = refl
is_one false e = absurd (omega arith)

module _ (x : LentRun) where
  abbrev test : Bool
  test = legal (sheet_of (run_from x)) (places_of (run_from x)) && mild (sheet_of (run_from x))

  pub no_letter_told : leb x.reorder 1 ≡ false → NeverBlowsNumbers x 0 x
  no_letter_told h =
      let e : ◌≡◌ {A = ℕ} (cond (leb x.reorder 1 && test) 1 0) 0 = ap (λ (b : Bool). number (b && test)) h in
      record { exactly = sym e; promise = λ k. absurd (omega arith); same = refl }

  pub told : leb x.reorder 1 ≡ true → (r : Run) → r ≡ run_from x → (b : Bool) → Tells r b → {k : ℕ} → k ≡ cond b 1 0 → NeverBlowsNumbers x k x
  told h r e b t {k} n =
      let u : Tells (run_from x) b = subst (λ (q : Run). Tells q b) e t in
      record {
        exactly = n ∙ ap (λ (c : Bool). cond c 1 0) (u.exactly ∙ sym (ap (λ (c : Bool). c && test) h));
        promise = λ z. u.promise (is_one b (sym n ∙ z));
        same = refl;
      }
