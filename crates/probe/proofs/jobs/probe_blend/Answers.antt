-- Kept: the check finds none of these alone (scripts/answers tries each).
use mathlib.Core.Path.{◌≡◌, refl, ap, ap₂, ◌∙◌}
use mathlib.Core.Bool.{Bool, false}
use mathlib.Core.List.{List, [], ◌∷◌}
use Prim.Native.Nat.{ℕ, zero, suc}
use native.Mathlib.Omega.{arith}
use lib.ListN.{length, set, replicate}
use Rattle.gradients.specs.Tv.{Terms}
use Rattle.gradients.specs.Held.{flag}
use Rattle.gradients.specs.Blend.{blended, totals}
use Rattle.probe.specs.Jobs.{bits_of}
use Rattle.probe.proofs.jobs.probe_blend.Goals as goal

both_set : (xs : List ℕ) (a b : ℕ) → length xs ≡ 2 → set (set xs 0 a) 1 b ≡ a ∷ b ∷ []
both_set [] a b h = absurd (omega arith)
both_set (x ∷ []) a b h = absurd (omega arith)
both_set (x ∷ y ∷ []) a b h = refl
both_set (x ∷ y ∷ z ∷ xs) a b h = absurd (omega arith)

-- no channel is held
never : (c : ℕ) → flag (replicate 3 false) c ≡ false
never zero = refl
never (suc zero) = refl
never (suc (suc zero)) = refl
never (suc (suc (suc c))) = refl

none : ◌≡◌ {A = ℕ → Bool} (flag (replicate 3 false)) (λ c. false)
none = λ i c. never c i

pub returns : goal.returns
returns c =
    let start = c in
    let a = start.args in
    let k = c.step_constants-k in
    let b : Terms = record { gradient = a.gradient.now; across = a.across.now; down = a.down.now } in
    let blend = c.blend-t.ensures in (
      rw (← k.ensures) (blend.0 ∙ ap (λ (f : ℕ → Bool). blended a.w a.h a.n f k.result.second a.plane.now b) none),
      rw (← k.ensures)
          (both_set a.both.now _ _ start.requires.7 ∙ ap₂ (λ (x y : ℕ). x ∷ y ∷ []) c.to_bits.ensures c.to_bits-2.ensures
          ∙ ap bits_of (blend.1 ∙ ap (λ (f : ℕ → Bool). totals a.w a.h a.n f k.result.second a.plane.now b) none)),
    )
