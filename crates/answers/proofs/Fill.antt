-- What a call's number tells of what it wrote.
use mathlib.Core.Path.{◌≡◌, refl}
use mathlib.Core.List.{List}
use mathlib.Core.Logic.{◌≢◌}
use Prim.Native.Nat.{ℕ, zero, suc}
use native.Mathlib.Omega.{arith}
use Rattle.answers.specs.Answers.{fill}

module _ {A : Type 0} where
  -- done, and the new values
  pub fill_done : (n : ℕ) (new old : List A) → (fill n new old).number ≡ 0 → (n ≡ 0) × ((fill n new old).written ≡ new)
  fill_done zero new old e = (refl, refl)
  fill_done (suc n) new old e = absurd (omega arith)

  -- "a refusal leaves .. unchanged"
  pub fill_refused : (n : ℕ) (new old : List A) → (fill n new old).number ≢ 0 → (fill n new old).written ≡ old
  fill_refused zero new old e = absurd (e refl)
  fill_refused (suc n) new old e = refl
