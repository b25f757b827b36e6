-- The job of a number.
use Rattle.std.specs.Prelude.{ℕ, ◌<◌, ◌≤◌, ◌≡◌, ◌↔◌, Result, Err, IfOk, IsOk}
use Rattle.refusal.specs.declared.Refusal.{Refusal}
use Rattle.refusal.specs.declared.Refusal.TheVariants as refusal
use Rattle.record.specs.declared.Job.{Job}
use Rattle.record.specs.Model.{turn_of}

-- a number below 5 is the turn of one job, and another is refused by 9
pub record JobOf (n : ℕ) (r : Result Job Refusal) : Type 0 where
  pub turn : IfOk r (λ j. turn_of j ≡ n)
  pub exists : IsOk r ↔ (n < 5)
  pub refused : r ≡ Err refusal.Turn ↔ (5 ≤ n)
