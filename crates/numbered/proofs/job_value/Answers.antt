-- Kept: the check finds none of these alone (scripts/answers tries each).
-- `job_value`: the call of the job.
use mathlib.Core.Path.{◌≡◌, ap, ◌∙◌}
use mathlib.Core.List.{List}
use Prim.Native.Nat.{ℕ}
use Rattle.start.specs.Coef.{Levels}
use Rattle.start.specs.Buffers.{Buffers}
use Rattle.record.specs.declared.Job.{Job}
use Rattle.record.specs.declared.Run.{Run}
use Rattle.record.specs.Lent.{levels_in, six_of}
use Rattle.record.specs.Model.{turn_of}
use Rattle.run.specs.Public.{Outcome, call_of}
use Rattle.numbered.specs.Numbered.{numbered}
use Rattle.numbered.proofs.job_value.Goals as goal

-- what the call of a job gives, the call of the same job does
called : (r : Run) (c : ℕ) (levels : Levels) (tables : List ℕ) (B : Buffers) {o : Outcome} {job k : Job} → job ≡ k
    → call_of r (numbered (turn_of k) c) levels tables B ≡ o → call_of r (numbered (turn_of job) c) levels tables B ≡ o
called r c levels tables B e h = ap (λ (j : Job). call_of r (numbered (turn_of j) c) levels tables B) e ∙ h

pub returns-in-Push-clause-is : goal.returns-in-Push-clause-is
returns-in-Push-clause-is c =
    let a = c.args in
    called a.run.now a.c (levels_in a.given) a.given.tables.now (six_of a.lent.now) c.in-Push.is (c.push.ensures (levels_in a.given) a.given.tables.now (six_of a.lent.now))

pub returns-in-Data-clause-is : goal.returns-in-Data-clause-is
returns-in-Data-clause-is c =
    let a = c.args in
    called a.run.now a.c (levels_in a.given) a.given.tables.now (six_of a.lent.now) c.in-Data.is (c.data.ensures (six_of a.lent.now))

pub returns-in-Blend-clause-is : goal.returns-in-Blend-clause-is
returns-in-Blend-clause-is c =
    let a = c.args in
    called a.run.now a.c (levels_in a.given) a.given.tables.now (six_of a.lent.now) c.in-Blend.is (c.blend.ensures (levels_in a.given) a.given.tables.now (six_of a.lent.now))

pub returns-in-Move-clause-is : goal.returns-in-Move-clause-is
returns-in-Move-clause-is c =
    let a = c.args in
    called a.run.now a.c (levels_in a.given) a.given.tables.now (six_of a.lent.now) c.in-Move.is (c.move_plane.ensures (levels_in a.given) a.given.tables.now (six_of a.lent.now))

pub returns-in-Project-clause-is : goal.returns-in-Project-clause-is
returns-in-Project-clause-is c =
    let a = c.args in
    called a.run.now a.c (levels_in a.given) a.given.tables.now (six_of a.lent.now) c.in-Project.is (c.project.ensures (six_of a.lent.now))
