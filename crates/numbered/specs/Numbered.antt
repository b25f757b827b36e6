-- A call of a run by its numbers: the job's and the channel's.
use Rattle.std.specs.Prelude.{ℕ, zero, suc, ◌≡◌, List, Result}
use Rattle.refusal.specs.declared.Refusal.{Refusal}
use Rattle.start.specs.Coef.{Levels}
use Rattle.start.specs.Buffers.{Buffers}
use Rattle.calls.specs.Jobs.{push, fidelity, move, project, Call, on, blend}
use Rattle.record.specs.declared.Run.{Run}
use Rattle.record.specs.declared.Accepted.{Accepted}
use Rattle.run.specs.Public.{gave, call_of}

-- A call by two numbers. The job's number is the remainder modulo 5 at which it is the next: "0 push to 4 project".
abbrev pub numbered : ℕ → ℕ → Call
numbered zero c = on push c
numbered (suc zero) c = on fidelity c
numbered (suc (suc zero)) c = blend
numbered (suc (suc (suc zero))) c = on move c
numbered (suc (suc (suc (suc k)))) c = on project c

-- what the call of these two numbers gives
abbrev pub NumberedIs : Run → ℕ → ℕ → Levels → List ℕ → Buffers → Result Accepted Refusal → Run → Buffers → Type 0
NumberedIs r job c levels tables B a r' B' = call_of r (numbered job c) levels tables B ≡ gave a r' B'
