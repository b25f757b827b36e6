-- Demand 3 of the solver: nothing is left open. Every definition that its statement leans on:
--   `Given`, `legal` and what they hold              calls/specs/Run
--   the six buffers, a channel's part, `joined`      start/specs/Buffers, calls/specs/Buffers
--   `Job`, `Call`, `fixed`, the recursion            calls/specs/Jobs
--   `start`, `answers`, `final`, the plain run       calls/specs/Calls
--   `InInterval`                                     interval/specs/Interval
--   `Claim`, `MeetsDemand3`, the statement           calls/specs/Demand
--   `jobs`, the arithmetic of the jobs               demand/specs/Solver, work/specs/Work
use Rattle.calls.specs.Demand.{MeetsDemand3}
use Rattle.calls.proofs.Runs as Runs
use Rattle.demand.specs.Solver.{jobs}
use Rattle.demand.proofs.Laws.{laws}

pub demand3 : MeetsDemand3 jobs
demand3 = Runs.demand3 jobs laws
