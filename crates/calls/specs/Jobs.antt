-- The five jobs, and the recursion that fixes a channel's buffers for each count of accepted jobs (document 01, "Jobs and positions").
-- `Jobs` stands for the arithmetic of the jobs, which is the solver's.
use Rattle.std.specs.Prelude.{ℕ, zero, suc, ◌/◌, ◌%◌, Bool, cond, eqb, Float}
use Rattle.calls.specs.Run.{Given, count, area, coefs, held}
use Rattle.start.specs.Buffers.{Buffers}
use Rattle.projection.specs.Blown.{is_blown}
use Rattle.calls.specs.Buffers.{channel, joined}

-- the jobs of one channel; `fidelity` is document 01's data, which is a word of antt
pub data Job : Type 0 where
  push fidelity move project : Job

-- a call names its job and, but for blend, a channel
pub data Call : Type 0 where
  on : Job → ℕ → Call
  blend : Call

-- "Its remainder modulo 5 gives the next job, 0 push to 4 project"
abbrev pub turn : Job → ℕ
turn push = 0
turn fidelity = 1
turn move = 3
turn project = 4

abbrev pub blend_turn : ℕ
blend_turn = 2

-- What the jobs compute, channels and steps counted from 0.
pub record Jobs : Type 0 where
  -- a channel's buffers at position 0
  pub start : Given → ℕ → Buffers
  -- what a job makes of a channel's buffers: given, channel, step
  pub work : Job → Given → ℕ → ℕ → Buffers → Buffers
  -- what blend makes of the lent buffers, which hold all channels', in a step
  pub blending : Given → ℕ → Buffers → Buffers
  -- and the totals that it returns, `tv_gradient`'s and `tgv_gradient`'s (document 02, M-103)
  pub totals : Given → ℕ → Buffers → Float × Float
  -- how many coefficients project clips, by a channel's buffers before it
  pub clip : Given → ℕ → Buffers → ℕ

-- Channel c's buffers one job later: the job's place in the step, the step, and all channels' buffers before.
abbrev pub next : Jobs → Given → ℕ → ℕ → (ℕ → Buffers) → ℕ → Buffers
next J G zero step before c = J.work push G c step (before c)
next J G (suc zero) step before c = J.work fidelity G c step (before c)
next J G (suc (suc zero)) step before c = channel (area G) c (J.blending G step (joined (count G) before))
next J G (suc (suc (suc zero))) step before c = J.work move G c step (before c)
next J G (suc (suc (suc (suc k)))) step before c = J.work project G c step (before c)

-- "Buffers at position 0 are start's, and those at p + 1 follow from that channel's at p, for blend from all channels' at p; this recursion alone fixes them."
-- M-108: "the position recursion includes this rule": the buffers of a held channel at p + 1 are those at p.
unfoldable pub fixed : Jobs → Given → ℕ → ℕ → Buffers
fixed J G zero c = J.start G c
fixed J G (suc p) c = cond (held G.sheet c (p / 5)) (fixed J G p c) (next J G (p % 5) (p / 5) (fixed J G p) c)

-- what a job of one channel makes of its buffers in a step, M-108's rule included
abbrev pub working : Jobs → Job → Given → ℕ → ℕ → Buffers → Buffers
working J j G c step b = cond (held G.sheet c step) b (J.work j G c step b)

-- the number that project returns and keeps, by that of the project before: "Its project returns and keeps the last clipped number" (M-108)
abbrev pub clips : Jobs → Given → ℕ → ℕ → ℕ → Buffers → ℕ
clips J G c step last b = cond (held G.sheet c step) last (J.clip G c b)

-- M-104: the number that channel c keeps for a count, 0 at the start. A project gives it anew, the other jobs leave it: "the last number".
unfoldable pub kept : Jobs → Given → ℕ → ℕ → ℕ
kept J G zero c = 0
kept J G (suc p) c = cond (eqb (p % 5) (turn project)) (clips J G c (p / 5) (kept J G p c) (fixed J G p c)) (kept J G p c)

-- the condition of job 5, of channel c with these buffers: "any plane value or saved coefficient is NaN or infinite"
abbrev pub channel_blown : Given → ℕ → Buffers → Bool
channel_blown G c b = is_blown (coefs G.sheet c) b.plane b.saved

-- what a job tells of its channel, beside the channel's buffers
pub record Seen : Type 0 where
  -- the condition of job 5 then holds
  pub blown : Bool
  -- how many coefficients project clips
  pub clipped : ℕ

-- by the step, the number kept before, and the channel's buffers before and after the job: "job 5's test for the mark stays" (M-108)
abbrev pub seen : Jobs → Given → ℕ → ℕ → ℕ → Buffers → Buffers → Seen
seen J G c step last before after = record { blown = channel_blown G c after; clipped = clips J G c step last before }

-- of channel c's job after its first p, by the buffers fixed for these counts
abbrev pub seen_at : Jobs → Given → ℕ → ℕ → Seen
seen_at J G p c = seen J G c (p / 5) (kept J G p c) (fixed J G p c) (fixed J G (suc p) c)

-- the totals of the blend at position p, by the buffers fixed for that count
abbrev pub totals_at : Jobs → Given → ℕ → Float × Float
totals_at J G p = J.totals G (p / 5) (joined (count G) (fixed J G p))
