-- What demand 3 asks of the jobs' arithmetic.
use Rattle.std.specs.Prelude.{ℕ, ◌*◌, ◌≤◌, ◌<◌, ◌≡◌, true, false, get_or}
use Rattle.std.specs.Float.{nan}
use Rattle.calls.specs.Run.{Given, count, area, coefs, held}
use Rattle.start.specs.Buffers.{Buffers}
use Rattle.calls.specs.Buffers.{channel, Sized}
use Rattle.calls.specs.Jobs.{Job, push, fidelity, move, project, Jobs}
use Rattle.projection.specs.Blown.{bad}
use Rattle.calls.specs.Demand.{SavedIn}
use Rattle.calls.specs.Between.{GivenOk, AllIn}

-- Lengths are kept. Saved coefficients are in their intervals at the start and stay there, but that project may leave some that are not finite.
-- Each is of a G that start accepts and a channel c of it. Project clips no more coefficients than the channel has.
pub record Laws (J : Jobs) : Type 0 where
  pub start_sized : (G : Given) → GivenOk G → (c : ℕ) → c < count G → Sized (area G) (J.start G c)
  pub start_in : (G : Given) → GivenOk G → (c : ℕ) → c < count G → AllIn G c (J.start G c)
  pub work_sized : (j : Job) (G : Given) → GivenOk G → (c step : ℕ) → c < count G → (b : Buffers) → Sized (area G) b → Sized (area G) (J.work j G c step b)
  pub push_in : (G : Given) → GivenOk G → (c step : ℕ) → c < count G → (b : Buffers) → Sized (area G) b → AllIn G c b → AllIn G c (J.work push G c step b)
  pub fidelity_in : (G : Given) → GivenOk G → (c step : ℕ) → c < count G → (b : Buffers) → Sized (area G) b → AllIn G c b → AllIn G c (J.work fidelity G c step b)
  pub move_in : (G : Given) → GivenOk G → (c step : ℕ) → c < count G → (b : Buffers) → Sized (area G) b → AllIn G c b → AllIn G c (J.work move G c step b)
  pub project_in : (G : Given) → GivenOk G → (c step : ℕ) → c < count G → (b : Buffers) → Sized (area G) b → AllIn G c b
      → (k : ℕ) → k < coefs G.sheet c → bad (get_or (J.work project G c step b).saved k nan) ≡ false → SavedIn G c k (J.work project G c step b)
  pub clip_most : (G : Given) (c : ℕ) (b : Buffers) → J.clip G c b ≤ coefs G.sheet c
  pub blend_sized : (G : Given) → GivenOk G → (step : ℕ) (B : Buffers) → Sized (count G * area G) B → Sized (count G * area G) (J.blending G step B)
  -- blend leaves a held channel's buffers (M-108)
  pub blend_held : (G : Given) → GivenOk G → (step c : ℕ) → c < count G → held G.sheet c step ≡ true → (B : Buffers) → Sized (count G * area G) B
      → channel (area G) c (J.blending G step B) ≡ channel (area G) c B
  pub blend_in : (G : Given) → GivenOk G → (step c : ℕ) → c < count G → (B : Buffers) → Sized (count G * area G) B
      → AllIn G c (channel (area G) c B) → AllIn G c (channel (area G) c (J.blending G step B))
