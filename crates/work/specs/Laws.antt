-- What the jobs keep of the six buffers.
use Rattle.std.specs.Prelude.{◌≡◌, ℕ, ◌*◌, ◌<◌, ◌≤◌, Bool, true, false, Float}
use Rattle.float.specs.Names.{val}
use Rattle.steps.specs.declared.solve.Constants.{Constants}
use Rattle.start.specs.declared.coef.Reorder.{Reorder}
use Rattle.start.specs.Buffers.{Buffers}
use Rattle.start.specs.Coef.{Coef, Covers, px_count}
use Rattle.projection.specs.Blown.{bad}
use Rattle.calls.specs.Buffers.{channel, Sized}
use Rattle.work.specs.Work.{CoefsIn, Legal, CoefIn, blending, clipping, data_job, moving, projecting, pushing, starting}

-- Start makes six buffers of W × H values each, and every job leaves their lengths.
pub record LengthsKept : Type 0 where
  pub start : (R : Reorder) (C : Coef) (W H : ℕ) → Sized (W * H) (starting R C W H)
  pub push : (n : ℕ) (k : Constants) (b : Buffers) → Sized n b → Sized n (pushing k b)
  pub fidelity : (C : Coef) (W H : ℕ) (weight : Float) (b : Buffers) → Sized (W * H) b → Sized (W * H) (data_job C W H weight b)
  pub blend : (m W H n : ℕ) (held : ℕ → Bool) (k : Constants) (b : Buffers) → Sized m b → Sized m (blending W H n held k b)
  pub move : (n : ℕ) (k : Constants) (b : Buffers) → Sized n b → Sized n (moving k b)
  pub project : (C : Coef) (W H n : ℕ) (b : Buffers) → Sized n b → Sized n (projecting C W H b)

-- Saved coefficients lie in their intervals after start and stay as they are, but for project, after which each that is finite lies there again.
pub record IntervalsKept : Type 0 where
  pub start : (C : Coef) (W H : ℕ) → Covers C.own W H → Legal C → (R : Reorder) → CoefsIn C (starting R C W H)
  pub push : (k : Constants) (b : Buffers) → (pushing k b).saved ≡ b.saved
  pub fidelity : (C : Coef) (W H : ℕ) (weight : Float) (b : Buffers) → (data_job C W H weight b).saved ≡ b.saved
  pub blend : (W H n : ℕ) (held : ℕ → Bool) (k : Constants) (b : Buffers) → (blending W H n held k b).saved ≡ b.saved
  pub move : (k : Constants) (b : Buffers) → (moving k b).saved ≡ b.saved
  pub project : (C : Coef) (W H : ℕ) → Covers C.own W H → Legal C → (b : Buffers) → Sized (W * H) b → (k : ℕ) → k < px_count C.own
      → bad (val (projecting C W H b).saved k) ≡ false → CoefIn C k (projecting C W H b)

-- Blend leaves all that is a held channel's.
abbrev pub HeldLeft : Type 0
HeldLeft = (W H n : ℕ) (held : ℕ → Bool) (k : Constants) (B : Buffers) → Sized (n * (W * H)) B → (c : ℕ) → c < n → held c ≡ true
    → channel (W * H) c (blending W H n held k B) ≡ channel (W * H) c B

-- Project moves no more coefficients than the channel has.
abbrev pub FewClipped : Type 0
FewClipped = (C : Coef) (W H : ℕ) (b : Buffers) → clipping C W H b ≤ px_count C.own
