-- Start of every channel: its part of the six put in its place, one channel after the other.
use mathlib.Core.Path.{◌≡◌, sym, ap, ◌∙◌}
use mathlib.Core.Logic.{◌⊎◌, inl, inr}
use mathlib.Core.List.{List}
use Prim.Native.Nat.{ℕ, zero, suc, ◌+◌, ◌*◌, ◌<◌, ◌≤◌}
use native.Mathlib.Nat.{eq-or-lt_of_le}
use native.Mathlib.Omega.{arith}
use lib.ListN.{length}
use Rattle.fold.specs.Fold.{upto}
use Rattle.fold.specs.Part.{splice}
use Rattle.start.specs.Buffers.{Buffers}
use Rattle.start.specs.Coef.{Coef, Levels}
use Rattle.start.specs.Auxiliary.{aux_init}
use Rattle.work.proofs.Laws.{starting_sized}
use Rattle.calls.specs.Run.{Given, count, area}
use Rattle.calls.specs.Buffers.{Plane, Prior, Gradient, Across, Down, Saved, get, channel, put_channel, joined, Sized}
use Rattle.calls.proofs.Parts.{put_sized, put_same, put_other, joined_channels}
use Rattle.demand.specs.Solver.{coef_of, jobs}
use Rattle.record.specs.declared.Run.{Run}
use Rattle.record.specs.Model.{given_of}
use Rattle.parts.specs.Parts.{started_part}

-- ---- one channel's part: as the code puts it together

module _ (r : Run) (c : ℕ) (levels : Levels) (tables : List ℕ) (B : Buffers) where
  pub part_started : {from to : ℕ} → from ≡ c * (r.w * r.h) → to ≡ c * (r.w * r.h) + r.w * r.h
      → {C : Coef} {w h : ℕ} → (C ≡ coef_of (given_of r levels tables) c) × (w ≡ r.w) × (h ≡ r.h)
      → {x : Buffers} → x ≡ aux_init r.reorder C w h
      → record {
        plane = splice B.plane from to x.plane;
        prior = splice B.prior from to x.prior;
        gradient = splice B.gradient from to x.gradient;
        across = splice B.across from to x.across;
        down = splice B.down from to x.down;
        saved = splice B.saved from to x.saved;
      }
      ≡ started_part (given_of r levels tables) c B
  unfolding put_channel
  part_started f t k e =
      λ i.
      let x : Buffers = (e ∙ (λ j. aux_init r.reorder (k.0 j) (k.1 j) (k.2 j))) i in
      record {
        plane = splice B.plane (f i) (t i) x.plane;
        prior = splice B.prior (f i) (t i) x.prior;
        gradient = splice B.gradient (f i) (t i) x.gradient;
        across = splice B.across (f i) (t i) x.across;
        down = splice B.down (f i) (t i) x.down;
        saved = splice B.saved (f i) (t i) x.saved;
      }

-- ---- every channel's part, one after the other

-- each of the six has n values
pub six_long : (n : ℕ) (B : Buffers) → length B.plane ≡ n → length B.prior ≡ n → length B.gradient ≡ n → length B.across ≡ n
    → length B.down ≡ n → length B.saved ≡ n → Sized n B
six_long n B p q g a d s Plane = p
six_long n B p q g a d s Prior = q
six_long n B p q g a d s Gradient = g
six_long n B p q g a d s Across = a
six_long n B p q g a d s Down = d
six_long n B p q g a d s Saved = s

start_sized : (G : Given) (c : ℕ) → Sized (area G) (jobs.start G c)
start_sized G c =
    starting_sized G.sheet.reorder (coef_of G c) G.sheet.W G.sheet.H

module _ (G : Given) (B : Buffers) (long : Sized (count G * area G) B) where
  -- the six after the first k channels
  abbrev after : ℕ → Buffers
  after k = upto (started_part G) k B

  pub after_sized : (k : ℕ) → k ≤ count G → Sized (count G * area G) (after k)
  unfolding upto
  after_sized zero h = long
  after_sized (suc k) h = put_sized (area G) k (count G) (after k) (after_sized k (omega arith)) h (jobs.start G k) (start_sized G k)

  -- what is equal to them
  pub loop_sized : (k : ℕ) → k ≤ count G → {X : Buffers} → X ≡ after k → Sized (count G * area G) X
  loop_sized k h e b = ap (λ (x : Buffers). length (get b x)) e ∙ after_sized k h b

  channel_after : (k : ℕ) → k ≤ count G → (c : ℕ) → c < k → channel (area G) c (after k) ≡ jobs.start G c
  unfolding upto
  channel_after zero h c l = absurd (omega arith)
  channel_after (suc k) h c l = go (eq-or-lt_of_le l) (channel_after k (omega arith) c)
    where
      before : Sized (count G * area G) (after k)
      before = after_sized k (omega arith)

      go : (suc c ≡ suc k) ⊎ (suc c < suc k) → (c < k → channel (area G) c (after k) ≡ jobs.start G c)
          → channel (area G) c (started_part G k (after k)) ≡ jobs.start G c
      go (inl e) ih =
          let same : c ≡ k = omega arith in
          ap (λ (d : ℕ). channel (area G) d (started_part G k (after k))) same
          ∙ put_same (area G) k (count G) (after k) before h (jobs.start G k) (start_sized G k)
          ∙ ap (jobs.start G) (sym same)
      go (inr q) ih =
          put_other (area G) k (count G) (after k) before h (jobs.start G k) (start_sized G k) c (omega arith) (omega arith) ∙ ih (omega arith)

  pub all_started : joined (count G) (jobs.start G) ≡ after (count G)
  all_started = joined_channels (area G) (count G) (jobs.start G) (after (count G)) (after_sized (count G) (omega arith)) (channel_after (count G) (omega arith))
