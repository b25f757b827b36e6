-- What each job makes of a channel's bounds in step s. At the start of the step no value of the plane is larger than B, which is 2 ^ (27 + 4 s), and no
-- value of the gradient than 2 ^ (62 + s). A channel that a job leaves as it was, as one that is held, has the job's bounds too.
use mathlib.Core.Path.{◌≡◌, sym, ap, ◌∙◌, subst}
use mathlib.Core.Bool.{Bool}
use Prim.Native.Nat.{ℕ, zero, suc, ◌+◌, ◌*◌, ◌^◌, ◌≤◌, ◌<◌}
use native.Mathlib.Nat.{le_trans, le_of_eq, le_refl, add-le-add, mul-le-mul_right, one-mul}
use native.Mathlib.Omega.{arith}
use lib.Dec.{lit≤}
use lib.Pow.{pow-add, pow_mono}
use lib.ListN.{replicate}
use lib.Ieee.{Float}
use Rattle.float.specs.Names.{f0}
use Rattle.steps.specs.declared.solve.Constants.{Constants}
use Rattle.steps.specs.Solve.{Planes}
use Rattle.steps.proofs.Laws.{pushed_prior}
use Rattle.gradients.specs.Tv.{Terms}
use Rattle.gradients.specs.Blend.{blended}
use Rattle.start.specs.declared.coef.Reorder.{Reorder}
use Rattle.start.specs.Buffers.{Buffers}
use Rattle.start.specs.Auxiliary.{aux_init}
use Rattle.start.specs.Coef.{Coef, Covers}
use Rattle.start.proofs.Cover.{own_fits}
use Rattle.fidelity.specs.DctGradient.{data_gradient}
use Rattle.calls.specs.Buffers.{Plane, Prior, Gradient, Across, Down, Saved, Sized}
use Rattle.work.specs.Work.{blending, box_of, data_job, moving, projecting, pushing, starting}
use Rattle.bounds.proofs.Magnitude.{Most, Held}
use Rattle.bounds.proofs.Good.{AllGood, all_more, zeros_good}
use Rattle.bounds.proofs.Moves.{pushed_good, moved_good}
use Rattle.bounds.proofs.Start.{CoefOk, pixels_good, target_good}
use Rattle.bounds.proofs.Data.{data_good}
use Rattle.bounds.proofs.Bumps.{Scale}
use Rattle.bounds.proofs.Blend.{blended_good}
use Rattle.bounds.proofs.Project.{times_held, times_most}
use Rattle.bounds.proofs.Projected.{projected_good}

-- bounds of plane, prior, gradient and the two differences; saved is at most 2 ^ 19 always
pub record Bounded (plane prior gradient sides : ℕ) (b : Buffers) : Type 0 where
  pub plane_good : AllGood plane b.plane
  pub prior_good : AllGood prior b.prior
  pub gradient_good : AllGood gradient b.gradient
  pub across_good : AllGood sides b.across
  pub down_good : AllGood sides b.down
  pub saved_good : AllGood (2 ^ 168) b.saved

bounded_more : (p r g s p' r' g' s' : ℕ) (b : Buffers) → p ≤ p' → r ≤ r' → g ≤ g' → s ≤ s' → Bounded p r g s b → Bounded p' r' g' s' b
bounded_more p r g s p' r' g' s' b hp hr hg hs x =
    record {
      plane_good = all_more p p' b.plane hp x.plane_good;
      prior_good = all_more r r' b.prior hr x.prior_good;
      gradient_good = all_more g g' b.gradient hg x.gradient_good;
      across_good = all_more s s' b.across hs x.across_good;
      down_good = all_more s s' b.down hs x.down_good;
      saved_good = x.saved_good;
    }

-- exponents of step s, in units of 2 ^ -149
abbrev pub size : ℕ → ℕ
size s = 176 + 4 * s

abbrev pub slope : ℕ → ℕ
slope s = 211 + s

-- after so many jobs of a step, 0 push to 4 project; after five the next step starts, with 16 times the bounds of planes and twice that of the gradient
abbrev pub At : ℕ → ℕ → Buffers → Type 0
At zero s b = Bounded (2 ^ size s) (2 ^ size s) (2 ^ slope s) (2 ^ size s) b
At (suc zero) s b = Bounded (4 * 2 ^ size s) (2 ^ size s) (2 ^ slope s) (2 ^ size s) b
At (suc (suc zero)) s b = Bounded (4 * 2 ^ size s) (2 ^ size s) (2 ^ slope s) (2 ^ size s) b
At (suc (suc (suc zero))) s b = Bounded (4 * 2 ^ size s) (2 ^ size s) (2 ^ slope (suc s)) (2 ^ (3 + size s)) b
At (suc (suc (suc (suc zero)))) s b = Bounded (5 * 2 ^ size s) (2 ^ size s) (2 ^ slope (suc s)) (2 ^ (3 + size s)) b
At (suc (suc (suc (suc (suc j))))) s b = Bounded (2 ^ (4 + size s)) (2 ^ (4 + size s)) (2 ^ slope (suc s)) (2 ^ (4 + size s)) b

-- ---- a job that leaves a channel as it was

pub resting : (j s : ℕ) → j < 5 → (b : Buffers) → At j s b → At (suc j) s b
resting zero s h b x =
    let B = 2 ^ size s in
    bounded_more B B (2 ^ slope s) B (4 * B) B (2 ^ slope s) B b (le_trans (le_of_eq (sym (one-mul B))) (mul-le-mul_right B (lit≤ tt))) (le_refl B) (le_refl (2 ^ slope s)) (le_refl B) x
resting (suc zero) s h b x = x
resting (suc (suc zero)) s h b x =
    let B = 2 ^ size s in
    let g : slope s ≤ slope (suc s) = omega arith in
    let e : size s ≤ 3 + size s = omega arith in
    bounded_more (4 * B) B (2 ^ slope s) B (4 * B) B (2 ^ slope (suc s)) (2 ^ (3 + size s)) b (le_refl (4 * B)) (le_refl B) (pow_mono g) (pow_mono e) x
resting (suc (suc (suc zero))) s h b x =
    let B = 2 ^ size s in
    let S = 2 ^ (3 + size s) in
    let g = 2 ^ slope (suc s) in
    bounded_more (4 * B) B g S (5 * B) B g S b (mul-le-mul_right B (lit≤ tt)) (le_refl B) (le_refl g) (le_refl S) x
resting (suc (suc (suc (suc zero)))) s h b x =
    let B = 2 ^ size s in
    let S = 2 ^ (3 + size s) in
    let g = 2 ^ slope (suc s) in
    let U = 2 ^ (4 + size s) in
    let e : size s ≤ 4 + size s = omega arith in
    let d : 3 + size s ≤ 4 + size s = omega arith in
    bounded_more (5 * B) B g S U U g U b (times_most 5 4 (size s) (lit≤ tt)) (pow_mono e) (le_refl g) (pow_mono d) x
resting (suc (suc (suc (suc (suc j))))) s h b x = absurd (omega arith)

-- ---- start, of either kind

pub starting_good : (R : Reorder) (C : Coef) → CoefOk C → (W H : ℕ) → Covers C.own W H → At 0 0 (starting R C W H)
unfolding aux_init
starting_good R C ok W H k =
    let zeros = replicate (W * H) f0 in
    let p = pixels_good C ok R W H k in
    record {
      plane_good = p;
      prior_good = p;
      gradient_good = zeros_good (2 ^ 211) (W * H);
      across_good = zeros_good (2 ^ 176) (W * H);
      down_good = zeros_good (2 ^ 176) (W * H);
      saved_good = target_good C ok zeros (zeros_good (2 ^ 168) (W * H));
    }

-- ---- the jobs of one channel

module _ (s : ℕ) (early : s < 20) where
  low : 176 ≤ size s
  low = omega arith

  high : size s ≤ 252
  high = omega arith

  held_times : (j : ℕ) → j ≤ 2 ^ 7 → Held (j * 2 ^ size s)
  held_times j h = times_held j (size s) h high

  module _ (n : ℕ) (b : Buffers) (z : Sized n b) where
    -- with a factor of at most 1
    pub pushing_good : (k : Constants) → Most (2 ^ 149) k.factor → At 0 s b → At 1 s (pushing k b)
    unfolding pushing
    pushing_good k f r =
        let p : Planes = record { plane = b.plane; prior = b.prior } in
        let long = z Plane ∙ sym (z Prior) in
        record {
          plane_good = pushed_good (2 ^ size s) k.factor p (held_times 2 (lit≤ tt)) (held_times 4 (lit≤ tt)) f long r.plane_good r.prior_good;
          prior_good = subst (AllGood (2 ^ size s)) (sym (pushed_prior k.factor p long)) r.plane_good;
          gradient_good = r.gradient_good;
          across_good = r.across_good;
          down_good = r.down_good;
          saved_good = r.saved_good;
        }

    -- with a step size of at most 2 ^ 8
    pub moving_good : (k : Constants) → Most (2 ^ 157) k.step_size → At 3 s b → At 4 s (moving k b)
    unfolding moving
    moving_good k w r =
        let big : 74 ≤ slope (suc s) = omega arith in
        record {
          plane_good =
              moved_good (4 * 2 ^ size s) (5 * 2 ^ size s) (slope (suc s)) k.step_size b.gradient b.plane (held_times 5 (lit≤ tt)) room w big r.gradient_good
              (z Gradient ∙ sym (z Plane)) r.plane_good;
          prior_good = r.prior_good;
          gradient_good = r.gradient_good;
          across_good = r.across_good;
          down_good = r.down_good;
          saved_good = r.saved_good;
        }
      where
        room : 2 ^ 158 + 4 * 2 ^ size s ≤ 5 * 2 ^ size s
        room = let l : 158 ≤ size s = omega arith in le_trans (add-le-add (pow_mono l) (le_refl (4 * 2 ^ size s))) (le_of_eq (more (2 ^ size s)))
          where
            more : (x : ℕ) → x + 4 * x ≡ 5 * x
            more x = omega arith

  module _ (C : Coef) (ok : CoefOk C) (W H : ℕ) (k : Covers C.own W H) (b : Buffers) (z : Sized (W * H) b) where
    -- with a weight of at most 1
    pub data_job_good : (weight : Float) → Most (2 ^ 149) weight → At 1 s b → At 2 s (data_job C W H weight b)
    unfolding data_job
    data_job_good weight m r =
        let up : 206 ≤ slope s = omega arith in
        record {
          plane_good = r.plane_good;
          prior_good = r.prior_good;
          gradient_good =
              all_more (2 ^ 206) (2 ^ slope s) (data_gradient C W H weight b.saved) (pow_mono up)
              (data_good C ok W H k weight m b.saved (le_trans (own_fits C.own W H k) (le_of_eq (sym (z Saved)))) r.saved_good);
          across_good = r.across_good;
          down_good = r.down_good;
          saved_good = r.saved_good;
        }

    pub projecting_good : At 4 s b → At 5 s (projecting C W H b)
    unfolding projecting
    projecting_good r =
        let g = projected_good C ok W H k (size s) low high (box_of b)
        (record { plane_long = z Plane; across_long = z Across; down_long = z Down; saved_long = z Saved })
        r.plane_good r.across_good r.down_good r.saved_good in
        let up : size s ≤ 4 + size s = omega arith in
        record {
          plane_good = g.plane_good;
          prior_good = all_more (2 ^ size s) (2 ^ (4 + size s)) b.prior (pow_mono up) r.prior_good;
          gradient_good = r.gradient_good;
          across_good = g.across_good;
          down_good = g.down_good;
          saved_good = g.saved_good;
        }

  -- ---- blend, of the lent buffers, which hold all channels'

  -- the gradient counted in units of 2 ^ (39 + s)
  scale : Scale (188 + s)
  scale = record { least = omega arith; most = omega arith }

  pub blending_good : (W H n : ℕ) (held : ℕ → Bool) → W ≤ 512 → H ≤ 512 → 1 ≤ n → n ≤ 3 → (k : Constants) → Most (2 ^ 149) k.second → (b : Buffers) → Sized (n * (W * H)) b
      → At 2 s b → At 3 s (blending W H n held k b)
  unfolding blending
  blending_good W H n held w h some few k light b z r =
      let t : Terms = record { gradient = b.gradient; across = b.across; down = b.down } in
      let v = blended W H n held k.second b.plane t in
      let e = size s in
      let up : e ≤ suc (2 + e) = omega arith in
      let same : suc (2 + e) ≡ 3 + e = omega arith in
      let before : slope s ≡ 23 + (188 + s) = omega arith in
      let after : 24 + (188 + s) ≡ slope (suc s) = omega arith in
      let g = blended_good (188 + s) scale W H n (2 + e) held w h some few (omega arith) (omega arith) b.plane t (z Plane) (z Across) (z Down) k.second light
      (all_more (4 * 2 ^ e) (2 ^ (2 + e)) b.plane (times_most 4 2 e (lit≤ tt)) r.plane_good)
      (subst (λ (i : ℕ). AllGood i b.gradient) (ap (λ (i : ℕ). 2 ^ i) before ∙ pow-add 2 23 (188 + s)) r.gradient_good)
      (all_more (2 ^ e) (2 ^ suc (2 + e)) b.across (pow_mono up) r.across_good)
      (all_more (2 ^ e) (2 ^ suc (2 + e)) b.down (pow_mono up) r.down_good) in
      record {
        plane_good = r.plane_good;
        prior_good = r.prior_good;
        gradient_good = subst (λ (i : ℕ). AllGood i v.gradient) (sym (pow-add 2 24 (188 + s)) ∙ ap (λ (i : ℕ). 2 ^ i) after) g.gradient_good;
        across_good = subst (λ (i : ℕ). AllGood (2 ^ i) v.across) same g.across_good;
        down_good = subst (λ (i : ℕ). AllGood (2 ^ i) v.down) same g.down_good;
        saved_good = r.saved_good;
      }
