-- The buffers that the recursion fixes for each position of a mild run are bounded, by induction over the positions.
use mathlib.Core.Path.{◌≡◌, refl, subst}
use mathlib.Core.Bool.{Bool, true, false, cond}
use mathlib.Core.List.{List}
use Prim.Native.Nat.{ℕ, zero, suc, ◌+◌, ◌-◌, ◌*◌, ◌/◌, ◌%◌, ◌^◌, ◌≤◌, ◌<◌}
use native.Mathlib.Nat.{le_refl, lt_of_not-le, not-suc-le-zero}
use native.Mathlib.Decide.{dec_le}
use native.Mathlib.Omega.{arith}
use lib.ListN.{drop}
use lib.Ieee.{Float}
use Rattle.start.specs.Buffers.{Buffers}
use Rattle.work.specs.Work.{blending}
use Rattle.calls.specs.Run.{Given, own, count, area, held}
use Rattle.calls.specs.Buffers.{channel, join, joined, part_of, Sized}
use Rattle.calls.specs.Jobs.{push, fidelity, move, project, next, fixed}
use Rattle.calls.specs.Between.{GivenOk}
use Rattle.calls.proofs.Parts.{channel_sized, joined_sized}
use Rattle.demand.specs.Solver.{coef_of, constants_of, jobs}
use Rattle.demand.proofs.Laws.{covers, laws}
use Rattle.bounds.proofs.Good.{AllGood, take_good, drop_good, append_good}
use Rattle.bounds.proofs.Constants.{factor_most, step_size_most, second_weight_most}
use Rattle.mild.specs.Mild.{mild}
use Rattle.mild.proofs.Channel.{Parts, parts, sheet, area_most, some, few, coef_ok, one_most}
use Rattle.mild.proofs.Jobs.{Bounded, At, size, slope, resting, starting_good, pushing_good, data_job_good, blending_good, moving_good, projecting_good}

-- ---- all channels' buffers in one, and a channel's part

join_good : (b k : ℕ) (f : ℕ → List Float) → ((c : ℕ) → c < k → AllGood b (f c)) → AllGood b (join k f)
join_good b zero f g = λ i l. absurd (not-suc-le-zero l)
join_good b (suc k) f g = append_good b (join k f) (f k) (join_good b k f (λ c l. g c (omega arith))) (g k (le_refl (suc k)))

part_good : (b n c : ℕ) (xs : List Float) → AllGood b xs → AllGood b (part_of n c xs)
part_good b n c xs g = take_good b (c * n + n - c * n) (drop (c * n) xs) (drop_good b (c * n) xs g)

joined_bounded : (p r g s k : ℕ) (f : ℕ → Buffers) → ((c : ℕ) → c < k → Bounded p r g s (f c)) → Bounded p r g s (joined k f)
unfolding joined
joined_bounded p r g s k f h =
    record {
      plane_good = join_good p k (λ c. (f c).plane) (λ c l. (h c l).plane_good);
      prior_good = join_good r k (λ c. (f c).prior) (λ c l. (h c l).prior_good);
      gradient_good = join_good g k (λ c. (f c).gradient) (λ c l. (h c l).gradient_good);
      across_good = join_good s k (λ c. (f c).across) (λ c l. (h c l).across_good);
      down_good = join_good s k (λ c. (f c).down) (λ c l. (h c l).down_good);
      saved_good = join_good (2 ^ 168) k (λ c. (f c).saved) (λ c l. (h c l).saved_good);
    }

channel_bounded : (p r g s n c : ℕ) (b : Buffers) → Bounded p r g s b → Bounded p r g s (channel n c b)
unfolding channel
channel_bounded p r g s n c b h =
    record {
      plane_good = part_good p n c b.plane h.plane_good;
      prior_good = part_good r n c b.prior h.prior_good;
      gradient_good = part_good g n c b.gradient h.gradient_good;
      across_good = part_good s n c b.across h.across_good;
      down_good = part_good s n c b.down h.down_good;
      saved_good = part_good (2 ^ 168) n c b.saved h.saved_good;
    }

-- ---- one position further

-- after a step's five jobs the next step starts
on_step : (s : ℕ) (b : Buffers) → At 5 s b → At 0 (suc s) b
on_step s b x = let e : 4 + size s ≡ size (suc s) = omega arith in subst (λ (i : ℕ). Bounded (2 ^ i) (2 ^ i) (2 ^ slope (suc s)) (2 ^ i) b) e x

-- the place in the step, and the step, of the next position
next_place : (r p : ℕ) → p % 5 ≡ r → (b : Buffers) → At (suc r) (p / 5) b → At (suc p % 5) (suc p / 5) b
next_place r p h b = elim (dec_le (suc r) 4) [ yes l ↦ inside l | no q ↦ last (four r p h (lt_of_not-le q)) ]
  where
    inside : r < 4 → At (suc r) (p / 5) b → At (suc p % 5) (suc p / 5) b
    inside l a =
        let j : suc r ≡ suc p % 5 = omega arith in
        let s : p / 5 ≡ suc p / 5 = omega arith in
        subst (λ (i : ℕ). At i (suc p / 5) b) j (subst (λ (i : ℕ). At (suc r) i b) s a)

    four : (r p : ℕ) → p % 5 ≡ r → 4 < suc r → r ≡ 4
    four r p h l = omega arith

    last : r ≡ 4 → At (suc r) (p / 5) b → At (suc p % 5) (suc p / 5) b
    last e a =
        let j : 0 ≡ suc p % 5 = omega arith in
        let s : suc (p / 5) ≡ suc p / 5 = omega arith in
        subst (λ (i : ℕ). At i (suc p / 5) b) j
        (subst (λ (i : ℕ). At 0 i b) s (on_step (p / 5) b (subst (λ (i : ℕ). At (suc i) (p / 5) b) e a)))

module _ (G : Given) (ok : GivenOk G) (m : mild G.sheet ≡ true) where
  light : Parts G.sheet
  light = parts G.sheet m

  -- lengths, and the bounds after j jobs of step s
  abbrev pub Fine : ℕ → ℕ → Buffers → Type 0
  Fine j s b = Sized (area G) b × At j s b

  module _ (s : ℕ) (early : s < 20) (before : ℕ → Buffers) where
    further : (j : ℕ) → j < 5 → ((c : ℕ) → c < count G → Fine j s (before c)) → (c : ℕ) → c < count G → Fine (suc j) s (next jobs G j s before c)
    further zero h r c l = (
      laws.work_sized push G ok c s l (before c) (r c l).0,
      pushing_good s early (area G) (before c) (r c l).0 (constants_of G.sheet s)
          (factor_most G.sheet.W G.sheet.H G.sheet.N G.sheet.smoothing s early) (r c l).1,
    )
    further (suc zero) h r c l =
        let w = (own G.sheet c).data_weight in (
          laws.work_sized fidelity G ok c s l (before c) (r c l).0,
          data_job_good s early (coef_of G c) (coef_ok G ok c l) G.sheet.W G.sheet.H (covers G ok c l) (before c) (r c l).0 w
              (one_most w ((sheet G ok).each_own c l).weight_ok (light.data_weights c l)) (r c l).1,
        )
    further (suc (suc zero)) h r c l =
        let all = joined (count G) before in
        let long = joined_sized (area G) (count G) before (λ c l. (r c l).0) in
        let k = constants_of G.sheet s in
        let b = blending G.sheet.W G.sheet.H (count G) (λ c. held G.sheet c s) k all in (
          channel_sized (area G) c (count G) b (laws.blend_sized G ok s all long) l,
          channel_bounded (4 * 2 ^ size s) (2 ^ size s) (2 ^ slope (suc s)) (2 ^ (3 + size s)) (area G) c b
              (blending_good s early G.sheet.W G.sheet.H (count G) (λ c. held G.sheet c s) (sheet G ok).W-512 (sheet G ok).H-512 (some G ok) (few G ok) k
              (second_weight_most G.sheet.W G.sheet.H G.sheet.N G.sheet.smoothing s (one_most G.sheet.smoothing (sheet G ok).smoothing_ok light.smoothing))
              all long (joined_bounded (4 * 2 ^ size s) (2 ^ size s) (2 ^ slope s) (2 ^ size s) (count G) before (λ c l. (r c l).1))),
        )
    further (suc (suc (suc zero))) h r c l = (
      laws.work_sized move G ok c s l (before c) (r c l).0,
      moving_good s early (area G) (before c) (r c l).0 (constants_of G.sheet s)
          (step_size_most G.sheet.W G.sheet.H G.sheet.N G.sheet.smoothing s (area_most G ok)) (r c l).1,
    )
    further (suc (suc (suc (suc zero)))) h r c l = (
      laws.work_sized project G ok c s l (before c) (r c l).0,
      projecting_good s early (coef_of G c) (coef_ok G ok c l) G.sheet.W G.sheet.H (covers G ok c l) (before c) (r c l).0 (r c l).1,
    )
    further (suc (suc (suc (suc (suc j))))) h r c l = absurd (omega arith)

    -- of a channel that may be held
    or_held : (j : ℕ) → j < 5 → ((c : ℕ) → c < count G → Fine j s (before c)) → (c : ℕ) → c < count G
        → Fine (suc j) s (cond (held G.sheet c s) (before c) (next jobs G j s before c))
    or_held j h r c l = go (held G.sheet c s)
      where
        go : (t : Bool) → Fine (suc j) s (cond t (before c) (next jobs G j s before c))
        go true = ((r c l).0, resting j s h (before c) (r c l).1)
        go false = further j h r c l

  -- every position of the run
  pub fixed_fine : (p : ℕ) → p ≤ 5 * G.sheet.N → (c : ℕ) → c < count G → Fine (p % 5) (p / 5) (fixed jobs G p c)
  unfolding fixed
  fixed_fine zero h c l =
      (laws.start_sized G ok c l, starting_good G.sheet.reorder (coef_of G c) (coef_ok G ok c l) G.sheet.W G.sheet.H (covers G ok c l))
  fixed_fine (suc p) h c l =
      let early : p / 5 < 20 = omega (arith, light.iterations) in
      let r = or_held (p / 5) early (fixed jobs G p) (p % 5) (omega arith) (fixed_fine p (omega arith)) c l in
      (r.0, next_place (p % 5) p refl (cond (held G.sheet c (p / 5)) (fixed jobs G p c) (next jobs G (p % 5) (p / 5) (fixed jobs G p) c)) r.1)
