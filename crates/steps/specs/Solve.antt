-- scalar/mod.rs, `solve`: the step constants, and job 1, push.
use Rattle.std.specs.Prelude.{◌≡◌, ℕ, zero, suc, ◌*◌, ◌<◌, ◌≤◌, List, [], ◌∷◌, length, Float}
use Rattle.fold.specs.Fold.{upto}
use Rattle.fold.specs.Part.{part, splice}
use Rattle.float.specs.Ops.{mul_add, square, midpoint, root}
use Rattle.float.specs.Names.{◌⊕◌, ◌⊖◌, ◌⊘◌, f1, f2, f4, float, val}
use Rattle.steps.specs.declared.solve.Constants.{Constants}

-- next_term = f32::midpoint(1, √(mul_add!(4, term.powi(2), 1)))
unfoldable pub next_term : Float → Float
next_term term = midpoint f1 (root (mul_add f4 (square term) f1))

-- term as the step starts, steps counted from 0: 1, and next after each step
abbrev pub term_at : ℕ → Float → Float
term_at k term = next_term term

unfoldable pub term_of : ℕ → Float
term_of step = upto term_at step f1

-- term, factor, step size and second-order weight of a step: full sides W and H, N iterations, the run's smoothing weight
unfoldable pub constants : ℕ → ℕ → ℕ → Float → ℕ → Constants
constants W H N weight step =
    record {
      term = term_of step;
      factor = (term_of step ⊖ f1) ⊘ next_term (term_of step);
      step_size = (root (float (W * H)) ⊘ f2) ⊘ root (f1 ⊕ float N);
      second = weight ⊘ root f2;
    }

-- what push works on: plane (fdata) and prior (fista)
pub record Planes : Type 0 where
  pub plane : List Float
  pub prior : List Float

-- Job 1, of the old plane and the old prior: new plane = mul_add!(factor, plane - prior, plane); new prior = old plane
abbrev pub new_plane : Float → Planes → ℕ → Float
new_plane factor old k = mul_add factor (val old.plane k ⊖ val old.prior k) (val old.plane k)

abbrev pub new_prior : Planes → ℕ → Float
new_prior old k = val old.plane k

-- f 0, f 1, .., f (n - 1)
abbrev pub values : ℕ → (ℕ → Float) → List Float
values zero f = []
values (suc n) f = f 0 ∷ values n (λ k. f (suc k))

-- each place of both, of the old ones alone (both are as long, so that the new prior is the old plane: `pushed_prior` of proofs/Laws.antt)
unfoldable pub pushed : Float → Planes → Planes
pushed factor old =
    record { plane = values (length old.plane) (new_plane factor old); prior = values (length old.prior) (new_prior old) }

-- After each place both planes hold new values up to it and old ones after it. `now` is what they hold once n places are done.
-- `push_places` of src/solve.rt ensures it for each n, and it is the invariant of that function's loop.
pub record PushedTo (factor : Float) (old : Planes) (n : ℕ) (now : Planes) : Type 0 where
  pub new-plane : (k : ℕ) → k < n → val now.plane k ≡ new_plane factor old k
  pub new-prior : (k : ℕ) → k < n → val now.prior k ≡ new_prior old k
  pub old_plane : (k : ℕ) → n ≤ k → val now.plane k ≡ val old.plane k
  pub old_prior : (k : ℕ) → n ≤ k → val now.prior k ≡ val old.prior k
  pub plane_length : length now.plane ≡ length old.plane
  pub prior_length : length now.prior ≡ length old.prior

-- the same of the parts from a to e
abbrev pub part_planes : ℕ → ℕ → Planes → Planes
part_planes a e s = record { plane = part s.plane a e; prior = part s.prior a e }

abbrev pub put_planes : ℕ → ℕ → Planes → Planes → Planes
put_planes a e s t = record { plane = splice s.plane a e t.plane; prior = splice s.prior a e t.prior }

abbrev pub pushed_part : Float → ℕ → ℕ → Planes → Planes
pushed_part factor a e s = put_planes a e s (pushed factor (part_planes a e s))
