-- The lent buffers after each job of a channel: what it writes is put back into its part, and the rest stays.
use mathlib.Core.Path.{◌≡◌, refl, ap, ◌∙◌}
use mathlib.Core.Bool.{Bool, true, false, cond}
use mathlib.Core.List.{List}
use Prim.Native.Nat.{ℕ, ◌+◌, ◌*◌, ◌/◌}
use lib.Ieee.{Float}
use Rattle.start.specs.Buffers.{Buffers}
use Rattle.steps.specs.declared.solve.Constants.{Constants}
use Rattle.steps.specs.Solve.{pushed_part}
use Rattle.steps.specs.Step.{moved_part}
use Rattle.projection.specs.Blown.{is_blown}
use Rattle.calls.specs.Run.{Given, own, place, area, coefs, held}
use Rattle.calls.specs.Buffers.{channel, put_channel}
use Rattle.calls.specs.Jobs.{Job, project, Seen, channel_blown}
use Rattle.calls.specs.Calls.{State, worked, seen_in}
use Rattle.calls.proofs.Parts.{same, put-part, put_kept}
use Rattle.work.specs.Work.{pushing, data_job, moving, projecting, clipping}
use Rattle.demand.specs.Solver.{coef_of, jobs}
use Rattle.run.specs.Public.{for_push, for_data, for_move, for_project}
use Rattle.parts.specs.Parts.{fitted_part, projected_part, blown_part, clipped_part}

-- M-108: a held channel's buffers are put back as they were; those of another are its job's
pub put_back : (n c : ℕ) (B : Buffers) → put_channel n c B (channel n c B) ≡ B
put_back n c B = same (put_channel n c B (channel n c B)) B (λ b. put_kept n c B (channel n c B) b refl)

module _ (G : Given) (j : Job) (c : ℕ) (s : State) where
  -- what the job leaves, by whether the channel is held
  abbrev left_by : Bool → Buffers
  left_by h =
      put_channel (area G) c s.buffers (cond h (channel (area G) c s.buffers) (jobs.work j G c ((place s.places c).position / 5) (channel (area G) c s.buffers)))

  pub held_buffers : held G.sheet c ((place s.places c).position / 5) ≡ true → put_channel (area G) c s.buffers (worked jobs G j c s) ≡ s.buffers
  held_buffers e = ap left_by e ∙ put_back (area G) c s.buffers

  pub free_buffers : held G.sheet c ((place s.places c).position / 5) ≡ false → put_channel (area G) c s.buffers (worked jobs G j c s) ≡ left_by false
  free_buffers e = ap left_by e

-- what project tells of a channel that is not held, and of one that is
module _ (G : Given) (c : ℕ) (s : State) where
  abbrev told_by : Bool → Seen
  told_by h =
      let b = channel (area G) c s.buffers in
      record {
        blown = channel_blown G c (cond h b (jobs.work project G c ((place s.places c).position / 5) b));
        clipped = cond h (place s.places c).clipped (jobs.clip G c b);
      }

  pub told_is : (h : Bool) → held G.sheet c ((place s.places c).position / 5) ≡ h → seen_in jobs G project c s ≡ told_by h
  told_is h e = ap told_by e

module _ (n c : ℕ) (o : Buffers) (k : Constants) where
  pub push_buffers : (plane prior : List Float)
      → let s = pushed_part k.factor (c * n) (c * n + n) (record { plane = plane; prior = prior }) in
      put_channel n c (for_push o plane prior) (pushing k (channel n c (for_push o plane prior))) ≡ for_push o s.plane s.prior
  unfolding channel put_channel pushing
  push_buffers plane prior =
      let s = pushed_part k.factor (c * n) (c * n + n) (record { plane = plane; prior = prior }) in
      λ i.
      record {
        plane = s.plane;
        prior = s.prior;
        gradient = put-part n c o.gradient i;
        across = put-part n c o.across i;
        down = put-part n c o.down i;
        saved = put-part n c o.saved i;
      }

  pub move_buffers : (plane gradient : List Float)
      → put_channel n c (for_move o plane gradient) (moving k (channel n c (for_move o plane gradient)))
      ≡ for_move o (moved_part k.step_size (c * n) (c * n + n) gradient plane) gradient
  unfolding channel put_channel moving
  move_buffers plane gradient =
      λ i.
      record {
        plane = moved_part k.step_size (c * n) (c * n + n) gradient plane;
        prior = put-part n c o.prior i;
        gradient = put-part n c gradient i;
        across = put-part n c o.across i;
        down = put-part n c o.down i;
        saved = put-part n c o.saved i;
      }

module _ (G : Given) (c : ℕ) (o : Buffers) where
  pub data_buffers : (gradient saved : List Float)
      → put_channel (area G) c (for_data o gradient saved)
      (data_job (coef_of G c) G.sheet.W G.sheet.H (own G.sheet c).data_weight (channel (area G) c (for_data o gradient saved)))
      ≡ for_data o (fitted_part G c gradient saved) saved
  unfolding channel put_channel data_job
  data_buffers gradient saved =
      λ i.
      record {
        plane = put-part (area G) c o.plane i;
        prior = put-part (area G) c o.prior i;
        gradient = fitted_part G c gradient saved;
        across = put-part (area G) c o.across i;
        down = put-part (area G) c o.down i;
        saved = put-part (area G) c saved i;
      }

  pub project_buffers : (plane across down saved : List Float)
      → let y = projected_part G c (record { plane = plane; across = across; down = down; saved = saved }) in
      put_channel (area G) c (for_project o plane across down saved)
      (projecting (coef_of G c) G.sheet.W G.sheet.H (channel (area G) c (for_project o plane across down saved)))
      ≡ for_project o y.plane y.across y.down y.saved
  unfolding channel put_channel projecting
  project_buffers plane across down saved =
      let y = projected_part G c (record { plane = plane; across = across; down = down; saved = saved }) in
      λ i.
      record {
        plane = y.plane;
        prior = put-part (area G) c o.prior i;
        gradient = put-part (area G) c o.gradient i;
        across = y.across;
        down = y.down;
        saved = y.saved;
      }

  -- the condition of job 5, of the channel's buffers and of the four that project is lent
  pub project_marks : (plane across down saved : List Float)
      → is_blown (coefs G.sheet c)
      (projecting (coef_of G c) G.sheet.W G.sheet.H (channel (area G) c (for_project o plane across down saved))).plane
      (projecting (coef_of G c) G.sheet.W G.sheet.H (channel (area G) c (for_project o plane across down saved))).saved
      ≡ blown_part G c (record { plane = plane; across = across; down = down; saved = saved })
  unfolding channel projecting
  project_marks plane across down saved = refl

  pub project_clips : (plane across down saved : List Float)
      → clipping (coef_of G c) G.sheet.W G.sheet.H (channel (area G) c (for_project o plane across down saved))
      ≡ clipped_part G c (record { plane = plane; across = across; down = down; saved = saved })
  unfolding channel
  project_clips plane across down saved = refl
