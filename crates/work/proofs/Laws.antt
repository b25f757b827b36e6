-- Every job keeps the lengths; start's saved coefficients are in their intervals, and project's unless they are not finite; the other jobs leave
-- saved alone.
use mathlib.Core.Path.{◌≡◌, refl, sym, ap, ◌∙◌, subst}
use mathlib.Core.Bool.{Bool, true, false, true≢false}
use mathlib.Core.List.{List}
use Prim.Native.Nat.{ℕ, ◌+◌, ◌-◌, ◌*◌, ◌%◌, ◌<◌, ◌≤◌}
use native.Mathlib.Omega.{arith}
use lib.ListN.{length, drop, replicate, length-replicate}
use lib.Seq.{get_or-take, get_or-drop, ext_get_or}
use lib.Ieee.{Float, nan}
use Rattle.float.specs.Names.{f0, val}
use Rattle.interval.specs.Interval.{InInterval, clamp_to, dequantised}
use Rattle.interval.proofs.Clamp.{clamp_in, clamp_nan}
use Rattle.interval.proofs.HalfSum.{mid_in}
use Rattle.steps.specs.declared.solve.Constants.{Constants}
use Rattle.steps.proofs.Laws.{moved_length, push_plane_length, push_prior_length}
use Rattle.gradients.specs.Tv.{Terms}
use Rattle.gradients.specs.Apart.{NotWritten}
use Rattle.gradients.proofs.Apart.{not_written}
use Rattle.gradients.proofs.Laws.{blended_across_length, blended_down_length, blended_gradient_length}
use Rattle.start.specs.declared.coef.Reorder.{Reorder}
use Rattle.start.specs.Buffers.{Buffers}
use Rattle.start.specs.Coef.{Coef, Covers, image_of, low_at, high_at, px_count, quant_at}
use Rattle.start.specs.Auxiliary.{aux_init}
use Rattle.projection.specs.Projection.{project_onto_box, transformed}
use Rattle.projection.specs.Blown.{bad}
use Rattle.start.proofs.Cover.{own_fits}
use Rattle.projection.proofs.Lengths.{BoxLong, projected_long}
use Rattle.fidelity.proofs.Lengths.{data_gradient_length}
use Rattle.start.proofs.Lengths.{init_dct_target_length, init_pixels_length}
use Rattle.projection.proofs.Writes.{clipped_most, projected_saved}
use Rattle.start.proofs.Writes.{init_dct_target_at}
use Rattle.calls.specs.Buffers.{Name, Plane, Prior, Gradient, Across, Down, Saved, get, make, part_of, channel, Sized}
use Rattle.calls.proofs.Parts.{length_part}
use Rattle.work.specs.Work.{CoefsIn, Legal, CoefIn, blending, box_of, clipping, data_job, moving, projecting, pushing, starting}

-- ---- lengths

pub starting_sized : (R : Reorder) (C : Coef) (W H : ℕ) → Sized (W * H) (starting R C W H)
unfolding aux_init
starting_sized R C W H Plane = init_pixels_length (image_of R C) C.own W H
starting_sized R C W H Prior = init_pixels_length (image_of R C) C.own W H
starting_sized R C W H Gradient = length-replicate (W * H) f0
starting_sized R C W H Across = length-replicate (W * H) f0
starting_sized R C W H Down = length-replicate (W * H) f0
starting_sized R C W H Saved = init_dct_target_length C (replicate (W * H) f0) ∙ length-replicate (W * H) f0

pub pushing_sized : (n : ℕ) (k : Constants) (b : Buffers) → Sized n b → Sized n (pushing k b)
unfolding pushing
pushing_sized n k b z Plane = push_plane_length k.factor (record { plane = b.plane; prior = b.prior }) ∙ z Plane
pushing_sized n k b z Prior = push_prior_length k.factor (record { plane = b.plane; prior = b.prior }) ∙ z Prior
pushing_sized n k b z Gradient = z Gradient
pushing_sized n k b z Across = z Across
pushing_sized n k b z Down = z Down
pushing_sized n k b z Saved = z Saved

pub data_job_sized : (C : Coef) (W H : ℕ) (weight : Float) (b : Buffers) → Sized (W * H) b → Sized (W * H) (data_job C W H weight b)
unfolding data_job
data_job_sized C W H weight b z Plane = z Plane
data_job_sized C W H weight b z Prior = z Prior
data_job_sized C W H weight b z Gradient = data_gradient_length C W H weight b.saved
data_job_sized C W H weight b z Across = z Across
data_job_sized C W H weight b z Down = z Down
data_job_sized C W H weight b z Saved = z Saved

module _ (m W H n : ℕ) (held : ℕ → Bool) (k : Constants) (b : Buffers) (z : Sized m b) where
  terms : Terms
  terms = record { gradient = b.gradient; across = b.across; down = b.down }

  pub blending_sized : Sized m (blending W H n held k b)
  unfolding blending terms
  blending_sized Plane = z Plane
  blending_sized Prior = z Prior
  blending_sized Gradient = blended_gradient_length W H n held k.second b.plane terms ∙ z Gradient
  blending_sized Across = blended_across_length W H n held k.second b.plane terms ∙ z Across
  blending_sized Down = blended_down_length W H n held k.second b.plane terms ∙ z Down
  blending_sized Saved = z Saved

-- M-108: blend leaves the buffers of a held channel

-- a channel's parts of two buffers are equal where its values are
part_equal : (area n c : ℕ) (xs ys : List Float) → length xs ≡ n * area → length ys ≡ n * area → c < n
    → ((o : ℕ) → o < area → val xs (c * area + o) ≡ val ys (c * area + o)) → part_of area c xs ≡ part_of area c ys
part_equal area n c xs ys long-xs long-ys below e =
    let at : (zs : List Float) (o : ℕ) → o < area → val (part_of area c zs) o ≡ val zs (c * area + o) =
    λ zs o l. get_or-take (c * area + area - c * area) (drop (c * area) zs) o nan (omega arith) ∙ get_or-drop (c * area) zs o nan in
    let xs-part = length_part area c n xs long-xs below in
    ext_get_or nan (part_of area c xs) (part_of area c ys) (xs-part ∙ sym (length_part area c n ys long-ys below))
    (λ o l. let m : o < area = omega (arith, l, xs-part) in at xs o m ∙ e o m ∙ sym (at ys o m))

module _ (W H n : ℕ) (held : ℕ → Bool) (k : Constants) (B : Buffers) (z : Sized (n * (W * H)) B) (c : ℕ) (below : c < n) (stays : held c ≡ true) where
  left : NotWritten W H n held k.second B.plane (record { gradient = B.gradient; across = B.across; down = B.down })
  left = not_written W H n held k.second B.plane (record { gradient = B.gradient; across = B.across; down = B.down })

  -- each of the six
  each_left : (b : Name) → part_of (W * H) c (get b (blending W H n held k B)) ≡ part_of (W * H) c (get b B)
  unfolding blending
  each_left Plane = refl
  each_left Prior = refl
  each_left Gradient =
      part_equal (W * H) n c (get Gradient (blending W H n held k B)) B.gradient (blending_sized (n * (W * H)) W H n held k B z Gradient) (z Gradient) below
      (λ o l. left.gradient_left c o l stays)
  each_left Across =
      part_equal (W * H) n c (get Across (blending W H n held k B)) B.across (blending_sized (n * (W * H)) W H n held k B z Across) (z Across) below
      (λ o l. left.across_left c o l stays)
  each_left Down =
      part_equal (W * H) n c (get Down (blending W H n held k B)) B.down (blending_sized (n * (W * H)) W H n held k B z Down) (z Down) below
      (λ o l. left.down_left c o l stays)
  each_left Saved = refl

  pub blending_left : channel (W * H) c (blending W H n held k B) ≡ channel (W * H) c B
  unfolding channel
  blending_left = λ i. make (λ b. each_left b i)

pub moving_sized : (n : ℕ) (k : Constants) (b : Buffers) → Sized n b → Sized n (moving k b)
unfolding moving
moving_sized n k b z Plane = moved_length k.step_size b.gradient b.plane ∙ z Plane
moving_sized n k b z Prior = z Prior
moving_sized n k b z Gradient = z Gradient
moving_sized n k b z Across = z Across
moving_sized n k b z Down = z Down
moving_sized n k b z Saved = z Saved

module _ (C : Coef) (W H n : ℕ) (b : Buffers) (z : Sized n b) where
  long : BoxLong n (project_onto_box C W H (box_of b))
  long =
      projected_long C W H n (box_of b)
      (record { plane_long = z Plane; across_long = z Across; down_long = z Down; saved_long = z Saved })

  pub projecting_sized : Sized n (projecting C W H b)
  unfolding projecting
  projecting_sized Plane = long.plane_long
  projecting_sized Prior = z Prior
  projecting_sized Gradient = z Gradient
  projecting_sized Across = long.across_long
  projecting_sized Down = long.down_long
  projecting_sized Saved = long.saved_long

-- ---- what each job leaves alone

pub pushing_saved : (k : Constants) (b : Buffers) → (pushing k b).saved ≡ b.saved
unfolding pushing
pushing_saved k b = refl

pub data_job_saved : (C : Coef) (W H : ℕ) (weight : Float) (b : Buffers) → (data_job C W H weight b).saved ≡ b.saved
unfolding data_job
data_job_saved C W H weight b = refl

pub blending_leaves : (W H n : ℕ) (held : ℕ → Bool) (k : Constants) (b : Buffers)
    → ((blending W H n held k b).plane ≡ b.plane) × ((blending W H n held k b).prior ≡ b.prior) × ((blending W H n held k b).saved ≡ b.saved)
unfolding blending
blending_leaves W H n held k b = (refl, refl, refl)

pub moving_saved : (k : Constants) (b : Buffers) → (moving k b).saved ≡ b.saved
unfolding moving
moving_saved k b = refl

pub projecting_leaves : (C : Coef) (W H : ℕ) (b : Buffers) → ((projecting C W H b).prior ≡ b.prior) × ((projecting C W H b).gradient ≡ b.gradient)
unfolding projecting
projecting_leaves C W H b = (refl, refl)

-- ---- intervals

module _ (C : Coef) (W H : ℕ) (cover : Covers C.own W H) (legal : Legal C) where
  pub starting_in : (R : Reorder) → CoefsIn C (starting R C W H)
  unfolding aux_init
  starting_in R k l =
      let zeros = replicate (W * H) f0 in
      let d = low_at C.levels k in
      let e = high_at C.levels k in
      let q = quant_at C.table (k % 64) in
      let fits : px_count C.own ≤ length zeros = omega (arith, own_fits C.own W H cover, length-replicate (W * H) f0) in
      subst (InInterval d e q) (sym (init_dct_target_at C cover.eights zeros fits k l ∙ ap (λ (m : Float). dequantised m q) (legal.middle_is k)))
      (mid_in d e q (legal.order k) (legal.lows_ok k) (legal.highs_ok k) (legal.table-ok (k % 64)))

  -- saved after project is the clamp of the transformed value
  pub projecting_saved : (b : Buffers) → Sized (W * H) b → (k : ℕ) → k < px_count C.own
      → val (projecting C W H b).saved k
      ≡ clamp_to (low_at C.levels k) (high_at C.levels k) (quant_at C.table (k % 64)) (val (transformed C W H (box_of b)) k)
  unfolding projecting
  projecting_saved b z k l =
      let f = own_fits C.own W H cover in
      projected_saved C cover.eights W H (box_of b) (omega (arith, f, z Across)) (omega (arith, f, z Saved)) k l

  -- and so is in its interval, if it is finite
  pub projecting_in : (b : Buffers) → Sized (W * H) b → (k : ℕ) → k < px_count C.own
      → bad (val (projecting C W H b).saved k) ≡ false → CoefIn C k (projecting C W H b)
  projecting_in b z k l f =
      let d = low_at C.levels k in
      let e = high_at C.levels k in
      let q = quant_at C.table (k % 64) in
      let v = val (transformed C W H (box_of b)) k in
      let is = projecting_saved b z k l in
      let lo = legal.lows_ok k in
      let hi = legal.highs_ok k in
      let le = legal.order k in
      let qo = legal.table-ok (k % 64) in
      let number : v ≡ nan → ⊥ = λ n. true≢false (sym (ap bad (is ∙ ap (clamp_to d e q) n ∙ clamp_nan d e q le lo hi qo)) ∙ f) in
      subst (InInterval d e q) (sym is) (clamp_in d e q le lo hi qo v number)

-- ---- M-104: project moves no more coefficients than the own plane has places
pub clipping_most : (C : Coef) (W H : ℕ) (b : Buffers) → clipping C W H b ≤ px_count C.own
clipping_most C W H b = clipped_most C (transformed C W H (box_of b))
