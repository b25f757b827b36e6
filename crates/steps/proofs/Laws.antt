-- What push and move do at each place, and that they keep lengths.
use Rattle.std.proofs.Common.{◌≡◌, ℕ, zero, suc, ◌+◌, ◌-◌, ◌⊎◌, inl, inr, ap₂, le_refl, eq-or-lt_of_le, slice_set, ◌<◌, ◌≤◌, List, ◌++◌, take, drop, length, length-append, length-take, length-drop, sym, refl, ap, ◌∙◌, not-suc-le-zero, arith, length-set, ext_get_or}
use Rattle.std.proofs.lemmas.Grind.{get_or-set_at}
use Rattle.std.proofs.lemmas.List.{get_or-set_other, get_or-take, get_or-drop, get_or_append_left, get_or-append_right}
use lib.Ieee.{Float, nan, ne}
use Rattle.fold.specs.Fold.{upto}
use Rattle.fold.proofs.Loops.{upto-keeps}
use Rattle.fold.proofs.Choice.{length-cond}
use Rattle.float.specs.Ops.{mul_add}
use Rattle.float.specs.Names.{◌⊖◌, f0, val}
use Rattle.steps.specs.Solve.{Planes, PushedTo, new_plane, new_prior, pushed, values}
use Rattle.steps.specs.Step.{move_at, moved, moved_by, gradient_norm}

-- ---- lengths

length_values : (n : ℕ) (f : ℕ → Float) → length (values n f) ≡ n
length_values zero f = refl
length_values (suc n) f = ap suc (length_values n (λ k. f (suc k)))

pub push_plane_length : (factor : Float) (s : Planes) → length (pushed factor s).plane ≡ length s.plane
unfolding pushed
push_plane_length factor s = length_values (length s.plane) (new_plane factor s)

pub push_prior_length : (factor : Float) (s : Planes) → length (pushed factor s).prior ≡ length s.prior
unfolding pushed
push_prior_length factor s = length_values (length s.prior) (new_prior s)

pub moved_length : (step-size : Float) (g plane : List Float) → length (moved step-size g plane) ≡ length plane
unfolding moved moved_by
moved_length step-size g plane =
    let norm = gradient_norm g in
    length-cond (ne norm f0) (upto (move_at step-size norm g) (length plane) plane) plane (length plane)
    (upto-keeps length (move_at step-size norm g) (λ k a. simp length-set) (length plane) plane) refl

-- ---- push, place by place

values_at : (n : ℕ) (f : ℕ → Float) (k : ℕ) → k < n → val (values n f) k ≡ f k
values_at zero f k l = absurd (not-suc-le-zero l)
values_at (suc n) f zero l = refl
values_at (suc n) f (suc k) l = values_at n (λ k. f (suc k)) k (omega arith)

module _ (factor : Float) (s : Planes) (h : length s.plane ≡ length s.prior) where
  -- new plane = mul_add!(factor, plane - prior, plane)
  pub pushed_plane : (k : ℕ) → k < length s.plane → val (pushed factor s).plane k ≡ mul_add factor (val s.plane k ⊖ val s.prior k) (val s.plane k)
  unfolding pushed
  pushed_plane k l = values_at (length s.plane) (new_plane factor s) k l

  -- new prior = old plane
  pub pushed_prior : (pushed factor s).prior ≡ s.plane
  unfolding pushed
  pushed_prior =
      ext_get_or nan (values (length s.prior) (new_prior s)) s.plane (length_values (length s.prior) (new_prior s) ∙ sym h)
      (λ k l. values_at (length s.prior) (new_prior s) k (omega (arith, length_values (length s.prior) (new_prior s))))

  -- once every place is done
  pub pushed_all : (t : Planes) → PushedTo factor s (length s.plane) t → t ≡ pushed factor s
  unfolding pushed
  pushed_all t d =
      let plane : t.plane ≡ (pushed factor s).plane =
      ext_get_or nan t.plane (pushed factor s).plane (d.plane_length ∙ sym (push_plane_length factor s))
      (λ k l. let b : k < length s.plane = omega (arith, d.plane_length) in d.new-plane k b ∙ sym (pushed_plane k b)) in
      let prior : t.prior ≡ (pushed factor s).prior =
      ext_get_or nan t.prior (pushed factor s).prior (d.prior_length ∙ sym (push_prior_length factor s))
      (λ k l. let b : k < length s.prior = omega (arith, d.prior_length) in d.new-prior k (omega (arith, h, b)) ∙ sym (values_at (length s.prior) (new_prior s) k b)) in
      λ i. record { plane = plane i; prior = prior i }

-- pushed on the first n places, with the others as they were
pub pushed_front : (factor : Float) (plane prior xs ys : List Float) (n : ℕ) → n ≤ length plane
    → PushedTo factor (record { plane = take n plane; prior = prior }) n (record { plane = xs; prior = ys })
    → PushedTo factor (record { plane = plane; prior = prior }) n (record { plane = xs ++ drop n plane; prior = ys })
pushed_front factor plane prior xs ys n h d =
    let long : length xs ≡ n = omega (arith, d.plane_length, length-take {A = Float}) in
    record {
      new-plane = λ k l.
          get_or_append_left xs (drop n plane) nan k (omega arith) ∙ d.new-plane k l
          ∙ ap (λ (v : Float). mul_add factor (v ⊖ val prior k) v) (get_or-take n plane k nan l);
      new-prior = λ k l. d.new-prior k l ∙ get_or-take n plane k nan l;
      old_plane = λ k l.
          get_or-append_right xs (drop n plane) n k nan long l ∙ get_or-drop n plane (k - n) nan
          ∙ ap (λ (i : ℕ). val plane i) (omega arith);
      old_prior = d.old_prior;
      plane_length = omega (arith, length-append {A = Float}, length-drop {A = Float});
      prior_length = d.prior_length;
    }

-- one place more
pub pushed_more : (factor : Float) (s : Planes) (xs ys : List Float) (i : ℕ) → i < length s.plane → i < length s.prior
    → PushedTo factor s i (record { plane = xs; prior = ys }) → (v : Float) → v ≡ mul_add factor (val xs i ⊖ val ys i) (val xs i)
    → PushedTo factor s (i + 1) (record { plane = slice_set xs i v; prior = slice_set ys i (val xs i) })
pushed_more factor s xs ys i a b d v e = record {
  new-plane = λ k l. new_at k (eq-or-lt_of_le (omega arith));
  new-prior = λ k l. prior_at k (eq-or-lt_of_le (omega arith));
  old_plane = λ k l. get_or-set_other xs i k v nan (later k l) ∙ d.old_plane k (omega arith);
  old_prior = λ k l. get_or-set_other ys i k (val xs i) nan (later k l) ∙ d.old_prior k (omega arith);
  plane_length = length-set xs i v ∙ d.plane_length;
  prior_length = length-set ys i (val xs i) ∙ d.prior_length;
}
  where
    later : (k : ℕ) → i + 1 ≤ k → k ≡ i → ⊥
    later k l q = omega (arith, l, q)

    before : (k : ℕ) → k < i → k ≡ i → ⊥
    before k l q = omega (arith, l, q)

    here : val xs i ≡ val s.plane i
    here = d.old_plane i (le_refl i)

    new_at : (k : ℕ) → (k ≡ i) ⊎ (k < i) → val (slice_set xs i v) k ≡ new_plane factor s k
    new_at k (inl q) =
        get_or-set_at xs i k v nan q (omega (arith, a, d.plane_length)) ∙ e
        ∙ ap₂ (λ (x y : Float). mul_add factor (x ⊖ y) x) here (d.old_prior i (le_refl i)) ∙ ap (new_plane factor s) (sym q)
    new_at k (inr l) = get_or-set_other xs i k v nan (before k l) ∙ d.new-plane k l

    prior_at : (k : ℕ) → (k ≡ i) ⊎ (k < i) → val (slice_set ys i (val xs i)) k ≡ new_prior s k
    prior_at k (inl q) = get_or-set_at ys i k (val xs i) nan q (omega (arith, b, d.prior_length)) ∙ here ∙ ap (new_prior s) (sym q)
    prior_at k (inr l) = get_or-set_other ys i k (val xs i) nan (before k l) ∙ d.new-prior k l
