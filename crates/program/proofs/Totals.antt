-- The lines `T`: how many there are at most, and where each run's stand.
use mathlib.Core.Path.{◌≡◌, refl, sym, ap, ◌∙◌}
use mathlib.Core.Bool.{Bool, true, false, cond}
use mathlib.Core.List.{List, []}
use Prim.Native.Nat.{ℕ, zero, suc, ◌+◌, ◌*◌, ◌≤◌, ◌<◌}
use native.Mathlib.Nat.{suc-mul}
use native.Mathlib.Numerals.{add-one}
use native.Mathlib.Omega.{arith}
use lib.Ieee.{Float}
use lib.ListN.{length}
use Rattle.fold.specs.Fold.{upto}
use Rattle.fold.specs.Join.{join_upto}
use Rattle.fold.specs.Part.{part}
use Rattle.fold.proofs.Parts.{part_length}
use Rattle.contents.specs.declared.Sheet.{Sheet}
use Rattle.contents.specs.Legal.{LegalHeader}
use Rattle.solve.specs.Solve.{iterations_at, steps_before, blend_count}
use Rattle.solve.proofs.Alone.{steps_rise}
use Rattle.copying.specs.declared.Writer.{Writer}
use Rattle.std.specs.Prelude.{Ok}
use Rattle.output.specs.Output.{totals_text, totals_answer, room, Adds}
use Rattle.output.proofs.Sizes.{totals-answer, totals_room}
use Rattle.output.proofs.Fronts.{wrote_length, adds_as, adds_more}
use Rattle.program.specs.Printed.{limits, run_lines, totals_lines, most_totals, AddsTo}
use Rattle.program.proofs.Accepts.{at-most}

-- no run has more than 1,000 steps, and there are at most three runs
module _ (S : Sheet) (l : LegalHeader limits S.header) where
  pub few_steps : (c : ℕ) → iterations_at S c ≤ 1000
  few_steps c = l.iterations c

  steps_most : (c : ℕ) → steps_before S c ≤ c * 1000
  unfolding steps_before
  steps_most zero = omega arith
  steps_most (suc c) = omega (arith, steps_most c, few_steps c, suc-mul c 1000)

  pub blends_most : blend_count S ≤ 3000
  blends_most = go S.header.joint
    where
      go : (b : Bool) → cond b (iterations_at S 0) (steps_before S S.header.channels) ≤ 3000
      go true = omega (arith, few_steps 0)
      go false = omega (arith, steps_most S.header.channels, at-most S.header.channels l.channels)

  module _ (T : List Float) (apart : S.header.joint ≡ false) (long : length T ≡ blend_count S * 2) where
    whole : length T ≡ steps_before S S.header.channels * 2
    whole = long ∙ ap (λ (b : Bool). cond b (iterations_at S 0) (steps_before S S.header.channels) * 2) apart

    -- channel c's part of the totals
    module _ (c : ℕ) (below : c < S.header.channels) where
      next : steps_before S (suc c) ≡ steps_before S c + iterations_at S c
      unfolding steps_before
      next = refl

      pub few : c < 3
      few = omega (arith, at-most S.header.channels l.channels)

      pub from_to : steps_before S c * 2 ≤ steps_before S (suc c) * 2
      from_to = omega (arith, next)

      pub to_most : steps_before S (suc c) * 2 ≤ length T
      to_most = omega (arith, whole, steps_rise S c S.header.channels below)

      part_long : length (part T (steps_before S c * 2) (steps_before S (suc c) * 2)) ≡ iterations_at S c * 2
      part_long = part_length T (steps_before S c * 2) (steps_before S (suc c) * 2) from_to to_most ∙ omega (arith, next)

      -- one run's lines more, which have room
      pub one_more : (u v w : Writer) (from to : ℕ) → from ≡ steps_before S c * 2 → to ≡ steps_before S (c + 1) * 2 → most_totals ≤ room u
          → AddsTo (c * 43000) u (join_upto (run_lines S T) c) v → Adds v (totals_text c (iterations_at S c) (part T from to)) w
          → AddsTo ((c + 1) * 43000) u (join_upto (run_lines S T) (c + 1)) w
      unfolding upto
      one_more u v w from to from_is to_is big early b =
          let steps = iterations_at S c in
          let after : to ≡ steps_before S (suc c) * 2 = to_is ∙ ap (λ (k : ℕ). steps_before S k * 2) (add-one c) in
          let less : steps ≤ 1000 = few_steps c in
          let within : v.at ≤ length u.out.now = omega (arith, few, early.1) in
          let lines = adds_as (ap (totals_text c steps) (λ i. part T (from_is i) (after i))) b in (
            rw add-one (adds_more within early.0 lines),
            omega (arith, early.1, lines.wrote.count, totals_room c steps (part T (steps_before S c * 2) (steps_before S (suc c) * 2)) (omega (arith, few)) (omega arith)),
          )

      pub one_fits : (u v : Writer) (text : List ℕ) (from to : ℕ) → from ≡ steps_before S c * 2 → to ≡ steps_before S (c + 1) * 2 → most_totals ≤ room u
          → AddsTo (c * 43000) u text v → totals_answer c (iterations_at S c) (length (part T from to)) (room v) ≡ Ok tt
      one_fits u v text from to from_is to_is big early =
          let after : to ≡ steps_before S (suc c) * 2 = to_is ∙ ap (λ (k : ℕ). steps_before S k * 2) (add-one c) in
          let less : iterations_at S c ≤ 1000 = few_steps c in
          let within : v.at ≤ length u.out.now = omega (arith, few, early.1) in
          let same : length v.out.now ≡ length u.out.now = wrote_length early.0.wrote within in
          totals-answer c (iterations_at S c) (length (part T from to)) (room v) (omega (arith, few)) (omega arith)
          (ap length (λ i. part T (from_is i) (after i)) ∙ part_long) (omega (arith, few, early.1))

  pub none-yet : (T : List Float) → [] ≡ join_upto (run_lines S T) 0
  unfolding upto
  none-yet T = refl

  -- joint mode: the one run's
  pub joint_lines : (T : List Float) → S.header.joint ≡ true → length T ≡ blend_count S * 2 → (u v : Writer) → most_totals ≤ room u
      → Adds u (totals_text 0 (iterations_at S 0) T) v → AddsTo most_totals u (totals_lines S T) v
  unfolding totals_lines
  joint_lines T j long u v big lines =
      let steps = iterations_at S 0 in
      let less : steps ≤ 1000 = few_steps 0 in (
        adds_as (sym (ap (λ (b : Bool). cond b (totals_text 0 steps T) (join_upto (run_lines S T) S.header.channels)) j)) lines,
        omega (arith, lines.wrote.count, totals_room 0 steps T (omega arith) (omega arith)),
      )

  pub joint_fits : (T : List Float) → S.header.joint ≡ true → length T ≡ blend_count S * 2 → (u : Writer) → most_totals ≤ room u
      → totals_answer 0 (iterations_at S 0) (length T) (room u) ≡ Ok tt
  joint_fits T j long u big =
      let steps = iterations_at S 0 in
      let less : steps ≤ 1000 = few_steps 0 in
      totals-answer 0 steps (length T) (room u) (omega arith) (omega arith) (long ∙ ap (λ (b : Bool). cond b steps (steps_before S S.header.channels) * 2) j) (omega arith)

  -- separate mode: all runs'
  pub apart_lines : (T : List Float) → S.header.joint ≡ false → (u v : Writer) → AddsTo most_totals u (join_upto (run_lines S T) S.header.channels) v
      → AddsTo most_totals u (totals_lines S T) v
  unfolding totals_lines
  apart_lines T j u v b = (adds_as (sym (ap (λ (b : Bool). cond b (totals_text 0 (iterations_at S 0) T) (join_upto (run_lines S T) S.header.channels)) j)) b.0, b.1)
