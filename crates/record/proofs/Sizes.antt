-- What a legal record tells of its sizes.
use mathlib.Core.Path.{◌≡◌, refl, ap, ◌∙◌}
use mathlib.Core.List.{[], ◌∷◌}
use mathlib.Core.Logic.{inl, inr}
use Prim.Native.Nat.{ℕ, zero, suc, ◌+◌, ◌*◌, ◌≤◌, ◌<◌}
use native.Mathlib.Nat.{mul-le-mul_right, mul-le-mul_left, suc-mul, le_of_suc-le-suc, eq-or-lt_of_le, le_refl}
use native.Mathlib.Omega.{arith}
use lib.Ieee.Fits.{and_l, and_r}
use lib.ListN.{length, get_or, take}
use Rattle.std.proofs.Common.{sum_by, take-suc}
use Rattle.std.proofs.lemmas.List.Sums.{sum_by-append}
use Rattle.fold.proofs.Grid.{row_end}
use Rattle.calls.specs.Run.{Sheet, own, coefs, levels_before, sheet_ok, places_ok}
use Rattle.calls.proofs.Facts.{OwnIs, SheetIs, sheet_is, own_fits}
use Rattle.calls.specs.Between.{PlacesAre}
use Rattle.calls.proofs.Legal.{places_are}
use Rattle.record.specs.Model.{Legal, sheet_of, places_of, no_channel}
use Rattle.record.specs.declared.Run.{Run}
use Rattle.record.specs.declared.Channel.{Channel}
use Rattle.record.proofs.Channels.{at_own, at_position}

module _ (r : Run) (ok : Legal r) where
  pub facts : SheetIs (sheet_of r)
  facts = sheet_is (sheet_of r) (and_l (sheet_ok (sheet_of r)) (places_ok (sheet_of r) (places_of r)) ok)

  pub places : PlacesAre (sheet_of r) (places_of r)
  places = places_are (sheet_of r) (places_of r) (and_r (sheet_ok (sheet_of r)) (places_ok (sheet_of r) (places_of r)) ok)

  pub count_3 : r.count ≤ 3
  count_3 = elim facts.channels [ inl e ↦ omega arith | inr e ↦ omega arith ]

  pub count_1 : 1 ≤ r.count
  count_1 = elim facts.channels [ inl e ↦ omega arith | inr e ↦ omega arith ]

  pub n_1000 : r.n ≤ 1000
  n_1000 = facts.N-1000

  -- W × H, and channels × W × H
  pub area_small : r.w * r.h ≤ 262144
  area_small = omega (arith, mul-le-mul_right r.h facts.W-512, mul-le-mul_left 512 facts.H-512)

  pub part_ends : (c : ℕ) → c < r.count → c * (r.w * r.h) + r.w * r.h ≤ r.count * (r.w * r.h)
  part_ends c h = row_end c r.count (r.w * r.h) h

  pub all_small : r.count * (r.w * r.h) ≤ 786432
  all_small = omega (arith, mul-le-mul_right (r.w * r.h) count_3, area_small)

  -- a channel's coefficients fit its part, so all channels' levels fit too
  pub coefs_fit : (c : ℕ) → c < r.count → coefs (sheet_of r) c ≤ r.w * r.h
  coefs_fit c h = own_fits (sheet_of r) (own (sheet_of r) c) (facts.each_own c h)

  pub levels_fit : (c : ℕ) → c ≤ r.count → levels_before (sheet_of r) c ≤ c * (r.w * r.h)
  levels_fit zero h = omega arith
  levels_fit (suc c) h = omega (arith, levels_fit c (omega arith), coefs_fit c h, suc-mul c (r.w * r.h))

  pub levels_most : (c : ℕ) → c ≤ r.count → levels_before (sheet_of r) c ≤ 786432
  levels_most c h = omega (arith, levels_fit c h, mul-le-mul_right (r.w * r.h) h, all_small)

  pub levels_small : (c : ℕ) → c < r.count → levels_before (sheet_of r) c + coefs (sheet_of r) c ≤ 786432
  levels_small c h = levels_most (suc c) h

  module _ (three : length r.channels ≡ 3) (c : ℕ) (h : c < r.count) where
    pub here : OwnIs (sheet_of r) (own (sheet_of r) c)
    here = facts.each_own c h

    pub coefs_are : coefs (sheet_of r) c ≡ (get_or r.channels c no_channel).width * (get_or r.channels c no_channel).height
    coefs_are = rw (at_own r c (omega (arith, count_3)) h)

    pub position_small : (get_or r.channels c no_channel).position ≤ 5000
    position_small = omega (arith, n_1000, at_position r c (omega (arith, count_3)) h, (places.each c h).within)

  -- what the code sums: the own sides' products of the channels before c
  module _ (three : length r.channels ≡ 3) where
    pub levels_sum : (c : ℕ) → c ≤ r.count → sum_by (λ (x : Channel). x.width * x.height) (take c r.channels) ≡ levels_before (sheet_of r) c
    levels_sum zero h = refl
    levels_sum (suc c) h =
        ap (sum_by (λ (x : Channel). x.width * x.height)) (take-suc r.channels c no_channel (omega (arith, count_3)))
        ∙ sum_by-append (λ (x : Channel). x.width * x.height) (take c r.channels) (get_or r.channels c no_channel ∷ [])
        ∙ rw (levels_sum c (omega arith), coefs_are three c h) (omega arith)

-- channel c's levels end where the next channel's begin, or before those of a later one
pub levels_rise : (S : Sheet) (c d : ℕ) → c < d → levels_before S c + coefs S c ≤ levels_before S d
levels_rise S c zero h = absurd (omega arith)
levels_rise S c (suc d) h =
    elim (eq-or-lt_of_le (le_of_suc-le-suc h)) [
      | inl e ↦ rw e (le_refl (levels_before S d + coefs S d))
      | inr l ↦ omega (arith, levels_rise S c d l)
    ]
