-- Kept: the check finds none of these alone (scripts/answers tries each).
-- `levels`: the channel's levels end within the levels of all channels.
use Prim.Native.Nat.{◌+◌, ◌≤◌}
use native.Mathlib.Omega.{arith}
use Rattle.record.specs.Model.{sheet_of}
use Rattle.record.proofs.Sizes.{levels_small, levels_rise}
use Rattle.parts.proofs.levels_of.Goals as goal

pub overflow_add-to : goal.overflow_add-to
overflow_add-to c =
    let t = c.args.turn in
    let small : c.levels_before-from.result + c.coefs.result ≤ 786432 = rw (c.levels_before-from.ensures, c.coefs.ensures) (levels_small t.legal.run t.legal.holds t.c t.below) in
    record { fits = omega (arith, small) }

pub offset_bounds-values-from : goal.offset_bounds-values-from
offset_bounds-values-from c =
    let t = c.args.turn in
    let small : c.levels_before-from.result + c.coefs.result ≤ 786432 = rw (c.levels_before-from.ensures, c.coefs.ensures) (levels_small t.legal.run t.legal.holds t.c t.below) in
    omega (arith, small)

pub slice_bounds-result-end : goal.slice_bounds-result-end
slice_bounds-result-end c =
    let t = c.args.turn in
    rw (c.levels_before-from.ensures, c.coefs.ensures, c.requires) (levels_rise (sheet_of t.legal.run) t.c t.legal.run.count t.below)
