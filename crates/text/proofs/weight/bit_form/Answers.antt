-- Kept: the check finds none of these alone (scripts/answers tries each).
use Rattle.std.proofs.Common.{arith, sym, ◌∙◌, ◌-◌, get_or, take, drop, length}
use Rattle.text.proofs.WeightLaws.{hex_below, hex_small}
use Rattle.text.proofs.weight.bit_form.Goals as goal

pub overflow_add-v : goal.overflow_add-v
overflow_add-v c =
    let d = hex_below (get_or (take (length c.args.f.now - 1) (drop 1 c.args.f.now)) c.loop-b.b-index 0) c.in_ok-d.d (sym c.hex_digit.ensures ∙ c.in_ok-d.was) in
    record { fits = omega (arith, d, hex_small c.loop-b.v c.loop-b.b-index c.loop-b.invariant.0 (omega arith)) }
