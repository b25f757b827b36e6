-- Kept: the check finds none of these alone (scripts/answers tries each).
use Rattle.std.proofs.Common.{arith, sym, ◌∙◌}
use lib.ListN.{get_or-eq_default}
use Rattle.text.specs.Weights.{weight_of}
use Rattle.text.specs.Numbers.{number_of}
use Rattle.text.proofs.WeightLaws.{after_other}
use Rattle.text.proofs.weight.read_weight.Goals as goal

pub returns-in_default-f : goal.returns-in_default-f
unfolding weight_of number_of
returns-in_default-f c = rw (sym c.bit_form.ensures ∙ c.in_default.is, after_other 119 c.args.f.now (λ e. omega (arith, get_or-eq_default c.args.f.now 0 {n = 0} (omega arith))))

pub returns-in_default-f-2 : goal.returns-in_default-f-2
unfolding weight_of number_of
returns-in_default-f-2 c = rw (sym c.bit_form.ensures ∙ c.in_default.is, after_other 119 c.args.f.now (λ e. omega arith))
