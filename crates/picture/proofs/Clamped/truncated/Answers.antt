-- Kept: the check finds none of these alone (scripts/answers tries each).
-- `picture::Clamped::truncated` meets its contract. Assumes nothing.
use Rattle.std.proofs.Common.{◌∙◌}
use lib.Ieee.Casts.{to_unsigned-lt}
use Rattle.picture.proofs.Bytes.{in_range, whole_part, no_part}
use Rattle.picture.proofs.Clamped.truncated.Goals as goal

pub truncating_f32_to_u64-requires : goal.truncating_f32_to_u64-requires
truncating_f32_to_u64-requires c =
    let r = in_range c.args.self.v c.args.self.most c.if-self.true in record { lower_bound = r.0; upper_bound = r.1 }

pub overflow_cast-result : goal.overflow_cast-result
overflow_cast-result c = record { fits = rw (c.truncating_f32_to_u64.ensures ∙ whole_part c.args.self.v c.args.self.most) (to_unsigned-lt 8 c.args.self.v) }

pub returns-then-self : goal.returns-then-self
returns-then-self c = c.truncating_f32_to_u64.ensures ∙ whole_part c.args.self.v c.args.self.most

pub returns : goal.returns
returns c = no_part c.args.self.v c.if-self.false
