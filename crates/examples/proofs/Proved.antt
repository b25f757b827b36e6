-- All rows at once. Each was computed beside the definition that it is about.
use Rattle.float.proofs.Examples as float
use Rattle.interval.proofs.Examples as interval
use Rattle.utils.proofs.Examples as utils
use Rattle.start.proofs.Examples as start
use Rattle.steps.proofs.Examples as steps
use Rattle.gradients.proofs.Examples as gradients
use Rattle.picture.proofs.Examples as picture
use Rattle.examples.specs.Table.{Table}

pub table : Table
table = record {
  exact_from_minus_8 = (interval.exact).0;
  exact_to_8 = (interval.exact).1;
  holds_minus_8 = (interval.holds).0;
  holds_8 = (interval.holds).1;
  not_8½ = (interval.holds).2;
  from_minus_8 = (interval.ends).0;
  to_8 = (interval.ends).1;
  kept_8 = (interval.ends).2;
  moved_8½ = (interval.ends).3;
  exact_from_minus_35 = (interval.exact).2;
  exact_to_minus_25 = (interval.exact).3;
  from_minus_35 = (interval.ends).4;
  to_minus_25 = (interval.ends).5;
  exact_from_521857½ = (interval.exact).4;
  exact_to_522112½ = (interval.exact).5;
  from_521857½ = (interval.ends).6;
  to_522112½ = (interval.ends).7;
  fused_once = float.fused_once;
  rounded_twice = float.rounded_twice;
  root_2 = float.root_two;
  root_4 = float.root_four;
  midpoint_tie = float.midpoint_tie;
  midpoint_largest = float.midpoint_largest;
  flat_block = utils.flat;
  start_after_each = start.striped;
  start_once = start.placed;
  push_gives = steps.push_example;
  first_order = gradients.first_example;
  second_order = gradients.second_example;
  red_pixel = picture.red;
  grey_pixel = picture.grey_cut;
  red_pixel_nearest = picture.red_nearest;
}
