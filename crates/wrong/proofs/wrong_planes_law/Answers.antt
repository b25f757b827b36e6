use Rattle.wrong.proofs.Wrong.{unmoved, dequantised, at_once}
use Rattle.wrong.proofs.wrong_planes_law.Goals as goal

pub returns-clause-unmoved : goal.returns-clause-unmoved
returns-clause-unmoved c = unmoved

pub returns-clause-dequantised : goal.returns-clause-dequantised
returns-clause-dequantised c = dequantised

pub returns-clause-at_once : goal.returns-clause-at_once
returns-clause-at_once c = at_once
