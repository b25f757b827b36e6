use lib.ListN.{length}
use mathlib.Core.Path.{◌≡◌}
use Rattle.fold.specs.Fold.{upto}
use Rattle.gradients.specs.Held.{live, flag}
use Rattle.gradients.specs.Tgv.{g2_norm_at}
use Rattle.gradients.proofs.tgv.g2_norm_of.Given as goal

abbrev pub invariant-loop-held : goal.invariant-loop-held
invariant-loop-held l = l.g2_norm ≡ upto (live (flag l.fn.held) (g2_norm_at l.fn.d)) (length l.yielded) l.initial.g2_norm
