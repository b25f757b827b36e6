-- Kept: the check finds none of these alone (scripts/answers tries each).
use Rattle.std.proofs.Common.{◌∙◌, sym, rules, tests}
use Rattle.std.proofs.lemmas.Iterator.{YieldsList-from_slice}
use Rattle.std.proofs.lemmas.Iterator.Search.{any_from_yields_List}
use lib.Ieee.{Float, ne}
use Rattle.float.specs.Names.{f0}
use Rattle.rows.proofs.RowLaws.{idle_of}
use Rattle.rows.proofs.any.Goals as goal

pub returns : goal.returns
returns c = λ e. idle_of c.args.norm.now (sym (any_from_yields_List (λ (m : Float). ne m f0) _ _ _ c.any.ensures.ran (YieldsList-from_slice c.args.norm.now cc) (λ x b q k. search (rules, tests))) ∙ e)
