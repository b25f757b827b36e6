use mathlib.Core.Path.{subst}
use Rattle.by_numbers.proofs.RoundTrip.{as_of_sheet}
use Rattle.by_numbers.proofs.numbers_law.Goals as goal

pub returns : goal.returns
returns c = λ S levels tables L ks k L' ks' h. subst (λ (X : Type 0). X) (as_of_sheet S levels tables L ks k L' ks') h
