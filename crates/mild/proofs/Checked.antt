-- What `never_blows` tells: where it is true, the theorem speaks of the record.
use mathlib.Core.Path.{◌≡◌, sym, ◌∙◌}
use mathlib.Core.Bool.{Bool, ◌&&◌}
use Rattle.answers.proofs.Tests.{and_right}
use Rattle.calls.specs.Run.{legal}
use Rattle.record.specs.declared.Run.{Run}
use Rattle.record.specs.Model.{sheet_of, places_of, given_of}
use Rattle.mild.specs.Mild.{mild}
use Rattle.mild.specs.Checked.{Tells}
use Rattle.mild.proofs.Never.{never_blows}

pub tells_of : (r : Run) (b : Bool) → b ≡ (legal (sheet_of r) (places_of r) && mild (sheet_of r)) → Tells r b
tells_of r b e =
    record {
      exactly = e;
      promise = λ t levels tables s a xs. never_blows (given_of r levels tables) (and_right (legal (sheet_of r) (places_of r)) (mild (sheet_of r)) (sym e ∙ t)) s a xs;
    }
