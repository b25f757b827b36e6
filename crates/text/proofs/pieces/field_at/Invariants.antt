-- `text::pieces::field_at` meets its contract: the fields of what is left are those that are left.
use Rattle.std.proofs.Common.{◌≡◌, drop}
use Rattle.text.specs.Pieces.{split}
use Rattle.text.proofs.pieces.field_at.Given as goal

abbrev pub invariant-loop : goal.invariant-loop
invariant-loop l = split 9 l.rest ≡ drop l.counter (split 9 l.row)
