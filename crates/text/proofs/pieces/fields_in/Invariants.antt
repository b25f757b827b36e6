-- `text::pieces::fields_in` meets its contract: the fields as counted from here are those as counted from the start.
use Rattle.std.proofs.Common.{◌+◌, ◌≤◌, ◌≡◌, length, drop}
use Rattle.text.specs.Pieces.{split}
use Rattle.text.proofs.pieces.fields_in.Given as goal

abbrev pub invariant-loop-b : goal.invariant-loop-b
invariant-loop-b l = (l.fields ≤ l.b-index + 1) × (l.fields + length (split 9 (drop l.b-index l.line)) ≡ 1 + length (split 9 l.line))
