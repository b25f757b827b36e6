-- `text::number::read_number` meets its contract: the digits still to come, after the value so far, give the number.
use Rattle.std.proofs.Common.{◌≡◌, ◌<◌, ◌^◌, drop}
use Rattle.text.specs.Numbers.{digits, number_of}
use Rattle.text.proofs.number.read_number.Given as goal

abbrev pub invariant-loop-b : goal.invariant-loop-b
invariant-loop-b l = (l.v < 10 ^ l.b-index) × (digits l.v (drop l.b-index l.f) ≡ number_of l.f)
