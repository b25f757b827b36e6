-- `text::weight::bit_form` meets its contract: the digits still to come, after the value so far, give the bits.
use Rattle.std.proofs.Common.{◌≡◌, ◌<◌, ◌^◌, drop}
use Rattle.text.specs.Weights.{hex_digits, bit_form}
use Rattle.text.proofs.weight.bit_form.Given as goal

abbrev pub invariant-loop-b : goal.invariant-loop-b
invariant-loop-b l = (l.v < 16 ^ l.b-index) × (hex_digits l.v (drop l.b-index l.digits) ≡ bit_form l.f)
