-- `digits::digits_law` meets its contract.
use Rattle.std.proofs.Common.{refl}
use Rattle.digits.proofs.Lengths.{decimal_some, decimal_length, decimal_head, hex_length}
use Rattle.digits.proofs.digits_law.Goals as goal

pub returns-clause-some : goal.returns-clause-some
returns-clause-some c = decimal_some

pub returns-clause-most : goal.returns-clause-most
returns-clause-most c = decimal_length

pub returns-clause-no_zero : goal.returns-clause-no_zero
returns-clause-no_zero c = decimal_head

pub returns-clause-hex_digits : goal.returns-clause-hex_digits
returns-clause-hex_digits c = refl

pub returns-clause-hex_length : goal.returns-clause-hex_length
returns-clause-hex_length c = hex_length
