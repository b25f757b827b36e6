-- Kept: the check finds none of these alone (scripts/answers tries each).
-- `output::put_hex`, which calls itself, meets its contract.
use Prim.Native.Nat.{◌-◌, ◌/◌}
use mathlib.Core.Path.{sym}
use native.Mathlib.Omega.{arith}
use Rattle.digits.proofs.Lengths.{hex_length}
use Rattle.copying.proofs.PartLaws.{put_as, put_more}
use Rattle.output.proofs.Lines.{hex_step}
use Rattle.output.proofs.+put_hex.Goals as goal

pub put_byte-requires : goal.put_byte-requires
put_byte-requires t c = omega (arith, hex_length (c.args.k - 1) (c.args.n / 16), c.put_hex.ensures.next)

pub returns : goal.returns
returns t c = put_as (sym (hex_step _ _ c.if-k-eq0.false)) (put_more c.put_hex.ensures (rw c.hex_digit.ensures at c.put_byte.ensures))
