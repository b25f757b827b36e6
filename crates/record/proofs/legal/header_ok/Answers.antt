-- Kept: the check finds none of these alone (scripts/answers tries each).
-- `header_ok`: each test in turn; the struct has as many channels as its count says.
use mathlib.Core.Bool.{◌&&◌}
use lib.Dec.{leb}
use Rattle.std.proofs.Common.{arith}
use Rattle.calls.specs.Run.{header_ok, full_side, weight}
use Rattle.record.proofs.Channels.{owns_counted}
use Rattle.record.proofs.legal.header_ok.Goals as goal

pub returns : goal.returns
unfolding header_ok
returns c =
    let r = c.args.run in
    rw (c.full_side_ok.ensures, c.full_side_ok-2.ensures, c.weight_ok.ensures) (owns_counted r (omega arith) (full_side r.w && full_side r.h && leb r.n 1000 && weight r.smoothing))
