-- `through::run` meets its contract: a full buffer holds all that decides, and what `smooth_text` leaves is written whole.
use Rattle.std.proofs.Common.{rules, arith, take}
use Rattle.through.proofs.Whole.{whole, enough, front, finish}
use Rattle.through.proofs.run.Goals as goal

pub returns-clause-writes : goal.returns-clause-writes
returns-clause-writes g c =
    finish c.write_all.result (g.R.Read.remaining c.args.input.now) _ _ _ (take c.in_ok-n.n c.read_full.new.buf) _
    (enough _ (search rules))
    (whole _ _ c.in_ok-n.n c.read_full.new.buf c.in_ok-n.ensures.bytes (search rules) (λ h. c.in_ok-n.ensures.end (omega (arith, h, c.read_full.ensures.len))))
    (front _ _ _ _ (rw c.unwrap-m.ensures at c.smooth_text.ensures.writes))
    c.write_all.ensures.bytes
