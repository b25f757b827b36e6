-- Kept: the check finds none of these alone (scripts/answers tries each).
-- `program::solved_with` meets its contract: a legal sheet is not refused, so that an answer other than done is 10.
use native.Mathlib.Omega.{arith}
use mathlib.Core.Path.{refl}
use Rattle.std.specs.Prelude.{Ok}
use Rattle.contents.specs.Sheets.{lent}
use Rattle.record.specs.Lent.{six_of}
use Rattle.rounds.specs.declared.Ran.TheVariants.{Done}
use Rattle.solve.specs.Solve.{answered, numbers_in}
use Rattle.output.proofs.Fronts.{wrote_length, said_ok}
use Rattle.program.proofs.Accepts.{at-most}
use Rattle.program.proofs.Sizes.{refused}
use Rattle.program.proofs.Printing.{is_ok, none_done, solves, done_long, done_text, numbers_small, blown_text}
use Rattle.program.proofs.solved_with.Goals as goal

pub unwrap-requires : goal.unwrap-requires
unwrap-requires c =
    let a = c.args in
    let p = c.requires in
    let o = c.solve in
    is_ok o.result (solves a.s (lent a.given.lows.now a.given.highs.now a.given.tables.now) p.0 (six_of a.six.now) p.1 a.totals.now p.2 (answered o.result) (numbers_in o.result) _ o.ensures.is)

pub unwrap-requires-in_default : goal.unwrap-requires-in_default
unwrap-requires-in_default c = said_ok c.write_refusal.ensures.answer (refused 0 _ (omega arith) c.requires.3)

pub returns-in_default : goal.returns-in_default
returns-in_default c =
    let a = c.args in
    let p = c.requires in
    let f = c.unwrap.result in
    blown_text a.s (lent a.given.lows.now a.given.highs.now a.given.tables.now) p.0 (six_of a.six.now) p.1 a.totals.now p.2 (answered (Ok f)) (numbers_in (Ok f)) _ (rw c.unwrap.ensures at c.solve.ensures.is) (none_done f c.in_default.not-Done)
    a.to.now _ (rw c.unwrap-in_default.ensures at c.write_refusal.ensures.writes)

pub write_numbers-requires : goal.write_numbers-requires
write_numbers-requires c =
    let a = c.args in
    let p = c.requires in
    let f = c.unwrap.result in (
      at-most a.s.header.channels p.0.header.channels,
      numbers_small a.s (lent a.given.lows.now a.given.highs.now a.given.tables.now) p.0 (six_of a.six.now) p.1 a.totals.now p.2 (Ok Done) c.in-Done.clipped _ (rw (c.unwrap.ensures, c.in-Done.is) at c.solve.ensures.is) refl,
      omega (arith, p.3, c.write_sums.ensures.1, wrote_length c.write_sums.ensures.0.wrote (omega (arith, p.3, c.write_sums.ensures.1))),
    )

pub paint-requires : goal.paint-requires
paint-requires c =
    let a = c.args in
    let p = c.requires in
    let f = c.unwrap.result in (
      p.0.header,
      done_long a.s (lent a.given.lows.now a.given.highs.now a.given.tables.now) p.0 (six_of a.six.now) p.1 a.totals.now p.2 (Ok Done) c.in-Done.clipped _ (rw (c.unwrap.ensures, c.in-Done.is) at c.solve.ensures.is) refl,
      omega (
        arith,
        p.3,
        c.write_sums.ensures.1,
        c.write_numbers.ensures.1,
        wrote_length c.write_sums.ensures.0.wrote (omega (arith, p.3, c.write_sums.ensures.1)),
        wrote_length c.write_numbers.ensures.0.wrote (omega (arith, p.3, c.write_sums.ensures.1, c.write_numbers.ensures.1, wrote_length c.write_sums.ensures.0.wrote (omega (arith, p.3, c.write_sums.ensures.1)))),
      ),
    )

pub returns : goal.returns
returns c =
    let a = c.args in
    let p = c.requires in
    let f = c.unwrap.result in
    let r = c.chosen-rounding in
    let t = c.write_sums.ensures in
    let k = c.write_numbers.ensures in
    let same = wrote_length t.0.wrote (omega (arith, p.3, t.1)) in
    done_text a.s (lent a.given.lows.now a.given.highs.now a.given.tables.now) p.0 (six_of a.six.now) p.1 a.totals.now p.2 (Ok Done) c.in-Done.clipped _ (rw (c.unwrap.ensures, c.in-Done.is) at c.solve.ensures.is) refl r.result r.ensures a.to.now _ _ _ t.0 (omega (arith, p.3, t.1)) k.0 (omega (arith, p.3, t.1, k.1, same)) c.paint.ensures
