-- Kept: the check finds none of these alone (scripts/answers tries each).
-- `blown_part`: the channel's coefficients are no more than its part holds.
use Rattle.std.proofs.Common.{◌*◌, ◌≤◌, length, sym}
use lib.Seq.{length-take-le}
use Rattle.fold.specs.Part.{part}
use Rattle.calls.proofs.Parts.{length_part}
use Rattle.record.proofs.Sizes.{coefs_fit}
use Rattle.parts.proofs.blown_part.Goals as goal

pub slice_bounds-is_blown-end-2 : goal.slice_bounds-is_blown-end-2
slice_bounds-is_blown-end-2 c =
    let r = c.args.turn.legal.run in
    let span = c.span-s.ensures in
    let fits : c.coefs.result ≤ length (part c.args.saved.now c.span-s.result.from c.span-s.result.to) =
    rw (span.1, span.0, c.coefs.ensures, length_part (r.w * r.h) c.args.turn.c r.count c.args.saved.now c.requires.1 c.args.turn.below)
    (coefs_fit r c.args.turn.legal.holds c.args.turn.c c.args.turn.below) in
    sym (length-take-le _ _ fits)
