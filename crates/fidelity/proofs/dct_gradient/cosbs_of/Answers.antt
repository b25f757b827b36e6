-- Kept: the check finds none of these alone (scripts/answers tries each).
use borrow.Author.Rules.{rules}
use mathlib.Core.Path.{◌≡◌, ◌∙◌, ap}
use Prim.Native.Nat.{◌+◌, ◌*◌}
use Rattle.fold.specs.Part.{part}
use Rattle.fidelity.specs.DctGradient.{cosbs_of}
use Rattle.utils.specs.Dct.{idct8x8}
use Rattle.fidelity.proofs.dct_gradient.cosbs_of.Goals as goal

pub returns : goal.returns
unfolding cosbs_of
returns c =
    let i = c.args.i in
    let e : c.copy_from_slice.new.self ≡ part c.args.cos.now (i * 64) (i * 64 + 64) = search rules in
    c.idct8x8.ensures ∙ ap idct8x8 (rw (← e) c.difference.ensures)
