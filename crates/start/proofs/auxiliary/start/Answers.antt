-- Kept: the check finds none of these alone (scripts/answers tries each).
use mathlib.Core.Path.{◌≡◌}
use borrow.Author.Rules.{rules}
use lib.ListN.{replicate}
use Prim.Native.Nat.{◌*◌}
use Rattle.float.specs.Names.{f0}
use Rattle.start.specs.Auxiliary.{aux_init}
use Rattle.start.specs.AsCoef.{as_coef}
use Rattle.start.proofs.Once.{starts_alike}
use Rattle.start.proofs.auxiliary.start.Goals as goal

pub returns-clause-buffers : goal.returns-clause-buffers
unfolding aux_init
returns-clause-buffers c =
    let zeros = replicate (c.args.coef.now.w * c.args.coef.now.h) f0 in
    let gradient : c.fill.new.self ≡ zeros = search rules in
    let across : c.fill-2.new.self ≡ zeros = search rules in
    let down : c.fill-3.new.self ≡ zeros = search rules in
    let saved : c.fill-4.new.self ≡ zeros = search rules in
    let prior : c.copy.new.to ≡ c.init_pixels_into.new.plane = search rules in
    rw (prior, gradient, across, down, c.init_dct_target_into.ensures, saved, c.scalar.ensures.0, c.init_pixels_into.ensures)

pub returns-clause-narrow : goal.returns-clause-narrow
returns-clause-narrow c narrow other =
    let s = c.args.coef.now in
    starts_alike (as_coef s) s.covers.eights narrow c.args.reorder other s.w s.h
