-- Kept: the check finds none of these alone (scripts/answers tries each).
-- `levels_before`: all channels' coefficients fit the lent buffers.
use Rattle.std.proofs.Common.{◌*◌, ◌∙◌, arith, rules, take}
use Rattle.std.proofs.lemmas.Iterator.{YieldsList-from_slice, YieldsList-from_map}
use Rattle.std.proofs.lemmas.Iterator.Consumers.{YieldsList-at, sum_by_from_yields_List, fits_by_from_yields_list}
use Rattle.record.specs.declared.Channel.{Channel}
use Rattle.record.proofs.Sizes.{count_3, levels_most, levels_sum}
use Rattle.record.proofs.legal.LegalRun.levels_before.Goals as goal

pub shared_ref_as_front-iter : goal.shared_ref_as_front-iter
shared_ref_as_front-iter c = omega (arith, count_3 c.args.self.run c.args.self.holds)

pub sum-requires-clause-fits : goal.sum-requires-clause-fits
sum-requires-clause-fits c =
    let r = c.args.self.run in
    fits_by_from_yields_list _ _ c.map.result _
    (YieldsList-from_map _ (λ (x : Channel). x.width * x.height) (YieldsList-at c.map.ensures.source (YieldsList-from_slice (take c.args.c r.channels) cc)) c.map.ensures.closure (λ x f q k. search rules))
    (omega (arith, levels_sum r c.args.self.holds (omega arith) c.args.c c.requires, levels_most r c.args.self.holds c.args.c c.requires))

pub returns : goal.returns
returns c =
    let r = c.args.self.run in
    sum_by_from_yields_List _ _ c.map.result _ c.sum.ensures.ran
    (YieldsList-from_map _ (λ (x : Channel). x.width * x.height) (YieldsList-at c.map.ensures.source (YieldsList-from_slice (take c.args.c r.channels) cc)) c.map.ensures.closure (λ x f q k. search rules))
    ∙ levels_sum r c.args.self.holds (omega arith) c.args.c c.requires
