use mathlib.Core.Path.{◌∙◌, ap}
use Rattle.utils.specs.Dct.{dct8}
use Rattle.utils.specs.Lanes.{each_lane, joined, transposed}
use Rattle.utils.proofs.Lanes.{passes}
use Rattle.utils.proofs.Opened.{dct_is}
use Rattle.utils.proofs.dct.dct8x8.Goals as goal

pub returns : goal.returns
returns c =
    let columns = c.dct8-columns.ensures ∙ ap (each_lane dct8) c.load.ensures in
    let rows = c.dct8.ensures ∙ ap (each_lane dct8) (c.transpose.ensures ∙ ap transposed columns) in
    c.store.ensures ∙ ap joined (c.transpose-rows.ensures ∙ ap transposed rows) ∙ passes dct8 _ c.requires ∙ dct_is _
