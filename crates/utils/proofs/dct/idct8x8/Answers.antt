use mathlib.Core.Path.{◌∙◌, ap}
use Rattle.utils.specs.Dct.{idct8}
use Rattle.utils.specs.Lanes.{each_lane, joined, transposed}
use Rattle.utils.proofs.Lanes.{passes}
use Rattle.utils.proofs.Opened.{idct_is}
use Rattle.utils.proofs.dct.idct8x8.Goals as goal

pub returns : goal.returns
returns c =
    let columns = c.idct8-columns.ensures ∙ ap (each_lane idct8) c.load.ensures in
    let rows = c.idct8.ensures ∙ ap (each_lane idct8) (c.transpose.ensures ∙ ap transposed columns) in
    c.store.ensures ∙ ap joined (c.transpose-rows.ensures ∙ ap transposed rows) ∙ passes idct8 _ c.requires ∙ idct_is _
