use Rattle.std.proofs.Common.{◌≡◌, arith, take}
use Rattle.std.proofs.lemmas.List.{take_all}
use Rattle.projection.proofs.Bad.{row_finite}
use Rattle.projection.proofs.blown.are_finite.Goals as goal

pub returns-then-are_above : goal.returns-then-are_above
returns-then-are_above c = λ e.
    let row = c.args.row.now in
    let same : take 8 row ≡ row = take_all 8 row (omega arith) in
    row_finite row c.requires (rw same at (c.are_above.ensures c.if-are_above.true)) (rw same at (c.are_above-then-are_above.ensures e))
