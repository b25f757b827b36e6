use mathlib.Core.Path.{◌≡◌, ◌∙◌, ap}
use native.Mathlib.Omega.{arith}
use lib.ListN.{length, take}
use Rattle.std.proofs.lemmas.List.{take_all}
use Rattle.std.proofs.lemmas.Simd.{put_chunk_whole}
use Rattle.fidelity.proofs.row.add_row.Goals as goal

pub returns-then-are_zero : goal.returns-then-are_zero
returns-then-are_zero c =
    let v = c.args.v.now in
    let g = c.args.row.now in
    let n : length c.products.result ≡ 8 = ap length c.products.ensures in
    let same_v : take 8 v ≡ v = take_all 8 v (omega arith) in
    let same_g : take 8 g ≡ g = take_all 8 g (omega arith) in
    put_chunk_whole g c.products.result (omega arith) ∙ (rw (same_v, same_g) at c.products.ensures)
