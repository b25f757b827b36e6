use mathlib.Core.Path.{◌≡◌, ◌∙◌, ap}
use mathlib.Core.List.{List}
use Prim.Native.Nat.{ℕ, ◌+◌}
use native.Mathlib.Omega.{arith}
use lib.IntN.{ℤ, pos}
use lib.Ieee.{Float, nan}
use lib.ListN.{get_or, length, take}
use Rattle.std.proofs.lemmas.List.{take_all}
use Rattle.std.proofs.lemmas.Simd.{put_chunk_whole}
use Rattle.fold.specs.Part.{part, splice}
use Rattle.fold.proofs.Parts.{part_at, part_length}
use Rattle.float.specs.Names.{val}
use Rattle.interval.specs.Interval.{mid}
use Rattle.utils.proofs.Rows.{eight_ext, turned_row}
use Rattle.fidelity.specs.DctGradient.{cosb_of}
use Rattle.fidelity.proofs.difference.difference_at.Goals as goal

pub returns : goal.returns
returns c =
    let x = c.args.cosbs.now in
    let a = c.args.from in
    let level : ℕ → Float = λ j. mid (get_or c.args.lows.now j (pos 0)) (get_or c.args.highs.now j (pos 0)) in
    let q : ℕ → ℕ = λ j. get_or c.args.table.now j 0 in
    let p = part x a (a + 8) in
    let long : length p ≡ 8 = part_length x a (a + 8) (omega arith) c.requires.room ∙ omega arith in
    let same : take 8 p ≡ p = take_all 8 p (omega arith) in
    let n : length c.cosb_lanes.result ≡ 8 = ap length c.cosb_lanes.ensures in
    let row = rw same at c.cosb_lanes.ensures in
    let values = eight_ext (λ j. cosb_of (level j) (q j) (val p j)) (λ j. cosb_of (level j) (q j) (val x (a + j)))
    (λ j h. ap (cosb_of (level j) (q j)) (part_at x a (a + 8) (omega arith) c.requires.room j nan (omega arith))) in
    ap (λ (r : List Float). splice x a (a + 8) r) (put_chunk_whole p c.cosb_lanes.result (omega arith) ∙ row ∙ values)
    ∙ turned_row (λ j v. cosb_of (level j) (q j) v) x a c.requires.room
