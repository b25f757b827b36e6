use mathlib.Core.Path.{◌≡◌, ◌∙◌, ap}
use mathlib.Core.List.{List}
use Prim.Native.Nat.{◌+◌}
use native.Mathlib.Omega.{arith}
use mathlib.Core.Bool.{◌||◌}
use lib.Ieee.{Float, lt, nan}
use lib.ListN.{length, take}
use Rattle.std.proofs.lemmas.List.{take_all}
use Rattle.std.proofs.lemmas.Simd.{put_chunk_whole}
use Rattle.fold.specs.Part.{part, splice}
use Rattle.fold.proofs.Loops.{upto_ext}
use Rattle.fold.proofs.Parts.{part_at, part_length}
use Rattle.float.specs.Names.{val}
use Rattle.float.specs.Ops.{clamp}
use Rattle.utils.proofs.Rows.{eight_ext, turned_row}
use Rattle.projection.specs.Projection.{tally}
use Rattle.projection.proofs.clip.clamp_row.Goals as goal

pub returns-clause-clamped : goal.returns-clause-clamped
returns-clause-clamped c =
    let x = c.args.x.now in
    let a = c.args.at in
    let l = c.args.least in
    let m = c.args.most in
    let p = part x a (a + 8) in
    let long : length p ≡ 8 = part_length x a (a + 8) (omega arith) c.requires.room ∙ omega arith in
    let same_p : take 8 p ≡ p = take_all 8 p (omega arith) in
    let n : length c.clamp_lanes.result ≡ 8 = ap length c.clamp_lanes.ensures in
    let row = rw same_p at c.clamp_lanes.ensures in
    let values = eight_ext (λ j. clamp (val p j) (val l j) (val m j)) (λ j. clamp (val x (a + j)) (val l j) (val m j))
    (λ j h. ap (λ (v : Float). clamp v (val l j) (val m j)) (part_at x a (a + 8) (omega arith) c.requires.room j nan (omega arith))) in
    ap (λ (r : List Float). splice x a (a + 8) r) (put_chunk_whole p c.clamp_lanes.result (omega arith) ∙ row ∙ values)
    ∙ turned_row (λ j v. clamp v (val l j) (val m j)) x a c.requires.room

pub returns-clause-counted : goal.returns-clause-counted
returns-clause-counted c =
    let x = c.args.x.now in
    let a = c.args.at in
    let l = c.args.least in
    let m = c.args.most in
    let p = part x a (a + 8) in
    let long : length p ≡ 8 = part_length x a (a + 8) (omega arith) c.requires.room ∙ omega arith in
    let same_p : take 8 p ≡ p = take_all 8 p (omega arith) in
    (rw same_p at c.count_outside-moved.ensures.counted)
    ∙ upto_ext (λ j n. tally (lt (val p j) (val l j) || lt (val m j) (val p j)) n) (λ j n. tally (lt (val x (a + j)) (val l j) || lt (val m j) (val x (a + j))) n) 8 c.args.n
    (λ j n h. ap (λ (v : Float). tally (lt v (val l j) || lt (val m j) v) n) (part_at x a (a + 8) (omega arith) c.requires.room j nan (omega arith)))
