-- `stitch::write::write_pairs` meets its contract: what is written, and what the channels that are left will write, is the whole.
use Rattle.std.specs.Prelude.{ℕ, List, ◌++◌, ◌≡◌}
use Rattle.std.specs.Iterator.Adapters.{zip_first, zip_second}
use Rattle.std.specs.Slice.Iter.{iter_rest}
use Rattle.copying.specs.Parts.{Put}
use Rattle.seam.specs.Used.{used_of}
use Rattle.stitch.specs.Bytes.{pairs_text}
use Rattle.stitch.proofs.write.write_pairs.Given as goal

abbrev pub invariant-loop-c : goal.invariant-loop-c
invariant-loop-c l =
    let cs = iter_rest (zip_first l.c-iterator) in
    let ds = iter_rest (zip_second l.c-iterator) in
    let n = l.fn.s.header.channels in
    (done : List ℕ) × Put l.initial.to done l.to
    × (done ++ pairs_text l.fn.s cs ds l.rest.left.now l.rest.right.now
    ≡ pairs_text l.fn.s (used_of n l.fn.s) (used_of n l.fn.t) l.from.left.now l.from.right.now)
