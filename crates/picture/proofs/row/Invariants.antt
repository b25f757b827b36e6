-- `picture::row` meets its contract: so far as the loop has come, the row is the pixels that it made, and what it was.
use Rattle.std.proofs.Common.{◌≡◌, ◌*◌, ◌++◌, length, drop}
use Rattle.picture.specs.Finish.{to_byte, row}
use Rattle.picture.proofs.row.Given as goal

abbrev pub invariant-loop-x : goal.invariant-loop-x
invariant-loop-x l =
    record {
      size : length l.out ≡ l.width * 3;
      so_far : l.out ≡ row (to_byte l.rounding) l.planes.channels (l.planes.w * l.planes.h) l.planes.values.now (l.y * l.planes.w) l.x ++ drop (l.x * 3) l.initial.out;
    }
