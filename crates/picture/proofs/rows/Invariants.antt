-- `picture::rows` meets its contract: so far as the loop has come, the picture is the rows that it made, and what it was.
use Rattle.std.proofs.Common.{◌≡◌, ◌*◌, ◌++◌, length, drop}
use Rattle.picture.specs.Finish.{to_byte, picture}
use Rattle.picture.proofs.rows.Given as goal

abbrev pub invariant-loop-y : goal.invariant-loop-y
invariant-loop-y l =
    record {
      size : length l.rgb ≡ l.height * (l.width * 3);
      so_far : l.rgb ≡ picture (to_byte l.rounding) l.planes.w l.planes.h l.width l.y l.planes.channels l.planes.values.now ++ drop (l.y * (l.width * 3)) l.initial.rgb;
    }
