-- M-112 for texts: a mild sheet with legal levels and tables is solved, whoever read them, and `smooth` prints its picture.
use mathlib.Core.Path.{ap, ◌∙◌}
use mathlib.Core.Bool.{Bool, cond}
use Prim.Native.Nat.{ℕ, ◌*◌}
use lib.Dec.{T, eqb}
use lib.ListN.{length, replicate, length-replicate}
use lib.Ieee.Fits.{and_i, eq→eqb}
use Rattle.float.specs.Names.{f0}
use Rattle.start.specs.Buffers.{Buffers}
use Rattle.calls.specs.Calls.{all, all_six, lengths}
use Rattle.contents.specs.Marks.{seen_by}
use Rattle.grammar.proofs.LegalLaws.{legal}
use Rattle.rounds.specs.Whole.{six, loan}
use Rattle.solve.specs.Solve.{blend_count}
use Rattle.program.specs.Printed.{levels_of, limits, printed, says, sheet_text, solved_text}
use Rattle.program.proofs.Accepts.{accepts}
use Rattle.program.proofs.Partner.{seen_legal}
use Rattle.output.specs.Output.{refusal_text}
use Rattle.unblown.specs.Calls.{ContentsNeverBlow, ReadNeverBlows, SmoothPaints}
use Rattle.unblown.proofs.Unblown.{taken_never}

-- room for a sheet's run: six of n values
room : ℕ → Buffers
room n =
    let zeros = replicate n f0 in
    six zeros zeros zeros zeros zeros zeros

room_long : (n : ℕ) → T (all (λ m. eqb m n) (lengths all_six (room n)))
unfolding room
room_long n =
    let t : T (eqb (length (replicate n f0)) n) = eq→eqb (length-replicate n f0) in
    let e = eqb (length (replicate n f0)) n in
    and_i e _ t (and_i e _ t (and_i e _ t (and_i e _ t (and_i e _ t (and_i e _ t tt)))))

pub contents_never : ContentsNeverBlow
contents_never limits S b l m =
    let n = S.header.channels * (S.header.width * S.header.height) in
    let totals = replicate (blend_count S * 2) f0 in
    taken_never S m (levels_of b) b.tables (loan (room n) totals)
    (accepts limits S b l (lengths all_six (room n)) (room_long n) (length totals) (length-replicate (blend_count S * 2) f0))

pub read_never : ReadNeverBlows
read_never limits text c who read m = contents_never limits c.sheet (seen_by who c.held) ((seen_legal limits text c).legal read who) m

-- the program's text is that of the solved sheet
pub smooth_paints : SmoothPaints
unfolding printed says sheet_text
smooth_paints text c read m =
    let b = c.held.lent in
    ap says read
    ∙ ap (λ (t : Bool). cond t (refusal_text 10 0) (solved_text c.sheet (levels_of b) b.tables)) (contents_never limits c.sheet b (legal limits text c.sheet c.held read) m)
