-- Laws of a definition, of the values that the call moves.
use Rattle.utils.proofs.Moves.{from_past, from_placed, undone_by_to}
use Rattle.utils.proofs.blocks.from_blocks.Goals as goal

pub returns-clause-placed : goal.returns-clause-placed
returns-clause-placed c =
    rw c.move_blocks.ensures (from_placed _ _ _ _ c.requires.width c.requires.height c.args.input.now c.args.output.now c.requires.room)

pub returns-clause-rest : goal.returns-clause-rest
returns-clause-rest c =
    rw c.move_blocks.ensures (from_past _ _ _ _ c.requires.width c.requires.height c.args.input.now c.args.output.now)

pub returns-clause-undone : goal.returns-clause-undone
returns-clause-undone c held long =
    rw c.move_blocks.ensures
    (undone_by_to _ _ _ _ c.requires.width c.requires.height c.args.input.now c.args.output.now held c.requires.given c.requires.room long)
