-- `replay_pictures::print_next` meets its contract: there is room for every text.
use Rattle.program.proofs.Printing.{has_room}
use Rattle.replay_pictures.proofs.print_next.Goals as goal

pub unwrap-r-requires : goal.unwrap-r-requires
unwrap-r-requires g c = has_room _ _ _ c.requires.1 c.smooth_text.ensures.answer
