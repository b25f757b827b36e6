use Rattle.unblown.proofs.Served.{serve_never}
use Rattle.unblown.proofs.Unblown.{solve_never}
use Rattle.unblown.proofs.Text.{smooth_paints}
use Rattle.unblown.proofs.mild_calls_law.Goals as goal

pub returns-clause-serve : goal.returns-clause-serve
returns-clause-serve c = serve_never

pub returns-clause-solve : goal.returns-clause-solve
returns-clause-solve c = solve_never

pub returns-clause-smooth : goal.returns-clause-smooth
returns-clause-smooth c = smooth_paints
