use Rattle.std.proofs.Common.{◌≡◌}
use Rattle.words.specs.Running.{from_word}
use Rattle.words.proofs.running.from_word.Given as goal

abbrev pub invariant-loop : goal.invariant-loop
invariant-loop l = l.rest ≡ from_word l.counter l.line
