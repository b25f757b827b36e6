-- What a `Handed` of the code stands for.
use Rattle.calls.specs.Run.{Given}
use Rattle.record.specs.Lent.{levels_in}
use Rattle.record.specs.Model.{given_of}
use Rattle.parts.specs.declared.Handed as Declared

-- the record's sheet, with the levels and tables that it is lent
abbrev pub given_in : Declared.Handed → Given
given_in h = given_of h.turn.legal.run (levels_in h.given) h.given.tables.now
