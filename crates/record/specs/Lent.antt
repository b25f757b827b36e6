-- What the calls are lent beside the record, as the model has it.
use Rattle.std.specs.Prelude.{◌≡◌}
use Rattle.start.specs.Coef.{Levels, pairs}
use Rattle.start.specs.Buffers as Six
use Rattle.record.specs.declared.lent.Given.{Given}
use Rattle.record.specs.declared.lent.Buffers.{Buffers}

-- the levels
abbrev pub levels_in : Given → Levels
levels_in g = pairs g.lows.now g.highs.now

-- the values of the six
abbrev pub six_of : Buffers → Six.Buffers
six_of b =
    record {
      plane = b.plane.now;
      prior = b.prior.now;
      gradient = b.gradient.now;
      across = b.across.now;
      down = b.down.now;
      saved = b.saved.now;
    }

-- each of the six is still the one that was lent, so that its owner learns what is left in it
pub record SameSix (b b' : Buffers) : Type 0 where
  pub plane : b'.plane.ghost_name ≡ b.plane.ghost_name
  pub prior : b'.prior.ghost_name ≡ b.prior.ghost_name
  pub gradient : b'.gradient.ghost_name ≡ b.gradient.ghost_name
  pub across : b'.across.ghost_name ≡ b.across.ghost_name
  pub down : b'.down.ghost_name ≡ b.down.ghost_name
  pub saved : b'.saved.ghost_name ≡ b.saved.ghost_name
