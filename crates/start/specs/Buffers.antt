-- auxiliary.rs, `Aux`: the six buffers of a channel, by document 01's names, with the Rust's fields beside them.
use Rattle.std.specs.Prelude.{List, Float}

pub record Buffers : Type 0 where
  -- fdata
  pub plane : List Float
  -- fista
  pub prior : List Float
  -- obj_gradient
  pub gradient : List Float
  -- pixel_diff.x
  pub across : List Float
  -- pixel_diff.y
  pub down : List Float
  -- cos
  pub saved : List Float
