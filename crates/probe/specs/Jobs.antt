-- A channel's own sides and factors, of the four numbers that a C function takes, and blend's totals as they are lent out.
use Rattle.std.specs.Prelude.{List, [], ◌∷◌, ℕ}
use Rattle.std.specs.Float.{binary64}
use Rattle.std.specs.Float.Ieee.{to_bits}
use Rattle.start.specs.declared.coef.Own.{Own}
use Rattle.gradients.specs.declared.Totals.{Totals}

abbrev pub own : ℕ → ℕ → ℕ → ℕ → Own
own width height fx fy = record { width = width; height = height; horizontal = fx; vertical = fy }

abbrev pub bits_of : Totals → List ℕ
bits_of t = to_bits binary64 t.tv ∷ to_bits binary64 t.tgv ∷ []
