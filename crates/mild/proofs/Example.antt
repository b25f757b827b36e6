-- The claim speaks of some run: an 8 by 8 sheet of one channel with 20 iterations, weights of 1, the widest ranges of levels, the largest quantisers, the
-- one reordering and a held count is mild, and start accepts it.
use mathlib.Core.Path.{◌≡◌, refl}
use mathlib.Core.Bool.{true}
use mathlib.Core.List.{[], ◌∷◌}
use lib.Count.{count_trailing_zeros}
use lib.IntN.{pos, negsuc}
use lib.ListN.{replicate}
use lib.Ieee.{le, lt, eq, of_bits, of_fields, odd}
use Rattle.float.specs.Names.{f0, f1}
use Rattle.calls.specs.Run.{Given, Sheet, fresh, weight, own_ok, header_ok, sheet_ok, place_ok, places_ok}
use Rattle.calls.specs.Calls.{State, done, start_refusal, start}
use Rattle.demand.specs.Solver.{jobs}
use Rattle.start.specs.declared.coef.Reorder.TheVariants.{Once}
use Rattle.start.specs.Coef.{pairs}
use Rattle.mild.specs.Mild.{mild}

abbrev sheet : Sheet
sheet =
    record {
      W = 8;
      H = 8;
      N = 20;
      smoothing = f1;
      reorder = Once;
      count = 1;
      owns = record { width = 8; height = 8; across = 1; down = 1; data_weight = f1; held = 3 } ∷ [];
    }

abbrev given : Given
given = record { sheet = sheet; levels = pairs (replicate 64 (negsuc 2046)) (replicate 64 (pos 2047)); tables = replicate 64 255 }

abbrev lent : State
lent =
    let zeros = replicate 64 f0 in
    record { places = fresh ∷ []; buffers = record { plane = zeros; prior = zeros; gradient = zeros; across = zeros; down = zeros; saved = zeros } }

pub is_mild : mild sheet ≡ true
unfolding mild le lt eq of_bits of_fields odd count_trailing_zeros
is_mild = refl

pub is_accepted : (start jobs given lent).answer ≡ done
unfolding start start_refusal sheet_ok header_ok own_ok weight places_ok place_ok of_bits of_fields odd count_trailing_zeros
is_accepted = refl
