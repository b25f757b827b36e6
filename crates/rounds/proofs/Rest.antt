-- What every call of a run leaves of its record: all but the places of its channels.
use mathlib.Core.Path.{◌≡◌, sym, ap, ◌∙◌}
use mathlib.Core.List.{List}
use Prim.Native.Nat.{ℕ}
use lib.ListN.{length, take, length-map}
use Rattle.calls.specs.Run.{Sheet, Place}
use Rattle.record.specs.declared.Run.{Run}
use Rattle.record.specs.Model.{own_of, place_of, sheet_of, places_of, placed}
use Rattle.record.proofs.Placed.{sheet_stays, places_placed, placed_same, placed_twice}
use Rattle.rounds.specs.Whole.{RestStays}

pub rest_same : (r : Run) → RestStays r r
rest_same r = sym (placed_same r)

-- as many places as the record has channels
pub rest_of : (r r' : Run) (ps : List Place) → r' ≡ placed r ps → length ps ≡ length (places_of r) → RestStays r r'
rest_of r r' ps e long = e ∙ ap (placed r) (sym (ap places_of e ∙ places_placed r ps long))

places_owns : (r : Run) → length (places_of r) ≡ length (sheet_of r).owns
places_owns r = length-map (take r.count r.channels) place_of ∙ sym (length-map (take r.count r.channels) own_of)

same_count : (r r' : Run) → RestStays r r' → length (places_of r') ≡ length (places_of r)
same_count r r' e =
    places_owns r' ∙ ap (λ (S : Sheet). length S.owns) (ap sheet_of e ∙ sheet_stays r (places_of r')) ∙ sym (places_owns r)

-- and so of call after call
pub rest_on : (r₀ r r' : Run) → RestStays r₀ r → RestStays r r' → RestStays r₀ r'
rest_on r₀ r r' before after =
    after ∙ ap (λ (x : Run). placed x (places_of r')) before
    ∙ placed_twice r₀ (places_of r) (places_of r') (sym (same_count r r' after))
