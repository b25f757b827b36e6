-- The struct with other places: what stays, and one channel more at a time.
use mathlib.Core.Path.{◌≡◌, refl, sym, ap, ◌∙◌}
use Prim.Native.Nat.{ℕ, zero, suc, ◌+◌, ◌≤◌, ◌<◌}
use native.Mathlib.Nat.{le_of_suc-le-suc, not-suc-le-zero}
use native.Mathlib.Omega.{arith}
use native.Mathlib.Numerals.{add-one}
use mathlib.Core.List.{List, [], ◌∷◌, map}
use lib.ListN.{length, get_or, set, take, length-map}
use lib.Seq.{take_all}
use Rattle.calls.specs.Run.{Numbers, Place, fresh, place}
use Rattle.calls.proofs.Tests.{get_d_map_lt}
use Rattle.record.specs.Model.{own_of, place_of, sheet_of, places_of, sheet_with, with_place, with_places, with_channels, placed, no_channel}
use Rattle.record.specs.declared.Run.{Run}
use Rattle.record.specs.declared.Channel.{Channel}
use Rattle.record.proofs.Channels.{first_long, at_place}

-- ---- lists

-- its own places
none : (n : ℕ) (xs : List Channel) → with_places xs (map place_of (take n xs)) ≡ xs
none n [] = refl
none zero (x ∷ xs) = refl
none (suc n) (x ∷ xs) = ap (λ (l : List Channel). x ∷ l) (none n xs)

-- one other place
one : (n : ℕ) (xs : List Channel) (c : ℕ) (q : Place) → c < n → with_places xs (set (map place_of (take n xs)) c q) ≡ set xs c (with_place (get_or xs c no_channel) q)
one n [] c q h = refl
one zero (x ∷ xs) c q h = absurd (not-suc-le-zero h)
one (suc n) (x ∷ xs) zero q h = ap (λ (l : List Channel). with_place x q ∷ l) (none n xs)
one (suc n) (x ∷ xs) (suc c) q h = ap (λ (l : List Channel). x ∷ l) (one n xs c q (le_of_suc-le-suc h))

-- no other place
none-yet : (xs : List Channel) (qs : List Place) → with_places xs (take 0 qs) ≡ xs
none-yet [] qs = refl
none-yet (x ∷ xs) qs = refl

-- the first k of other places, and one more
more : (xs : List Channel) (qs : List Place) (k : ℕ) → k < length xs → k < length qs
    → set (with_places xs (take k qs)) k (with_place (get_or xs k no_channel) (get_or qs k fresh)) ≡ with_places xs (take (suc k) qs)
more [] qs k h l = absurd (not-suc-le-zero h)
more (x ∷ xs) [] k h l = absurd (not-suc-le-zero l)
more (x ∷ xs) (q ∷ qs) zero h l = ap (λ (ys : List Channel). with_place x q ∷ ys) (sym (none-yet xs qs))
more (x ∷ xs) (q ∷ qs) (suc k) h l = ap (λ (ys : List Channel). with_place x q ∷ ys) (more xs qs k (le_of_suc-le-suc h) (le_of_suc-le-suc l))

owns_stay : (n : ℕ) (xs : List Channel) (ps : List Place) → map own_of (take n (with_places xs ps)) ≡ map own_of (take n xs)
owns_stay n [] ps = refl
owns_stay n (x ∷ xs) [] = refl
owns_stay zero (x ∷ xs) (p ∷ ps) = refl
owns_stay (suc n) (x ∷ xs) (p ∷ ps) = ap (λ (l : List Numbers). own_of x ∷ l) (owns_stay n xs ps)

-- other places, as many as there are
places_are : (n : ℕ) (xs : List Channel) (ps : List Place) → length ps ≡ length (map place_of (take n xs)) → map place_of (take n (with_places xs ps)) ≡ ps
places_are zero [] [] e = refl
places_are (suc n) [] [] e = refl
places_are zero [] (p ∷ ps) e = absurd (omega arith)
places_are (suc n) [] (p ∷ ps) e = absurd (omega arith)
places_are zero (x ∷ xs) [] e = refl
places_are zero (x ∷ xs) (p ∷ ps) e = absurd (omega arith)
places_are (suc n) (x ∷ xs) [] e = absurd (omega arith)
places_are (suc n) (x ∷ xs) (p ∷ ps) e = ap (λ (l : List Place). p ∷ l) (places_are n xs ps (omega arith))

-- the place of channel c, of the first n
pub place_in : (n : ℕ) (xs : List Channel) (c : ℕ) → c < n → c < length xs → place (map place_of (take n xs)) c ≡ place_of (get_or xs c no_channel)
place_in n [] c h l = absurd (not-suc-le-zero l)
place_in zero (x ∷ xs) c h l = absurd (not-suc-le-zero h)
place_in (suc n) (x ∷ xs) zero h l = refl
place_in (suc n) (x ∷ xs) (suc c) h l = place_in n xs c (le_of_suc-le-suc h) (le_of_suc-le-suc l)

pub place_past : (n : ℕ) (xs : List Channel) (c : ℕ) → n ≤ c → place (map place_of (take n xs)) c ≡ fresh
place_past zero [] c h = refl
place_past (suc n) [] c h = refl
place_past zero (x ∷ xs) c h = refl
place_past (suc n) (x ∷ xs) zero h = absurd (not-suc-le-zero h)
place_past (suc n) (x ∷ xs) (suc c) h = place_past n xs c (le_of_suc-le-suc h)

-- ---- the struct

pub placed_same : (r : Run) → placed r (places_of r) ≡ r
placed_same r = ap (with_channels r) (none r.count r.channels)

pub placed_none : (r : Run) (qs : List Place) → r ≡ placed r (take 0 qs)
placed_none r qs = ap (with_channels r) (sym (none-yet r.channels qs))

-- channel c at the place p
pub placed_at : (r : Run) (c : ℕ) (p : Place) {x : Channel} → c < r.count → x ≡ with_place (get_or r.channels c no_channel) p
    → with_channels r (set r.channels c x) ≡ placed r (set (places_of r) c p)
placed_at r c p h e = ap (λ (y : Channel). with_channels r (set r.channels c y)) e ∙ ap (with_channels r) (sym (one r.count r.channels c p h))

-- a change of each place, channel by channel: one more, at the code's `k + 1`, and all of them
module _ (r : Run) (long : r.count ≤ length r.channels) (g : Place → Place) where
  -- channel c with its place changed
  abbrev changed : ℕ → Channel
  changed c = with_place (get_or r.channels c no_channel) (g (place_of (get_or r.channels c no_channel)))

  counted : length (map g (places_of r)) ≡ r.count
  counted = length-map (places_of r) g ∙ first_long place_of fresh r long

  pub placed_more : (k : ℕ) → k < r.count
      → with_channels r (set (placed r (take k (map g (places_of r)))).channels k (changed k)) ≡ placed r (take (k + 1) (map g (places_of r)))
  placed_more k h =
      let is : g (place_of (get_or r.channels k no_channel)) ≡ get_or (map g (places_of r)) k fresh =
      ap g (sym (at_place r k long h)) ∙ sym (get_d_map_lt g (places_of r) fresh fresh k (omega (arith, first_long place_of fresh r long))) in
      rw (is, add-one) (ap (with_channels r) (more r.channels (map g (places_of r)) k (omega arith) (omega (arith, counted))))

  pub placed-all : (k : ℕ) → r.count ≤ k → placed r (take k (map g (places_of r))) ≡ placed r (map g (places_of r))
  placed-all k h = ap (placed r) (take_all k (map g (places_of r)) (omega (arith, counted)))

pub sheet_stays : (r : Run) (ps : List Place) → sheet_of (placed r ps) ≡ sheet_of r
sheet_stays r ps = ap (sheet_with r) (owns_stay r.count r.channels ps)

pub places_placed : (r : Run) (ps : List Place) → length ps ≡ length (places_of r) → places_of (placed r ps) ≡ ps
places_placed r ps e = places_are r.count r.channels ps e

pub placed_twice : (r : Run) (ps qs : List Place) → length ps ≡ length qs → placed (placed r ps) qs ≡ placed r qs
placed_twice r ps qs e = ap (with_channels r) (twice r.channels ps qs e)
  where
    twice : (xs : List Channel) (ps qs : List Place) → length ps ≡ length qs → with_places (with_places xs ps) qs ≡ with_places xs qs
    twice [] ps qs e = refl
    twice (x ∷ xs) [] qs e = refl
    twice (x ∷ xs) (p ∷ ps) [] e = absurd (omega arith)
    twice (x ∷ xs) (p ∷ ps) (q ∷ qs) e = ap (λ (l : List Channel). with_place x q ∷ l) (twice xs ps qs (omega arith))
