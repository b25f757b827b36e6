-- The model's record of a struct: a channel's own numbers and its place are those of the struct's channel.
use mathlib.Core.Path.{◌≡◌, refl, sym, ap, ◌∙◌, subst}
use Prim.Native.Nat.{ℕ, zero, suc, ◌+◌, ◌≤◌, ◌<◌}
use native.Mathlib.Nat.{le_of_suc-le-suc, not-suc-le-zero}
use native.Mathlib.Numerals.{add-one}
use native.Mathlib.Omega.{arith}
use mathlib.Core.Bool.{Bool, true, false, ◌&&◌, ◌||◌}
use mathlib.Core.List.{List, [], ◌∷◌, map}
use lib.ListN.{length, get_or, take, length-map}
use lib.Seq.{get_or-take, length-take-le}
use lib.Dec.{T, eqb, eqb→eq}
use lib.Ieee.Fits.{and_l, and_r}
use borrow.Author.Tests.{eq-eqb}
use Rattle.calls.specs.Run.{Sheet, own, own_ok, Place, fresh, place, place_ok, blends_in, every, header_ok}
use Rattle.record.specs.Model.{own_of, place_of, sheet_of, places_of, channel_ok, no_channel}
use Rattle.record.specs.declared.Run.{Run}
use Rattle.record.specs.declared.Channel.{Channel}

-- ---- one channel more, at the code's `k + 1`

pub every_more : (k : ℕ) (f : ℕ → Bool) → every (k + 1) f ≡ (every k f && f k)
every_more k f = ap (λ (n : ℕ). every n f) (add-one k)

-- ---- channel c

module _ {A : Type 0} (f : Channel → A) (d : A) where
  mapped : (xs : List Channel) (i : ℕ) → i < length xs → get_or (map f xs) i d ≡ f (get_or xs i no_channel)
  mapped [] i h = absurd (not-suc-le-zero h)
  mapped (x ∷ xs) zero h = refl
  mapped (x ∷ xs) (suc i) h = mapped xs i (le_of_suc-le-suc h)

  at_channel : (r : Run) (c : ℕ) → r.count ≤ length r.channels → c < r.count → get_or (map f (take r.count r.channels)) c d ≡ f (get_or r.channels c no_channel)
  at_channel r c long below =
      mapped (take r.count r.channels) c (omega (arith, length-take-le r.count r.channels long))
      ∙ ap f (get_or-take r.count r.channels c no_channel below)

  pub first_long : (r : Run) → r.count ≤ length r.channels → length (map f (take r.count r.channels)) ≡ r.count
  first_long r long = length-map (take r.count r.channels) f ∙ length-take-le r.count r.channels long

pub at_own : (r : Run) (c : ℕ) → r.count ≤ length r.channels → c < r.count → own (sheet_of r) c ≡ own_of (get_or r.channels c no_channel)
at_own r c long below = at_channel own_of _ r c long below

pub at_place : (r : Run) (c : ℕ) → r.count ≤ length r.channels → c < r.count → place (places_of r) c ≡ place_of (get_or r.channels c no_channel)
at_place r c long below = at_channel place_of fresh r c long below

pub at_position : (r : Run) (c : ℕ) → r.count ≤ length r.channels → c < r.count → (place (places_of r) c).position ≡ (get_or r.channels c no_channel).position
at_position r c long below = ap (λ (p : Place). p.position) (at_place r c long below)

pub at_mark : (r : Run) (c : ℕ) → r.count ≤ length r.channels → c < r.count → (place (places_of r) c).mark ≡ (get_or r.channels c no_channel).mark
at_mark r c long below = ap (λ (p : Place). p.mark) (at_place r c long below)

-- ---- the header's last test: a struct of one or three channels has as many as its count says

one_or_three : (n : ℕ) → T (eqb n 1 || eqb n 3) → n ≤ 3
one_or_three n = go (eqb n 1) (eqb→eq n 1)
  where
    go : (b : Bool) → (T b → n ≡ 1) → T (b || eqb n 3) → n ≤ 3
    go true h t = omega (arith, h tt)
    go false h t = omega (arith, eqb→eq n 3 t)

implied : (a b : Bool) → (a ≡ true → b ≡ true) → a ≡ (a && b)
implied true b h = sym (h refl)
implied false b h = refl

pub owns_counted : (r : Run) → length r.channels ≡ 3 → (a : Bool)
    → (a && (eqb r.count 1 || eqb r.count 3)) ≡ (a && (eqb r.count 1 || eqb r.count 3) && eqb (length (sheet_of r).owns) r.count)
owns_counted r three a =
    let test : Bool = eqb r.count 1 || eqb r.count 3 in
    implied (a && test) (eqb (length (sheet_of r).owns) r.count)
    (λ e.
    let small : r.count ≤ 3 = one_or_three r.count (and_r a test (subst T (sym e) tt)) in
    eq-eqb (length (sheet_of r).owns) r.count (first_long own_of (own_of no_channel) r (omega arith)))

pub header_count : (S : Sheet) → header_ok S ≡ true → S.count ≤ 3
unfolding header_ok
header_count S e =
    let t : T (header_ok S) = subst T (sym e) tt in
    one_or_three S.count (search (and_l, and_r) depth 12)

pub places_counted : (r : Run) → r.count ≤ length r.channels → eqb (length (places_of r)) r.count ≡ true
places_counted r long = eq-eqb (length (places_of r)) r.count (first_long place_of fresh r long)

-- ---- all tests of each channel, or each test of all channels

apart : (F G H a b c : Bool) → (F && (G && H) && (a && b && c)) ≡ (F && a && (G && b && (H && c)))
apart false G H a b c = refl
apart true false H true b c = refl
apart true false H false b c = refl
apart true true false true true c = refl
apart true true false true false c = refl
apart true true false false b c = refl
apart true true true true b c = refl
apart true true true false b c = refl

pub each_channel : (S : Sheet) (ps : List Place) (k : ℕ) → every k (channel_ok S ps)
    ≡ (every k (λ c. own_ok S (own S c))
    && (every k (λ c. place_ok S (own S c) (place ps c)) && every k (λ c. eqb (blends_in (place ps c).position) (blends_in (place ps 0).position))))
each_channel S ps zero = refl
each_channel S ps (suc k) =
    let equal : ℕ → Bool = λ c. eqb (blends_in (place ps c).position) (blends_in (place ps 0).position) in
    ap (λ (b : Bool). b && channel_ok S ps k) (each_channel S ps k)
    ∙ apart (every k (λ c. own_ok S (own S c))) (every k (λ c. place_ok S (own S c) (place ps c))) (every k equal) (own_ok S (own S k)) (place_ok S (own S k) (place ps k)) (equal k)

-- ---- a loop's end

pub ends {ℓ} : {A : Type ℓ} (g : ℕ → A) (k n : ℕ) {x : A} → x ≡ g k → k ≡ n → x ≡ g n
ends g k n e h = rw (← h) e
