-- The words of eight patterns, and the patterns rounded. Assumes nothing.
use Rattle.std.proofs.Common.{◌≡◌, ℕ, ◌+◌, ◌*◌, ◌/◌, ◌%◌, ◌^◌, ◌<◌, List, map, length, replicate, bit_and, Fits, w32, w64, refl, sym, ap, ◌∙◌, subst, arith, inl, inr}
use Rattle.std.proofs.lemmas.List.{get_or-map, length-map}
use Rattle.std.proofs.lemmas.Simd.{Each1-get_or}
use Rattle.std.proofs.lemmas.Nat.{and_mask}
use Rattle.std.proofs.lemmas.Nat.Bits.{and_high_mask}
use lib.Lanes.{zip2, Each1}
use Rattle.lanes.specs.Lanes.{Decided, lane, high_word, low_word, tidied}
use Rattle.lanes.proofs.Vectors.{each, len, lane_splat}

module _ (b : List ℕ) (l : length b ≡ 8) (fits : Each1 (Fits w64) b) where
  lane_fits : (i : ℕ) → i < 8 → lane b i < 18446744073709551616
  lane_fits i h = (Each1-get_or (Fits w64) b i 0 (omega arith) fits).fits

  abbrev down : List ℕ
  down = zip2 (λ x y. x / 2 ^ y) b (replicate 8 32)

  down_len : length down ≡ 8
  down_len = len (λ x y. x / 2 ^ y) b (replicate 8 32) l refl

  down_lane : (i : ℕ) → i < 8 → lane down i ≡ lane b i / 4294967296
  down_lane i h = lane_splat (λ x y. x / 2 ^ y) b 32 i 0 0 l h

  pub high_fits : Each1 (Fits w32) down
  high_fits = each (Fits w32) down 0 down_len (λ i h. subst (Fits w32) (sym (down_lane i h)) (record { fits = less (lane b i) (lane_fits i h) }))
    where
      less : (n : ℕ) → n < 18446744073709551616 → n / 4294967296 < 4294967296
      less n h = omega arith

  pub high_len : length (zip2 bit_and (map (λ x. x) down) (replicate 8 2147483647)) ≡ 8
  high_len = len bit_and (map (λ x. x) down) (replicate 8 2147483647) (length-map down (λ x. x) ∙ down_len) refl

  pub high_lanes : (i : ℕ) → i < 8 → lane (zip2 bit_and (map (λ x. x) down) (replicate 8 2147483647)) i ≡ high_word (lane b i)
  high_lanes i h =
      lane_splat bit_and (map (λ x. x) down) 2147483647 i 0 0 (length-map down (λ x. x) ∙ down_len) h
      ∙ and_mask _ 31
      ∙ ap (λ (x : ℕ). x % 2147483648) (get_or-map (λ x. x) down i 0 0 (omega (arith, down_len)) ∙ down_lane i h)

  abbrev cut : List ℕ
  cut = zip2 bit_and b (replicate 8 4294967295)

  cut_len : length cut ≡ 8
  cut_len = len bit_and b (replicate 8 4294967295) l refl

  cut_lane : (i : ℕ) → i < 8 → lane cut i ≡ low_word (lane b i)
  cut_lane i h = lane_splat bit_and b 4294967295 i 0 0 l h ∙ and_mask (lane b i) 32

  pub low_fits : Each1 (Fits w32) cut
  low_fits = each (Fits w32) cut 0 cut_len (λ i h. subst (Fits w32) (sym (cut_lane i h)) (record { fits = less (lane b i) }))
    where
      less : (n : ℕ) → n % 4294967296 < 4294967296
      less n = omega arith

  pub low_lanes : (i : ℕ) → i < 8 → lane (map (λ x. x) cut) i ≡ low_word (lane b i)
  low_lanes i h = get_or-map (λ x. x) cut i 0 0 (omega (arith, cut_len)) ∙ cut_lane i h

  abbrev plus : ℕ → ℕ → ℕ
  plus x y = (x + y) % 18446744073709551616

  abbrev raised : List ℕ
  raised = zip2 plus b (replicate 8 268435456)

  raised_len : length raised ≡ 8
  raised_len = len plus b (replicate 8 268435456) l refl

  pub tidy_len : (y z : ℕ) → length (zip2 bit_and (zip2 plus b (replicate 8 y)) (replicate 8 z)) ≡ 8
  tidy_len y z = len bit_and (zip2 plus b (replicate 8 y)) (replicate 8 z) (len plus b (replicate 8 y) l refl) refl

  pub tidy_lanes : ((i : ℕ) → i < 8 → Decided (lane b i)) → (i : ℕ) → i < 8 → lane (zip2 bit_and raised (replicate 8 18446744073172680704)) i ≡ tidied (lane b i)
  tidy_lanes d i h =
      lane_splat bit_and raised 18446744073172680704 i 0 0 raised_len h
      ∙ and_high_mask 64 29 (omega arith) (lane raised i) (subst (λ (x : ℕ). x < 18446744073709551616) (sym is) (small (lane b i)))
      ∙ ap (λ (x : ℕ). x / 536870912 * 536870912) (is ∙ room (lane b i) (d i h) (lane_fits i h))
    where
      is : lane raised i ≡ (lane b i + 268435456) % 18446744073709551616
      is = lane_splat plus b 268435456 i 0 0 l h

      small : (n : ℕ) → (n + 268435456) % 18446744073709551616 < 18446744073709551616
      small n = omega arith

      room : (n : ℕ) → Decided n → n < 18446744073709551616 → (n + 268435456) % 18446744073709551616 ≡ n + 268435456
      room n (inl e) k = omega arith
      room n (inr c) k = let g = c.hi in omega arith
