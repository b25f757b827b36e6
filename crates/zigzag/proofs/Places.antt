-- The zigzag is a permutation of the 64 places of a block, and so of the places of any number of blocks.
use mathlib.Core.Path.{◌≡◌, refl, sym, ◌∙◌, subst}
use mathlib.Core.Bool.{Bool}
use mathlib.Core.List.{List}
use Prim.Native.Nat.{ℕ, ◌+◌, ◌*◌, ◌/◌, ◌%◌, ◌<◌, ◌≤◌}
use native.Mathlib.Omega.{arith}
use lib.Dec.{T, ltb, eqb, ltb→lt, eqb→eq}
use lib.ListN.{length, get_or}
use Rattle.zigzag.specs.Zigzag.{figure, sequence, to_raster, to_zigzag, Undone}
use Rattle.zigzag.proofs.Table.{at, both, both_left, both_right, every}

-- the test of an entry x at place k: x is a place of a block, and ys has k there
sent : List ℕ → ℕ → ℕ → Bool
sent ys k x = both (ltb x 64) (eqb (get_or ys x 0) k)

undone : (xs ys : List ℕ) → length xs ≡ 64 → T (every (sent ys) 0 xs) → Undone xs ys
unfolding sent
undone xs ys long test =
    let passed : (k : ℕ) → k < 64 → T (sent ys k (get_or xs k 0)) = λ k h. at (sent ys) xs test k (omega arith) in
    record {
      inside = λ k h. ltb→lt (get_or xs k 0) 64 (both_left (ltb (get_or xs k 0) 64) (eqb (get_or ys (get_or xs k 0) 0) k) (passed k h));
      back = λ k h. eqb→eq (get_or ys (get_or xs k 0) 0) k (both_right (ltb (get_or xs k 0) 64) (eqb (get_or ys (get_or xs k 0) 0) k) (passed k h));
    }

-- the whole of both tables, by computation
pub permutes : Undone sequence figure
unfolding sequence figure sent
permutes = undone sequence figure refl tt

pub permutes_back : Undone figure sequence
unfolding sequence figure sent
permutes_back = undone figure sequence refl tt

-- an entry of either table is a place of a block
pub inside : (k : ℕ) → k < 64 → (get_or sequence k 0 < 64) × (get_or figure k 0 < 64)
inside k h = (permutes.inside k h, permutes_back.inside k h)

-- over blocks
abbrev send_to : List ℕ → ℕ → ℕ
send_to xs k = k / 64 * 64 + get_or xs (k % 64) 0

module _ (xs ys : List ℕ) (u : Undone xs ys) (k : ℕ) where
  small : get_or xs (k % 64) 0 < 64
  small = u.inside (k % 64) (omega arith)

  same_block : send_to xs k / 64 ≡ k / 64
  same_block = omega (arith, small)

  sent_back : send_to ys (send_to xs k) ≡ k
  sent_back =
      let l = small in
      let q : send_to xs k / 64 ≡ k / 64 = omega arith in
      let r : send_to xs k % 64 ≡ get_or xs (k % 64) 0 = omega arith in
      rw (q, r, u.back (k % 64) (omega arith)) (omega arith)

module _ (k : ℕ) where
  -- a place is sent within its block, and back
  pub raster_block : to_raster k / 64 ≡ k / 64
  unfolding to_raster
  raster_block = same_block sequence figure permutes k

  pub zigzag_block : to_zigzag k / 64 ≡ k / 64
  unfolding to_zigzag
  zigzag_block = same_block figure sequence permutes_back k

  pub zigzag_raster : to_zigzag (to_raster k) ≡ k
  unfolding to_raster to_zigzag
  zigzag_raster = sent_back sequence figure permutes k

  pub raster_zigzag : to_raster (to_zigzag k) ≡ k
  unfolding to_raster to_zigzag
  raster_zigzag = sent_back figure sequence permutes_back k

  -- the first place of a block stays
  pub raster_first : k % 64 ≡ 0 → to_raster k ≡ k
  unfolding to_raster sequence
  raster_first h = rw h (omega arith)

  pub zigzag_first : k % 64 ≡ 0 → to_zigzag k ≡ k
  unfolding to_zigzag figure
  zigzag_first h = rw h (omega arith)

-- a place within whole blocks is sent within them
pub raster_in : (k n : ℕ) → n % 64 ≡ 0 → k < n → to_raster k < n
raster_in k n h l = omega (arith, raster_block k)

pub zigzag_in : (k n : ℕ) → n % 64 ≡ 0 → k < n → to_zigzag k < n
zigzag_in k n h l = omega (arith, zigzag_block k)

-- where the block of place k lies within n places
pub zigzag_within : (k n : ℕ) → k / 64 * 64 + 64 ≤ n → to_zigzag k < n
zigzag_within k n h = omega (arith, zigzag_block k)

-- one block
pub raster_small : (k : ℕ) → k < 64 → to_raster k < 64
raster_small k h = raster_in k 64 refl h

pub zigzag_small : (k : ℕ) → k < 64 → to_zigzag k < 64
zigzag_small k h = zigzag_in k 64 refl h

-- and no other place is sent to a block's first
pub raster_rest : (k : ℕ) → (k % 64 ≡ 0 → ⊥) → to_raster k % 64 ≡ 0 → ⊥
raster_rest k h e = h (subst (λ (i : ℕ). i % 64 ≡ 0) (sym (zigzag_first (to_raster k) e) ∙ zigzag_raster k) e)

pub zigzag_rest : (k : ℕ) → (k % 64 ≡ 0 → ⊥) → to_zigzag k % 64 ≡ 0 → ⊥
zigzag_rest k h e = h (subst (λ (i : ℕ). i % 64 ≡ 0) (sym (raster_first (to_zigzag k) e) ∙ raster_zigzag k) e)
