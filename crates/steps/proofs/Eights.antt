-- Move, eight places at once.
use Rattle.std.proofs.Common.{◌≡◌, sym, ap, ◌∙◌, ℕ, ◌+◌, ◌-◌, ◌<◌, ◌≤◌, List, map, length, replicate, arith, zero-add}
use Rattle.std.proofs.lemmas.Simd.{length-chunk, get_or-chunk, get_or-zip2, get_or-replicate, length-zip2, put_chunk_whole}
use Rattle.std.proofs.lemmas.List.{get_or-map}
use lib.Lanes.{zip2, chunk, put_chunk}
use lib.Ieee.{Float, nan, neg}
use lib.ListN.{length-replicate}
use Rattle.fold.specs.Fold.{upto}
use Rattle.fold.specs.Part.{part, splice}
use Rattle.fold.proofs.Loops.{upto_add}
use Rattle.fold.proofs.Parts.{part_at}
use Rattle.float.specs.Ops.{fused}
use Rattle.float.specs.Names.{◌⊘◌, val}
use Rattle.utils.specs.Lanes.{eight}
use Rattle.utils.proofs.Rows.{eight_ext, eight_is, turned_row}
use Rattle.steps.specs.Step.{move_at}

-- what a place becomes
abbrev pub place_moved : Float → Float → List Float → ℕ → Float → Float
place_moved step-size norm g k x = fused step-size (neg (val g k ⊘ norm)) x

module _ (step-size norm : Float) (g : List Float) where
  -- the lanes of -(g / norm)
  abbrev along : List Float
  along = map neg (zip2 (λ a b. a ⊘ b) (chunk 0 8 g) (replicate 8 norm))

  along_at : length g ≡ 8 → (j : ℕ) → j < 8 → val along j ≡ neg (val g j ⊘ norm)
  along_at G j h =
      let c : length (chunk 0 8 g) ≡ 8 = length-chunk 0 8 g (omega arith) in
      let r : length (replicate 8 norm) ≡ 8 = length-replicate 8 norm in
      let z : length (zip2 (λ a b. a ⊘ b) (chunk 0 8 g) (replicate 8 norm)) ≡ 8 = length-zip2 (λ a b. a ⊘ b) (chunk 0 8 g) (replicate 8 norm) (c ∙ sym r) ∙ c in
      get_or-map neg (zip2 (λ a b. a ⊘ b) (chunk 0 8 g) (replicate 8 norm)) j nan nan (omega (arith, z))
      ∙ ap neg
      (get_or-zip2 (λ a b. a ⊘ b) (chunk 0 8 g) (replicate 8 norm) j nan nan nan (omega (arith, c)) (omega (arith, r))
      ∙ (λ i. (get_or-chunk 0 8 g j nan h ∙ ap (val g) (zero-add j)) i ⊘ get_or-replicate 8 j norm nan h i))

  -- eight moved values, put back
  pub put_moved : (plane new : List Float) → length g ≡ 8 → length plane ≡ 8 → length new ≡ 8
      → ((j : ℕ) → j < 8 → val new j ≡ fused step-size (val along j) (val (chunk 0 8 plane) j))
      → put_chunk 0 plane new ≡ eight (λ j. place_moved step-size norm g j (val plane j))
  put_moved plane new G P N moved =
      put_chunk_whole plane new (P ∙ sym N)
      ∙ sym (eight_is new N)
      ∙ eight_ext (val new) (λ j. place_moved step-size norm g j (val plane j))
      (λ j h. moved j h ∙ (λ i. fused step-size (along_at G j h i) ((get_or-chunk 0 8 plane j nan h ∙ ap (val plane) (zero-add j)) i)))

  -- the eight places from a on, after those below a
  pub grown : (before plane y : List Float) (a : ℕ) → a + 8 ≤ length plane → a + 8 ≤ length g → plane ≡ upto (move_at step-size norm g) a before
      → y ≡ eight (λ j. place_moved step-size norm (part g a (a + 8)) j (val (part plane a (a + 8)) j))
      → splice plane a (a + 8) y ≡ upto (move_at step-size norm g) (a + 8) before
  grown before plane y a h k is i =
      let values = eight_ext (λ j. place_moved step-size norm (part g a (a + 8)) j (val (part plane a (a + 8)) j)) (λ j. place_moved step-size norm g (a + j) (val plane (a + j)))
      (λ j l z. fused step-size (neg (part_at g a (a + 8) (omega arith) k j nan (omega arith) z ⊘ norm)) (part_at plane a (a + 8) (omega arith) h j nan (omega arith) z)) in
      ap (splice plane a (a + 8)) (i ∙ values)
      ∙ turned_row (λ j x. place_moved step-size norm g (a + j) x) plane a h
      ∙ ap (upto (λ j. move_at step-size norm g (a + j)) 8) is
      ∙ sym (upto_add (move_at step-size norm g) a 8 before)
