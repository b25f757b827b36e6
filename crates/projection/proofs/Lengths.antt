-- Every definition keeps the length of what it changes, with no bound on any place.
use Rattle.std.proofs.Common.{◌≡◌, ℕ, Bool, true, false, cond, List, length, ◌∙◌, length-set}
use lib.Ieee.{Float}
use Rattle.fold.specs.Fold.{upto}
use Rattle.fold.proofs.Loops.{upto-keeps}
use Rattle.float.specs.Names.{◌⊕◌, ◌⊖◌}
use Rattle.utils.specs.Blocks.{from_blocks, on_block, to_blocks}
use Rattle.utils.specs.Dct.{dct8x8, idct8x8}
use Rattle.utils.proofs.Lengths.{blocks_length, dct_length, from_blocks_length, idct_length, to_blocks_length}
use Rattle.start.specs.declared.coef.Own.{Own}
use Rattle.start.proofs.Lengths.{change_length}
use Rattle.start.specs.Coef.{Coef, Levels, block_count, block_h, block_w, px_count}
use Rattle.projection.specs.Projection.{Box, Boxed, Split, back, back_at, back_row, clamp_at, clamp_block, clamped, keep, keep_at, onto_box, project_full, project_means, project_onto_box, resample, split, split_at, split_row}

split_keeps : (f : Split → ℕ) (o : Own) (W : ℕ) → ((cy cx : ℕ) (s : Split) → f (split_at o W cy cx s) ≡ f s) → (s : Split) → f (split o W s) ≡ f s
unfolding split
split_keeps f o W h s = upto-keeps f (split_row o W) (λ cy a. upto-keeps f (split_at o W cy) (h cy) o.width a) o.height s

split_plane_length : (o : Own) (W : ℕ) (s : Split) → length (split o W s).plane ≡ length s.plane
unfolding split_at
split_plane_length o W s = split_keeps (λ s. length s.plane) o W (λ cy cx t. change_length (λ x. x ⊖ _) o W cy cx t.plane) s

split_down_length : (o : Own) (W : ℕ) (s : Split) → length (split o W s).down ≡ length s.down
unfolding split_at
split_down_length o W s = split_keeps (λ s. length s.down) o W (λ cy cx t. simp length-set) s

clamp_block_length : (levels : Levels) (table : List ℕ) (i : ℕ) (x : List Float) → length (clamp_block levels table i x) ≡ length x
unfolding clamp_block clamp_at
clamp_block_length levels table i x = upto-keeps length (clamp_at levels table i) (λ j b. simp length-set) 64 x

pub dcts_length : (n : ℕ) (x : List Float) → length (upto (on_block dct8x8) n x) ≡ length x
dcts_length n x = blocks_length dct8x8 dct_length n x

pub clamped_length : (C : Coef) (x : List Float) → length (clamped C x) ≡ length x
unfolding clamped
clamped_length C x =
    upto-keeps length (clamp_block C.levels C.table) (clamp_block_length C.levels C.table) (block_count C.own) (upto (on_block dct8x8) (block_count C.own) x)
    ∙ dcts_length (block_count C.own) x

pub keep_length : (n : ℕ) (x saved : List Float) → length (keep n x saved) ≡ length saved
unfolding keep
keep_length n x saved = upto-keeps length (keep_at x) (λ k a. simp length-set) n saved

back_length : (o : Own) (W : ℕ) (down p : List Float) → length (back o W down p) ≡ length p
unfolding back
back_length o W down p = upto-keeps length (back_row o W down) (λ cy a. upto-keeps length (back_at o W down cy) (λ cx b. change_length (λ x. x ⊕ _) o W cy cx b) o.width a) o.height p

-- all four buffers of project
pub record BoxLong (n : ℕ) (b : Box) : Type 0 where
  pub plane_long : length b.plane ≡ n
  pub across_long : length b.across ≡ n
  pub down_long : length b.down ≡ n
  pub saved_long : length b.saved ≡ n

onto_across : (C : Coef) (b : Boxed) → length (onto_box C b).across ≡ length b.across
unfolding onto_box
onto_across C b = blocks_length idct8x8 idct_length (block_count C.own) (clamped C b.across) ∙ clamped_length C b.across

onto_saved : (C : Coef) (b : Boxed) → length (onto_box C b).saved ≡ length b.saved
unfolding onto_box
onto_saved C b = keep_length (px_count C.own) (clamped C b.across) b.saved

full_long : (C : Coef) (n : ℕ) (b : Box) → BoxLong n b → BoxLong n (project_full C b)
unfolding project_full
full_long C n b z =
    let o = C.own in
    let x : Boxed = record { across = to_blocks o.width (block_w o) (block_h o) b.plane b.across; saved = b.saved } in
    record {
      plane_long = from_blocks_length o.width (block_w o) (block_h o) (onto_box C x).across b.plane ∙ z.plane_long;
      across_long = onto_across C x ∙ to_blocks_length o.width (block_w o) (block_h o) b.plane b.across ∙ z.across_long;
      down_long = z.down_long;
      saved_long = onto_saved C x ∙ z.saved_long;
    }

means_long : (C : Coef) (W n : ℕ) (b : Box) → BoxLong n b → BoxLong n (project_means C W b)
unfolding project_means
means_long C W n b z =
    let o = C.own in
    let s₀ : Split = record { plane = b.plane; down = b.down } in
    let s = split o W s₀ in
    let x : Boxed = record { across = to_blocks o.width (block_w o) (block_h o) s.down b.across; saved = b.saved } in
    let new = from_blocks o.width (block_w o) (block_h o) (onto_box C x).across s.down in
    record {
      plane_long = back_length o W new s.plane ∙ split_plane_length o W s₀ ∙ z.plane_long;
      across_long = onto_across C x ∙ to_blocks_length o.width (block_w o) (block_h o) s.down b.across ∙ z.across_long;
      down_long = from_blocks_length o.width (block_w o) (block_h o) (onto_box C x).across s.down ∙ split_down_length o W s₀ ∙ z.down_long;
      saved_long = onto_saved C x ∙ z.saved_long;
    }

either_long : (r : Bool) (n : ℕ) (b d : Box) → BoxLong n b → BoxLong n d → BoxLong n (cond r b d)
either_long true n b d h k = h
either_long false n b d h k = k

pub projected_long : (C : Coef) (W H n : ℕ) (b : Box) → BoxLong n b → BoxLong n (project_onto_box C W H b)
unfolding project_onto_box
projected_long C W H n b z =
    either_long (resample C.own W H) n (project_means C W b) (project_full C b) (means_long C W n b z) (full_long C n b z)
