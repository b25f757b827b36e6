-- The job project as a whole, of either kind of channel.
use mathlib.Core.Path.{◌≡◌, sym}
use mathlib.Core.Bool.{Bool, true, false, cond}
use mathlib.Core.List.{List}
use Prim.Native.Nat.{ℕ, ◌+◌, ◌*◌, ◌^◌, ◌≤◌}
use native.Mathlib.Nat.{le_trans, le_of_eq}
use native.Mathlib.Omega.{arith}
use lib.Dec.{lit≤}
use lib.Pow.{pow_mono}
use lib.ListN.{length}
use lib.Ieee.{Float}
use Rattle.utils.specs.Blocks.{from_blocks, to_blocks}
use Rattle.utils.proofs.Lengths.{to_blocks_length}
use Rattle.start.specs.Coef.{Coef, Covers, block_h, block_w, px_count}
use Rattle.projection.specs.Projection.{Box, Boxed, onto_box, project_full, project_means, project_onto_box, resample, split}
use Rattle.start.proofs.Cover.{own_fits}
use Rattle.projection.proofs.Lengths.{BoxLong}
use Rattle.bounds.proofs.Good.{AllGood, Parted, all_more, parted, parted_all}
use Rattle.bounds.proofs.Copies.{from_parted, to_parted}
use Rattle.bounds.proofs.Start.{CoefOk, eights_width}
use Rattle.bounds.proofs.Project.{split_good, back_good, onto_across, onto_saved, times_most}

-- what project leaves
pub record BoxGood (e : ℕ) (b : Box) : Type 0 where
  pub plane_good : AllGood (2 ^ (4 + e)) b.plane
  pub across_good : AllGood (2 ^ (4 + e)) b.across
  pub down_good : AllGood (2 ^ (4 + e)) b.down
  pub saved_good : AllGood (2 ^ 168) b.saved

module _ (C : Coef) (ok : CoefOk C) (W H : ℕ) (k : Covers C.own W H) (e : ℕ) (low : 176 ≤ e) (high : e ≤ 252) (b : Box) (z : BoxLong (W * H) b)
    (p : AllGood (5 * 2 ^ e) b.plane) (a : AllGood (2 ^ (3 + e)) b.across) (d : AllGood (2 ^ (3 + e)) b.down) (s : AllGood (2 ^ 168) b.saved) where
  abbrev N : ℕ
  N = px_count C.own

  abbrev wide : ℕ
  wide = 2 ^ (3 + e)

  -- the own plane fits each buffer
  fits_in : (xs : List Float) → length xs ≡ W * H → N ≤ length xs
  fits_in xs l = le_trans (own_fits C.own W H k) (le_of_eq (sym l))

  start_small : 2 ^ 176 ≤ 2 ^ (4 + e)
  start_small = let l : 176 ≤ 4 + e = omega arith in pow_mono l

  wide_small : wide ≤ 2 ^ (4 + e)
  wide_small = let l : 3 + e ≤ 4 + e = omega arith in pow_mono l

  w8 : C.own.width ≡ block_w C.own * 8
  w8 = eights_width C.own.width k.eights.0

  h8 : C.own.height ≡ block_h C.own * 8
  h8 = eights_width C.own.height k.eights.1

  -- the blocks of an own plane, which has the plane's bound or the means'
  abbrev blocks : List Float → Boxed
  blocks own = record { across = to_blocks C.own.width (block_w C.own) (block_h C.own) own b.across; saved = b.saved }

  module _ (own : List Float) (own-good : Parted N wide wide own) where
    blocks_long : N ≤ length (blocks own).across
    blocks_long = le_trans (fits_in b.across z.across_long) (le_of_eq (sym (to_blocks_length C.own.width (block_w C.own) (block_h C.own) own b.across)))

    blocks_good : Parted N wide wide (blocks own).across
    blocks_good =
        to_parted C.own.width C.own.height (block_w C.own) (block_h C.own) w8 h8 wide wide wide wide own b.across (fits_in b.across z.across_long)
        own-good (parted N wide b.across (fits_in b.across z.across_long) a)

    new_good : Parted N (2 ^ 176) wide (onto_box C (blocks own)).across
    new_good = onto_across C ok W H k (3 + e) wide (blocks own) (omega arith) blocks_long blocks_good

    new_saved : AllGood (2 ^ 168) (onto_box C (blocks own)).saved
    new_saved = onto_saved C ok W H k (3 + e) wide (blocks own) (omega arith) blocks_long blocks_good s

    -- put back in the raster's order, over values of the same bound
    placed : (out : List Float) → N ≤ length out → AllGood wide out → Parted N (2 ^ 176) wide (from_blocks C.own.width (block_w C.own) (block_h C.own) (onto_box C (blocks own)).across out)
    placed out l g =
        from_parted C.own.width C.own.height (block_w C.own) (block_h C.own) w8 h8 (2 ^ 176) wide wide wide (onto_box C (blocks own)).across out l new_good (parted N wide out l g)

  plane_wide : AllGood wide b.plane
  plane_wide = all_more (5 * 2 ^ e) wide b.plane (times_most 5 3 e (lit≤ tt)) p

  full_good : BoxGood e (project_full C b)
  unfolding project_full
  full_good =
      let l = fits_in b.plane z.plane_long in
      let own = parted N wide b.plane l plane_wide in
      record {
        plane_good = parted_all N (2 ^ 176) wide (2 ^ (4 + e)) _ start_small wide_small (placed b.plane own b.plane l plane_wide);
        across_good = parted_all N (2 ^ 176) wide (2 ^ (4 + e)) _ start_small wide_small (new_good b.plane own);
        down_good = all_more wide (2 ^ (4 + e)) b.down wide_small d;
        saved_good = new_saved b.plane own;
      }

  means_good : BoxGood e (project_means C W b)
  unfolding project_means
  means_good =
      let o = C.own in
      let t = split o W (record { plane = b.plane; down = b.down }) in
      let r = split_good C ok W H k e low high (record { plane = b.plane; down = b.down }) (le_of_eq (sym z.plane_long)) (fits_in b.down z.down_long) p d in
      let own = parted N wide t.down r.down_long r.down_good in
      let new = from_blocks o.width (block_w o) (block_h o) (onto_box C (blocks t.down)).across t.down in
      let g = placed t.down own t.down r.down_long r.down_good in
      record {
        plane_good = back_good C ok W H k e low high new t.plane r.plane_long g.first r.plane_good;
        across_good = parted_all N (2 ^ 176) wide (2 ^ (4 + e)) _ start_small wide_small (new_good t.down own);
        down_good = parted_all N (2 ^ 176) wide (2 ^ (4 + e)) new start_small wide_small g;
        saved_good = new_saved t.down own;
      }

  pub projected_good : BoxGood e (project_onto_box C W H b)
  unfolding project_onto_box
  projected_good = go (resample C.own W H)
    where
      go : (r : Bool) → BoxGood e (cond r (project_means C W b) (project_full C b))
      go true = means_good
      go false = full_good
