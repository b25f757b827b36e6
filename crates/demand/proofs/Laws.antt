-- The solver's jobs meet the laws that demand 3 uses.
use mathlib.Core.Path.{◌≡◌, refl, ◌∙◌}
use mathlib.Core.List.{List, [], ◌∷◌}
use lib.Dec.{T, leb, leb→le}
use lib.Ieee.Fits.{and_l, and_r}
use Prim.Native.Nat.{ℕ, zero, suc, ◌+◌, ◌-◌, ◌*◌, ◌%◌, ◌<◌, ◌≤◌}
use native.Mathlib.Omega.{arith}
use lib.IntN.{nat_abs}
use lib.Signed.{◌≤ℤ◌}
use lib.ListN.{get_or, drop}
use lib.Seq.{get_or-take, get_or-drop}
use Rattle.fold.specs.Part.{part}
use Rattle.start.specs.Buffers.{Buffers}
use Rattle.start.specs.Coef.{Covers, low_at, high_at, quant_at, px_count}
use Rattle.work.specs.Work as Solver
use Rattle.work.specs.Work.{starting, blending, projecting}
use Rattle.work.proofs.Laws as Solver-laws
use Rattle.calls.specs.Run.{Sheet, Given, own, count, area, coefs, low, high, quantiser, levels_before, held}
use Rattle.calls.specs.Buffers.{channel, Sized}
use Rattle.calls.specs.Jobs.{Job, push, fidelity, move, project}
use Rattle.calls.specs.Calls.{all, table_ok}
use Rattle.calls.specs.Demand.{SavedIn}
use Rattle.calls.specs.Between.{GivenOk, AllIn}
use Rattle.calls.specs.Laws.{Laws}
use Rattle.calls.proofs.Facts.{SheetIs, sheet_is}
use Rattle.calls.proofs.Tests.{all_part, faultless_of, pair_ok, part_faultless, part_level}
use Rattle.demand.specs.Solver.{coef_of, constants_of, work, jobs}

-- ---- channel c's coefficients are the run's

coef_level : (G : Given) (c k : ℕ) → k < coefs G.sheet c
    → (low_at (coef_of G c).levels k ≡ low G c k) × (high_at (coef_of G c).levels k ≡ high G c k)
unfolding coef_of
coef_level G c k h =
    let at : ℕ = levels_before G.sheet c in
    let e : ℕ = at + coefs G.sheet c in
    (part_level G.levels.lows at e k (omega arith), part_level G.levels.highs at e k (omega arith))

coef_quant : (G : Given) (c k : ℕ) → quant_at (coef_of G c).table (k % 64) ≡ quantiser G c k
unfolding coef_of
coef_quant G c k = get_or-take (c * 64 + 64 - c * 64) (drop (c * 64) G.tables) (k % 64) 0 (omega arith) ∙ get_or-drop (c * 64) G.tables (k % 64) 0

coef_count : (G : Given) (c : ℕ) → px_count (coef_of G c).own ≡ coefs G.sheet c
unfolding coef_of
coef_count G c = refl

-- a legal channel's sides cover no more than the full sides
pub covers_of : (S : Sheet) → SheetIs S → (c : ℕ) → c < S.count
    → Covers (record { width = (own S c).width; height = (own S c).height; horizontal = (own S c).across; vertical = (own S c).down }) S.W S.H
covers_of S f c h =
    let o = f.each_own c h in
    record {
      eights = (o.width_8, o.height_8);
      width_some = omega (arith, o.width-pos);
      height_some = omega (arith, o.height_pos);
      horizontal_some = o.across_pos;
      vertical_some = o.down_pos;
      horizontal_most = o.across_4;
      vertical_most = o.down_4;
      horizontal_cover = o.covers_across;
      vertical_cover = o.covers_down;
      width_most = f.W-512;
      height_most = f.H-512;
    }

table_small : (qs : List ℕ) → T (all table_ok qs) → (i : ℕ) → get_or qs i 0 ≤ 255
table_small [] t i = omega arith
table_small (q ∷ qs) t zero = leb→le q 255 (and_r (leb 1 q) (leb q 255) (and_l (table_ok q) (all table_ok qs) t))
table_small (q ∷ qs) t (suc i) = table_small qs (and_r (table_ok q) (all table_ok qs) t) i

module _ (G : Given) (ok : GivenOk G) (c : ℕ) (h : c < count G) where
  pub covers : Covers (coef_of G c).own G.sheet.W G.sheet.H
  unfolding coef_of
  covers = covers_of G.sheet (sheet_is G.sheet ok.sheet-ok) c h

  pair_fine : (k : ℕ)
      → (nat_abs (low_at (coef_of G c).levels k) ≤ 2047) × (nat_abs (high_at (coef_of G c).levels k) ≤ 2047)
      × (low_at (coef_of G c).levels k ≤ℤ high_at (coef_of G c).levels k)
  unfolding coef_of
  pair_fine k =
      let at : ℕ = levels_before G.sheet c in
      pair_ok (low_at (coef_of G c).levels k) (high_at (coef_of G c).levels k)
      (part_faultless G.levels (faultless_of G.levels (levels_before G.sheet (count G)) ok.levels-long ok.levels_ok) at (at + coefs G.sheet c) k)

  pub legal : Solver.Legal (coef_of G c)
  unfolding coef_of
  legal =
      record {
        lows_ok = λ k. (pair_fine k).0;
        highs_ok = λ k. (pair_fine k).1;
        order = λ k. (pair_fine k).2;
        middle_is = λ k. refl;
        table-ok = λ j. table_small (part G.tables (c * 64) (c * 64 + 64)) (all_part table_ok G.tables (c * 64) (c * 64 + 64) ok.tables_ok) j;
      }

  -- a saved coefficient is in the run's interval where it is in the channel's
  saved_in : (b : Buffers) (k : ℕ) → k < coefs G.sheet c → Solver.CoefIn (coef_of G c) k b → SavedIn G c k b
  saved_in b k l i = rw ((coef_level G c k l).0, (coef_level G c k l).1, coef_quant G c k) at i

-- ---- lengths

work_sized : (j : Job) (G : Given) (c step : ℕ) (b : Buffers) → Sized (area G) b → Sized (area G) (work j G c step b)
work_sized push G c step b z = Solver-laws.pushing_sized (area G) (constants_of G.sheet step) b z
work_sized fidelity G c step b z = Solver-laws.data_job_sized (coef_of G c) G.sheet.W G.sheet.H (own G.sheet c).data_weight b z
work_sized move G c step b z = Solver-laws.moving_sized (area G) (constants_of G.sheet step) b z
work_sized project G c step b z = Solver-laws.projecting_sized (coef_of G c) G.sheet.W G.sheet.H (area G) b z

-- ---- the laws

-- saved as it was keeps what is inside inside
stays : (G : Given) (c : ℕ) (b d : Buffers) → d.saved ≡ b.saved → AllIn G c b → AllIn G c d
stays G c b d e i k l = rw e (i k l)

blending_in : (G : Given) (step c : ℕ) (B : Buffers) → AllIn G c (channel (area G) c B)
    → AllIn G c (channel (area G) c (blending G.sheet.W G.sheet.H (count G) (λ c. held G.sheet c step) (constants_of G.sheet step) B))
unfolding channel blending
blending_in G step c B i = i

pub laws : Laws jobs
laws =
    record {
      start_sized = λ G ok c h. Solver-laws.starting_sized G.sheet.reorder (coef_of G c) G.sheet.W G.sheet.H;
      start_in =
          λ G ok c h k l.
          saved_in G ok c h (starting G.sheet.reorder (coef_of G c) G.sheet.W G.sheet.H) k l
          (Solver-laws.starting_in (coef_of G c) G.sheet.W G.sheet.H (covers G ok c h) (legal G ok c h) G.sheet.reorder k (rw (coef_count G c) l));
      work_sized = λ j G ok c step h b z. work_sized j G c step b z;
      push_in = λ G ok c step h b z i. stays G c b (work push G c step b) (Solver-laws.pushing_saved (constants_of G.sheet step) b) i;
      fidelity_in =
          λ G ok c step h b z i.
          stays G c b (work fidelity G c step b) (Solver-laws.data_job_saved (coef_of G c) G.sheet.W G.sheet.H (own G.sheet c).data_weight b) i;
      move_in = λ G ok c step h b z i. stays G c b (work move G c step b) (Solver-laws.moving_saved (constants_of G.sheet step) b) i;
      project_in =
          λ G ok c step h b z i k l f.
          saved_in G ok c h (projecting (coef_of G c) G.sheet.W G.sheet.H b) k l
          (Solver-laws.projecting_in (coef_of G c) G.sheet.W G.sheet.H (covers G ok c h) (legal G ok c h) b z k (rw (coef_count G c) l) f);
      clip_most = λ G c b. omega (arith, Solver-laws.clipping_most (coef_of G c) G.sheet.W G.sheet.H b, coef_count G c);
      blend_sized =
          λ G ok step B z.
          Solver-laws.blending_sized (count G * area G) G.sheet.W G.sheet.H (count G) (λ c. held G.sheet c step) (constants_of G.sheet step) B z;
      blend_held =
          λ G ok step c h e B z.
          Solver-laws.blending_left G.sheet.W G.sheet.H (count G) (λ c. held G.sheet c step) (constants_of G.sheet step) B z c h e;
      blend_in = λ G ok step c h B z i. blending_in G step c B i;
    }
