-- What a legal record tells the solver of a channel: its cover, and the lengths of what it is handed.
use mathlib.Core.Path.{◌≡◌, ◌∙◌}
use mathlib.Core.List.{List}
use Prim.Native.Nat.{ℕ, ◌+◌, ◌*◌, ◌<◌, ◌≤◌}
use native.Mathlib.Omega.{arith}
use lib.ListN.{length}
use lib.Ieee.{Float}
use Rattle.fold.specs.Part.{part}
use Rattle.fold.proofs.Parts.{part_length}
use Rattle.start.specs.declared.coef.Own as Sides
use Rattle.start.specs.Coef.{Covers, Lent, Levels}
use Rattle.calls.specs.Run.{own, coefs, levels_before, levels_part}
use Rattle.demand.proofs.Laws.{covers_of}
use Rattle.record.specs.declared.Run.{Run}
use Rattle.record.specs.Model.{Legal, sheet_of}
use Rattle.record.proofs.Sizes.{facts, levels_rise}
use Rattle.calls.proofs.Parts.{length_part}
use Rattle.parts.specs.Parts.{Fed, Whole}

abbrev pub sides : Run → ℕ → Sides.Own
sides r c =
    record { width = (own (sheet_of r) c).width; height = (own (sheet_of r) c).height; horizontal = (own (sheet_of r) c).across; vertical = (own (sheet_of r) c).down }

pub covers : (r : Run) → Legal r → (c : ℕ) → c < r.count → Covers (sides r c) r.w r.h
covers r ok c h = covers_of (sheet_of r) (facts r ok) c h

pub lent_long : (r : Run) (c : ℕ) (levels : Levels) (tables : List ℕ) → Fed r c levels tables
    → let at = levels_before (sheet_of r) c in
    Lent (sides r c) (levels_part levels at (at + coefs (sheet_of r) c)) (part tables (c * 64) (c * 64 + 64))
lent_long r c levels tables f =
    let S = sheet_of r in
    let at : ℕ = levels_before S c in
    let rise = levels_rise S c r.count f.below in
    let l : at + coefs S c ≤ length levels.lows = omega (arith, rise, f.levels-long.0) in
    let h : at + coefs S c ≤ length levels.highs = omega (arith, rise, f.levels-long.1) in
    let m : c * 64 + 64 ≤ length tables = omega (arith, f.below, f.tables_long) in (
      (
        part_length levels.lows at (at + coefs S c) (omega arith) l ∙ omega arith,
        part_length levels.highs at (at + coefs S c) (omega arith) h ∙ omega arith,
      ),
      part_length tables (c * 64) (c * 64 + 64) (omega arith) m ∙ omega arith,
    )

-- channel c's part of a lent buffer has as many values as its full plane
pub part_long : (r : Run) (c : ℕ) → c < r.count → {from to w h : ℕ} → from ≡ c * (r.w * r.h) → to ≡ c * (r.w * r.h) + r.w * r.h → w ≡ r.w → h ≡ r.h
    → (xs : List Float) → Whole r xs → length (part xs from to) ≡ w * h
part_long r c below f t x y xs l = rw (f, t, x, y) (length_part (r.w * r.h) c r.count xs l below)
