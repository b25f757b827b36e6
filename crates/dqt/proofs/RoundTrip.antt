-- Importing an export yields the same four tables, whatever stood there.
use mathlib.Core.Path.{◌≡◌, refl, sym, ap, ◌∙◌}
use mathlib.Core.Bool.{Bool, true, false, not, ◌&&◌, cond}
use mathlib.Core.List.{List, [], ◌∷◌}
use Prim.Native.Nat.{ℕ, ◌+◌, ◌-◌, ◌*◌, ◌/◌, ◌%◌, ◌<◌}
use native.Mathlib.Omega.{arith}
use lib.Dec.{eqb}
use lib.ListN.{length}
use borrow.Author.Tests.{eqb-true, eq-eqb, ne_eqb, le-leb, le-ltb}
use Rattle.fold.proofs.Parts.{part_at, part_length}
use Rattle.answers.specs.Tests.{first, test, all, table_ok}
use Rattle.answers.specs.Answers.{fill, filled}
use Rattle.answers.proofs.Lists.{listed_at, listed_is, listed_length}
use Rattle.answers.proofs.Tests.{and_left, all-at, all_of, holds, passed_of}
use Rattle.answers.proofs.Fill.{fill_done}
use Rattle.zigzag.specs.Zigzag.{to_raster, to_zigzag}
use Rattle.zigzag.proofs.Places.{raster_zigzag, raster_in, zigzag_in}
use Rattle.dqt.specs.Dqt.{val, framed, non_zero, start, started, elements, faults, unzigzagged, imported, importing, exported_at, exported, export_refusal, exporting, table_of, ImportedAs}
use Rattle.dqt.proofs.Frames.{quantiser_range}
use Rattle.dqt.proofs.Sound.{Sound, all_sound}
use Rattle.dqt.proofs.Tables.{same-tables, after_length, last}

module _ (tables : List ℕ) (four : length tables ≡ 256) (ok : all table_ok tables ≡ true) where
  abbrev e : List ℕ
  e = exported tables

  long : length e ≡ 264
  long = listed_length (exported_at tables) 264

  byte : (i : ℕ) → i < 264 → val e i ≡ exported_at tables i
  byte i h = listed_at 0 (exported_at tables) 264 i h

  head : (t : ℕ) → t < 4 → val e (start t) ≡ t
  unfolding exported_at
  head t h =
      let table : (start t - 4) / 65 ≡ t = omega arith in
      let place : (start t - 4) % 65 ≡ 0 = omega arith in
      byte (start t) (omega arith) ∙ rw (le-ltb (start t) 4 (omega arith), table, place)

  element : (t k : ℕ) → t < 4 → k < 64 → val (elements e (start t)) k ≡ val tables (t * 64 + to_raster k)
  unfolding exported_at
  element t k h l =
      let i = start t + 1 + k in
      let table : (i - 4) / 65 ≡ t = omega arith in
      let place : (i - 4) % 65 ≡ k + 1 = omega arith in
      let back : k + 1 - 1 ≡ k = omega arith in
      let size = long in
      part_at e (start t + 1) (start t + 65) (omega arith) (omega arith) k 0 (omega arith)
      ∙ byte i (omega arith)
      ∙ rw (le-ltb i 4 (omega arith), table, place, ne_eqb (k + 1) 0 (λ z. omega arith), back)

  is_framed : framed e ≡ true
  unfolding framed exported_at
  is_framed = rw (byte 0 (omega arith), byte 1 (omega arith), byte 2 (omega arith), byte 3 (omega arith), long)

  four_started : started e ≡ 4
  four_started = rw long

  non-zero : (q : ℕ) → table_ok q ≡ true → non_zero q ≡ true
  non-zero q h = let r = (quantiser_range q h).0 in rw (ne_eqb q 0 (λ z. omega arith))

  sound_at : (t : ℕ) → t < 4 → Sound e (start t)
  sound_at t h =
      let size = long in
      record {
        head = rw (head t h, eq-eqb (t / 16) 0 (omega arith), le-leb (t % 16) 3 (omega arith));
        long = omega arith;
        no_zero = all_of non_zero 0 (elements e (start t)) (λ k l.
            let m : k < 64 = omega (arith, part_length e (start t + 1) (start t + 65) (omega arith) (omega arith)) in
            rw (element t k h m) (non-zero (val tables (t * 64 + to_raster k)) (all-at table_ok 0 tables ok (t * 64 + to_raster k) (omega (arith, raster_in k 64 refl m)))));
      }

  -- undoing the zigzag of destination d's bytes gives its table
  table_back : (d : ℕ) → d < 4 → unzigzagged (elements e (start d)) ≡ table_of tables d
  table_back d h =
      listed_is 0 (λ p. val (elements e (start d)) (to_zigzag p)) 64 (table_of tables d)
      (part_length tables (d * 64) (d * 64 + 64) (omega arith) (omega arith) ∙ omega arith)
      (λ p l.
      element d (to_zigzag p) h (zigzag_in p 64 refl l) ∙ ap (λ (k : ℕ). val tables (d * 64 + k)) (raster_zigzag p)
      ∙ sym (part_at tables (d * 64) (d * 64 + 64) (omega arith) (omega arith) p 0 (omega arith)))

  module _ (old : List ℕ) (room : length old ≡ 256) where
    small : (t : ℕ) → t < 4 → val e (start t) < 4
    small t h = rw (head t h) h

    imported_is : imported e old ≡ tables
    imported_is =
        rw four_started
        (same-tables _ tables (after_length e old room 4 small) four
        (λ d h. last e old room d h 4 small d h (head d h) (λ u l m z. let w = head u m in omega arith) ∙ table_back d h))

    accepts : importing e old ≡ filled 0 tables
    unfolding importing
    accepts =
        let none : faults e ≡ 0 = all_sound e (λ t h. sound_at t (rw four_started at h)) in
        rw (eq-eqb (length old) 256 room, is_framed, none, imported_is)

-- "Importing an export yields the same four tables": what `export` wrote, `import` accepts
pub export_import : (tables out old : List ℕ) → (exporting tables out).number ≡ 0 → length old ≡ 256
    → importing (exporting tables out).written old ≡ filled 0 tables
unfolding exporting
export_import tables out old e room =
    let t = eqb (length tables) 256 in
    let o = eqb (length out) 264 in
    let c = fill_done (export_refusal tables out) (exported tables) out e in
    let p = passed_of (test 8 (not (t && o)) ∷ test 4 (not (all table_ok tables)) ∷ []) c.0 in
    let four = eqb-true (length tables) 256 (and_left t o (holds 7 (t && o) p.0)) in
    rw c.1 (accepts tables four (holds 3 (all table_ok tables) p.1.0) old room)

-- "export refuses a quantiser outside 1 to 255 (4)", and with good lengths nothing else
pub export_exactly : (tables out : List ℕ) → length tables ≡ 256 → length out ≡ 264
    → exporting tables out ≡ cond (all table_ok tables) (filled 0 (exported tables)) (filled 4 out)
unfolding exporting
export_exactly tables out four room = rw (eq-eqb (length tables) 256 four, eq-eqb (length out) 264 room) (either (all table_ok tables))
  where
    either : (b : Bool) → fill (first (test 4 (not b) ∷ [])) (exported tables) out ≡ cond b (filled 0 (exported tables)) (filled 4 out)
    either true = refl
    either false = refl

-- the same of the segment that an accepted export writes
pub exported_undone : (tables x : List ℕ) → length tables ≡ 256 → all table_ok tables ≡ true → x ≡ exported tables → ImportedAs x tables
exported_undone tables x four ok e old room = rw e (accepts tables four ok old room)
