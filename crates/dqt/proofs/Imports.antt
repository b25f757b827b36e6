-- What an accepted import leaves: each destination has the last table that names it, and another one keeps its table.
use mathlib.Core.Path.{◌≡◌, sym, ap, ◌∙◌}
use mathlib.Core.Bool.{true, not}
use mathlib.Core.List.{List, [], ◌∷◌}
use mathlib.Core.Logic.{◌≢◌}
use Prim.Native.Nat.{ℕ, ◌<◌}
use lib.Dec.{eqb}
use lib.ListN.{length}
use borrow.Author.Tests.{eqb-true}
use Rattle.answers.specs.Tests.{test}
use Rattle.answers.specs.Answers.{Filled, filled}
use Rattle.answers.proofs.Tests.{holds, passed_of}
use Rattle.answers.proofs.Fill.{fill_done, fill_refused}
use Rattle.dqt.specs.Dqt.{val, framed, start, started, elements, faults, unzigzagged, imported, import_refusal, importing, export_refusal, exported, exporting, table_of, LastStored, UnnamedKept}
use Rattle.dqt.proofs.Frames.{head_small}
use Rattle.dqt.proofs.Sound.{Sound, each_sound}
use Rattle.dqt.proofs.Tables.{kept, last}

pub record Accepted (s tables : List ℕ) : Type 0 where
  pub four : length tables ≡ 256
  pub frame : framed s ≡ true
  pub each : (t : ℕ) → t < started s → Sound s (start t)
  pub is : (importing s tables).written ≡ imported s tables

module _ (s tables : List ℕ) (e : (importing s tables).number ≡ 0) where
  pub accepted : Accepted s tables
  unfolding importing
  accepted =
      let c = fill_done (import_refusal s tables) (imported s tables) tables e in
      let p = passed_of (test 8 (not (eqb (length tables) 256)) ∷ test 19 (not (framed s)) ∷ faults s ∷ []) c.0 in
      record {
        four = eqb-true (length tables) 256 (holds 7 (eqb (length tables) 256) p.0);
        frame = holds 18 (framed s) p.1.0;
        each = each_sound s p.1.1.0;
        is = c.1;
      }

  small : (t : ℕ) → t < started s → val s (start t) < 4
  small t h = head_small (val s (start t)) (accepted.each t h).head

  module _ (d : ℕ) (k : d < 4) where
    -- "A destination that the segment doesn't name keeps its table"
    pub unnamed_kept : ((t : ℕ) → t < started s → val s (start t) ≡ d → ⊥) → table_of (importing s tables).written d ≡ table_of tables d
    unnamed_kept h = ap (λ (x : List ℕ). table_of x d) accepted.is ∙ kept s tables accepted.four d k (started s) small h

    -- "a later table for a destination replaces an earlier one": table t is the last that names d
    pub last_stored : (t : ℕ) → t < started s → val s (start t) ≡ d → ((u : ℕ) → t < u → u < started s → val s (start u) ≡ d → ⊥)
        → table_of (importing s tables).written d ≡ unzigzagged (elements s (start t))
    last_stored t l n h = ap (λ (x : List ℕ). table_of x d) accepted.is ∙ last s tables accepted.four d k (started s) small t l n h

-- the same of the tables that an accepted import writes
module _ (s old new : List ℕ) (e : filled 0 new ≡ importing s old) where
  number : (importing s old).number ≡ 0
  number = sym (ap (λ (f : Filled ℕ). f.number) e)

  tables : (d : ℕ) → table_of new d ≡ table_of (importing s old).written d
  tables d = ap (λ (f : Filled ℕ). table_of f.written d) e

  pub last_is : LastStored s new
  last_is d t k h = tables d ∙ last_stored s old number d k t h.among h.names h.last

  pub unnamed_is : UnnamedKept s old new
  unnamed_is d k h = tables d ∙ unnamed_kept s old number d k h

-- "A refusal leaves all tables and the output unchanged"
pub import_refused : (s tables : List ℕ) → (importing s tables).number ≢ 0 → (importing s tables).written ≡ tables
unfolding importing
import_refused s tables e = fill_refused (import_refusal s tables) (imported s tables) tables e

pub export_refused : (tables out : List ℕ) → (exporting tables out).number ≢ 0 → (exporting tables out).written ≡ out
unfolding exporting
export_refused tables out e = fill_refused (export_refusal tables out) (exported tables) out e
