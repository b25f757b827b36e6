-- The number that an accepted project answers is the one that the record keeps of its channel afterwards.
use mathlib.Core.Path.{◌≡◌, refl, ap, ◌∙◌}
use mathlib.Core.Bool.{Bool}
use mathlib.Core.List.{List}
use Prim.Native.Nat.{ℕ, zero, suc, ◌<◌}
use native.Mathlib.Omega.{arith}
use lib.ListN.{length, set, length-set}
use lib.Ieee.Fits.{and_r}
use Rattle.start.specs.Coef.{Levels}
use Rattle.start.specs.Buffers.{Buffers}
use Rattle.calls.specs.Run.{Given, Place, place, sheet_ok, places_ok}
use Rattle.calls.specs.Jobs.{project, on, Seen}
use Rattle.calls.specs.Calls.{State, projected, marked, seen_in, refusal, lengths, lent, settle, accept, call}
use Rattle.calls.proofs.Legal.{places_are, place_here}
use Rattle.demand.specs.Solver.{jobs}
use Rattle.record.specs.declared.Run.{Run}
use Rattle.record.specs.Model.{sheet_of, places_of, clipped_of, given_of, placed}
use Rattle.record.proofs.Placed.{places_placed}
use Rattle.run.specs.Public.{state_of, call_of}
use Rattle.run.proofs.Ready.{accepted}

module _ (r : Run) (levels : Levels) (tables : List ℕ) (c : ℕ) (B : Buffers) (n : ℕ) (b : Bool) where
  abbrev G : Given
  G = given_of r levels tables

  abbrev s : State
  s = state_of r B

  pub project_keeps : (call_of r (on project c) levels tables B).answer ≡ projected n b → clipped_of (call_of r (on project c) levels tables B).run c ≡ n
  unfolding call
  project_keeps = go (refusal G (places_of r) (on project c) (lengths (lent (on project c)) B)) refl
    where
      go : (t : ℕ) → refusal G (places_of r) (on project c) (lengths (lent (on project c)) B) ≡ t
          → (settle t s (accept jobs G (on project c) s)).answer ≡ projected n b → clipped_of (placed r (settle t s (accept jobs G (on project c) s)).after.places) c ≡ n
      go zero z e =
          let a = accepted r levels tables project c (lengths (lent (on project c)) B) z in
          let x : Seen = seen_in jobs G project c s in
          let q : Place = marked x (place (places_of r) c) in
          let all : length (places_of r) ≡ r.count =
          (places_are (sheet_of r) (places_of r) (and_r (sheet_ok (sheet_of r)) (places_ok (sheet_of r) (places_of r)) a.is-legal)).long in
          let here : c < length (places_of r) = omega (arith, a.below, all) in
          let same : x.clipped ≡ n = cc in
          ap (λ (ps : List Place). (place ps c).clipped) (places_placed r (set (places_of r) c q) (simp length-set))
          ∙ ap (λ (p : Place). p.clipped) (place_here (places_of r) c q here)
          ∙ same
      go (suc t) z e = let w : ◌≡◌ {A = ℕ} 0 1 = cc in absurd (omega arith)
