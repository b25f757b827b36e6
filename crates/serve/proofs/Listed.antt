-- A list of calls, call by call: each hands on the record and the buffers that the next is lent.
use mathlib.Core.Path.{◌≡◌, refl, sym, ap, ◌∙◌, subst}
use Prim.Native.Nat.{ℕ, zero, suc, ◌+◌, ◌≤◌, ◌<◌}
use native.Mathlib.Omega.{arith}
use native.Mathlib.Numerals.{add-one}
use mathlib.Core.Bool.{true}
use mathlib.Core.List.{List, [], ◌∷◌, ◌++◌, map, append-nil}
use lib.Dec.{T, ltb, ltb→lt}
use lib.ListN.{length, get_or, set, take, drop, length-map, length-set, drop_of_length-le}
use lib.Seq.{take_all, drop-cons, take-suc-set, append_snoc}
use Rattle.start.specs.Coef.{Levels}
use Rattle.start.specs.Buffers.{Buffers}
use Rattle.calls.specs.Run.{Given, Place, Sheet}
use Rattle.calls.specs.Jobs.{Call, on, blend}
use Rattle.calls.specs.Calls.{State, Called, settle, accept, refusal, lengths, lent, call, answers, final, onward}
use Rattle.demand.specs.Solver.{jobs}
use Rattle.record.specs.declared.Run.{Run}
use Rattle.std.specs.Prelude.{Result}
use Rattle.refusal.specs.declared.Refusal.{Refusal}
use Rattle.record.specs.declared.Accepted.{Accepted}
use Rattle.record.specs.Model.{places_of, given_of, placed, answer_of}
use Rattle.record.proofs.Placed.{placed_same, sheet_stays, places_placed, placed_twice}
use Rattle.run.specs.Public.{Outcome, gave, state_of, call_of}
use Rattle.calls.proofs.Tests.{all_anywhere}
use Rattle.numbered.specs.Numbered.{numbered}
use Rattle.serve.specs.Serve.{call_list, all_jobs, byte_of, GaveNumber, Listed, ran, list_of}

-- ---- places keep their number

module _ (G : Given) where
  accept_long : (x : Call) (s : State) → length (accept jobs G x s).after.places ≡ length s.places
  accept_long (on j c) s = simp length-set
  accept_long blend s = length-map s.places onward

  pub settle_long : (t : ℕ) (s : State) (o : Called) → length o.after.places ≡ length s.places → length (settle t s o).after.places ≡ length s.places
  settle_long zero s o e = e
  settle_long (suc t) s o e = refl

  pub call_long : (x : Call) (s : State) → length (call jobs G x s).after.places ≡ length s.places
  unfolding call
  call_long x s = settle_long (refusal G s.places x (lengths (lent x) s.buffers)) s (accept jobs G x s) (accept_long x s)

  pub final_long : (xs : List Call) (s : State) → length (final jobs G xs s).places ≡ length s.places
  unfolding final
  final_long [] s = refl
  final_long (x ∷ xs) s = final_long xs (call jobs G x s).after ∙ call_long x s

-- ---- what a call gives by value, it gives in numbers

pub in_number : (a : Result Accepted Refusal) {x : Outcome} {r : Run} {B : Buffers} {k : ℕ} → x ≡ gave a r B → k ≡ byte_of (answer_of a) → GaveNumber x k r B
in_number a h e =
    record {
      number = e ∙ ap (λ (o : Outcome). byte_of o.answer) (sym h);
      run = ap (λ (o : Outcome). o.run) (sym h);
      buffers = ap (λ (o : Outcome). o.buffers) (sym h);
    }

-- ---- a list of calls

module _ (levels : Levels) (tables : List ℕ) where
  -- from a record that other calls have left
  pub from_placed : (r : Run) (s : State) → length s.places ≡ length (places_of r) → (xs : List Call)
      → list_of (placed r s.places) levels tables xs s.buffers ≡ ran r (given_of r levels tables) xs s
  unfolding ran
  from_placed r s e xs =
      let q : Run = placed r s.places in
      let same_given : given_of q levels tables ≡ given_of r levels tables = ap (λ (S : Sheet). record { sheet = S; levels = levels; tables = tables }) (sheet_stays r s.places) in
      let same_state : state_of q s.buffers ≡ s = ap (λ (ps : List Place). record { places = ps; buffers = s.buffers }) (places_placed r s.places e) in
      (λ i.
      let t = final jobs (same_given i) xs (same_state i) in
      record { bytes = map byte_of (answers jobs (same_given i) xs (same_state i)); run = placed q t.places; buffers = t.buffers })
      ∙ (λ i.
      let t = final jobs (given_of r levels tables) xs s in
      record {
        bytes = map byte_of (answers jobs (given_of r levels tables) xs s);
        run = placed_twice r s.places t.places (sym (final_long (given_of r levels tables) xs s)) i;
        buffers = t.buffers;
      })

  -- one call, and the rest of the list
  after : List Call → Outcome → Listed
  after xs o = let l = list_of o.run levels tables xs o.buffers in record { bytes = byte_of o.answer ∷ l.bytes; run = l.run; buffers = l.buffers }

  one_more : (r : Run) (x : Call) (xs : List Call) (B : Buffers) → list_of r levels tables (x ∷ xs) B ≡ after xs (call_of r x levels tables B)
  unfolding ran answers final after
  one_more r x xs B =
      let G = given_of r levels tables in
      let o = call jobs G x (state_of r B) in
      sym (ap (λ (l : Listed). record { bytes = byte_of o.answer ∷ l.bytes; run = l.run; buffers = l.buffers }) (from_placed r o.after (call_long G x (state_of r B)) xs))

  pub call_first : (r : Run) (x : Call) (xs : List Call) (B : Buffers) {k : ℕ} {r' : Run} {B' : Buffers} → GaveNumber (call_of r x levels tables B) k r' B'
      → let l = list_of r' levels tables xs B' in
      list_of r levels tables (x ∷ xs) B ≡ record { bytes = k ∷ l.bytes; run = l.run; buffers = l.buffers }
  unfolding after
  call_first r x xs B e =
      one_more r x xs B
      ∙ (λ i.
      let l = list_of (sym e.run i) levels tables xs (sym e.buffers i) in
      record { bytes = sym e.number i ∷ l.bytes; run = l.run; buffers = l.buffers })

  pub no_call : (r : Run) (B : Buffers) → list_of r levels tables [] B ≡ record { bytes = []; run = r; buffers = B }
  unfolding ran answers final
  no_call r B = ap (λ (q : Run). record { bytes = []; run = q; buffers = B }) (placed_same r)

-- ---- the code's loop: the bytes written by the first i calls, and what the calls left give

module _ (levels : Levels) (tables : List ℕ) (js cs : List ℕ) where
  abbrev pub sofar : Run → Buffers → List ℕ → ℕ → Listed
  sofar r B bytes i =
      let l = list_of r levels tables (call_list (drop i js) (drop i cs)) B in record { bytes = take i bytes ++ l.bytes; run = l.run; buffers = l.buffers }

  calls_left : (i : ℕ) → i < length js → i < length cs
      → call_list (drop i js) (drop i cs) ≡ numbered (get_or js i 0) (get_or cs i 0) ∷ call_list (drop (suc i) js) (drop (suc i) cs)
  calls_left i h l = λ k. call_list (drop-cons js i 0 h k) (drop-cons cs i 0 l k)

  pub is_job : (i : ℕ) → all_jobs js ≡ true → get_or js i 0 < 5
  is_job i e = ltb→lt (get_or js i 0) 5 (all_anywhere (λ j. ltb j 5) js 0 (subst T (sym e) tt) tt i)

  -- one call more, its answer written
  pub one_turn : (r : Run) (B : Buffers) (bytes : List ℕ) (i : ℕ) → i < length js → length cs ≡ length js → length bytes ≡ length js
      → {b : ℕ} {r' : Run} {B' : Buffers} → GaveNumber (call_of r (numbered (get_or js i 0) (get_or cs i 0)) levels tables B) b r' B'
      → sofar r' B' (set bytes i b) (i + 1) ≡ sofar r B bytes i
  one_turn r B bytes i h long-cs long_bytes {b} {r'} {B'} e =
      let xs : List Call = call_list (drop (suc i) js) (drop (suc i) cs) in
      let l = list_of r' levels tables xs B' in
      let whole : list_of r levels tables (call_list (drop i js) (drop i cs)) B ≡ record { bytes = b ∷ l.bytes; run = l.run; buffers = l.buffers } =
      ap (λ (ys : List Call). list_of r levels tables ys B) (calls_left i h (omega arith))
      ∙ call_first levels tables r (numbered (get_or js i 0) (get_or cs i 0)) xs B e in
      let written : take (suc i) (set bytes i b) ++ l.bytes ≡ take i bytes ++ (b ∷ l.bytes) =
      ap (λ (ys : List ℕ). ys ++ l.bytes) (take-suc-set bytes i b (omega arith))
      ∙ append_snoc (take i bytes) b l.bytes in
      rw add-one
      ((λ k. record { bytes = written k; run = l.run; buffers = l.buffers })
      ∙ sym (ap (λ (m : Listed). record { bytes = take i bytes ++ m.bytes; run = m.run; buffers = m.buffers }) whole))

  -- no call is left
  pub last_turn : (r : Run) (B : Buffers) (bytes : List ℕ) (i : ℕ) → length js ≤ i → length bytes ≡ length js
      → sofar r B bytes i ≡ record { bytes = bytes; run = r; buffers = B }
  last_turn r B bytes i h long =
      ap (λ (ys : List ℕ). let l = list_of r levels tables (call_list ys (drop i cs)) B in record { bytes = take i bytes ++ l.bytes; run = l.run; buffers = l.buffers })
      (drop_of_length-le js h)
      ∙ ap (λ (m : Listed). record { bytes = take i bytes ++ m.bytes; run = m.run; buffers = m.buffers }) (no_call levels tables r B)
      ∙ ap (λ (ys : List ℕ). record { bytes = ys; run = r; buffers = B }) (append-nil (take i bytes) ∙ take_all i bytes (omega arith))
