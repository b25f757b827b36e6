-- A held channel stays as it is, and the recursion in which none is held is document 01's (M-108).
use mathlib.Core.Path.{◌≡◌, refl, sym, ap, ◌∙◌}
use mathlib.Core.Logic.{◌⊎◌, inl, inr}
use Prim.Native.Nat.{ℕ, zero, suc, ◌*◌, ◌/◌, ◌%◌, ◌≤◌, ◌<◌}
use native.Mathlib.Nat.{eq-or-lt_of_le}
use native.Mathlib.Omega.{arith}
use mathlib.Core.Bool.{Bool, true, false, ◌&&◌, cond}
use lib.Dec.{ltb, eqb}
use borrow.Author.Tests.{lt-ltb, le-leb, lt-leb}
use Rattle.start.specs.Buffers.{Buffers}
use Rattle.calls.specs.Run.{Sheet, Given, own, count, area, held}
use Rattle.calls.specs.Buffers.{get, make, joined, channel}
use Rattle.calls.specs.Jobs.{push, fidelity, move, project, turn, Jobs, next, fixed, kept}
use Rattle.calls.specs.Held.{SameAt, StaysHeld, AtItsStart, NoneHeld, unheld}
use Rattle.calls.proofs.Parts.{join_ext}

-- ---- when a channel is held

pub held_from : (S : Sheet) (c step : ℕ) → c < S.count → (own S c).held ≤ step → held S c step ≡ true
held_from S c step h l = rw (lt-ltb c S.count h, le-leb (own S c).held step l)

and_never : (b : Bool) → b && false ≡ false
and_never true = refl
and_never false = refl

pub held_before : (S : Sheet) (c step : ℕ) → step < (own S c).held → held S c step ≡ false
held_before S c step l = ap (λ (b : Bool). ltb c S.count && b) (lt-leb (own S c).held step l) ∙ and_never (ltb c S.count)

-- ---- it stays

both_ways : (b : Bool) (k : ℕ) → cond b k k ≡ k
both_ways true k = refl
both_ways false k = refl

module _ (J : Jobs) (G : Given) (c : ℕ) (below : c < count G) where
  -- its first position as a held channel
  abbrev from : ℕ
  from = 5 * (own G.sheet c).held

  -- one job later
  stays_on : (p : ℕ) → from ≤ p → SameAt J G c (suc p) p
  unfolding fixed kept
  stays_on p l =
      let e : held G.sheet c (p / 5) ≡ true = held_from G.sheet c (p / 5) below (omega arith) in (
        ap (λ (b : Bool). cond b (fixed J G p c) (next J G (p % 5) (p / 5) (fixed J G p) c)) e,
        ap (λ (b : Bool). cond (eqb (p % 5) (turn project)) (cond b (kept J G p c) (J.clip G c (fixed J G p c))) (kept J G p c)) e
            ∙ both_ways (eqb (p % 5) (turn project)) (kept J G p c),
      )

  equal_at : (p q : ℕ) → p ≡ q → SameAt J G c p q
  equal_at p q e = (ap (λ (r : ℕ). fixed J G r c) e, ap (λ (r : ℕ). kept J G r c) e)

  stay : (p : ℕ) → from ≤ p → SameAt J G c p from
  stay zero l = equal_at 0 from (omega arith)
  stay (suc p) l = go (eq-or-lt_of_le l) (stay p)
    where
      go : (from ≡ suc p) ⊎ (from < suc p) → (from ≤ p → SameAt J G c p from) → SameAt J G c (suc p) from
      go (inl e) ih = equal_at (suc p) from (sym e)
      go (inr h) ih =
          let on = stays_on p (omega arith) in
          let before = ih (omega arith) in
          (on.0 ∙ before.0, on.1 ∙ before.1)

pub stays_held : (J : Jobs) → StaysHeld J
stays_held J G c p below l = stay J G c below p l

pub at_its_start : (J : Jobs) → AtItsStart J
unfolding fixed kept
at_its_start J G c p below z =
    let first = stay J G c below p (omega arith) in
    let zeroth = equal_at J G c below (5 * (own G.sheet c).held) 0 (omega arith) in
    (first.0 ∙ zeroth.0, first.1 ∙ zeroth.1)

-- ---- none held

joined_ext : (k : ℕ) (f g : ℕ → Buffers) → ((c : ℕ) → c < k → f c ≡ g c) → joined k f ≡ joined k g
unfolding joined
joined_ext k f g e = λ i. make (λ b. join_ext k (λ c. get b (f c)) (λ c. get b (g c)) (λ c h. ap (get b) (e c h)) i)

module _ (J : Jobs) (G : Given) where
  -- a job sees the channels of the run alone
  next_ext : (r step : ℕ) (f g : ℕ → Buffers) → ((c : ℕ) → c < count G → f c ≡ g c) → (c : ℕ) → c < count G → next J G r step f c ≡ next J G r step g c
  next_ext zero step f g e c h = ap (J.work push G c step) (e c h)
  next_ext (suc zero) step f g e c h = ap (J.work fidelity G c step) (e c h)
  next_ext (suc (suc zero)) step f g e c h = ap (λ (B : Buffers). channel (area G) c (J.blending G step B)) (joined_ext (count G) f g e)
  next_ext (suc (suc (suc zero))) step f g e c h = ap (J.work move G c step) (e c h)
  next_ext (suc (suc (suc (suc k)))) step f g e c h = ap (J.work project G c step) (e c h)

  module _ (ends : (c : ℕ) → c < count G → (own G.sheet c).held ≡ G.sheet.N) where
    as_unheld : (p : ℕ) → p ≤ 5 * G.sheet.N → (c : ℕ) → c < count G → fixed J G p c ≡ unheld J G p c
    unfolding fixed unheld
    as_unheld zero l c h = refl
    as_unheld (suc p) l c h =
        let e : held G.sheet c (p / 5) ≡ false = held_before G.sheet c (p / 5) (omega (arith, ends c h)) in
        ap (λ (b : Bool). cond b (fixed J G p c) (next J G (p % 5) (p / 5) (fixed J G p) c)) e
        ∙ next_ext (p % 5) (p / 5) (fixed J G p) (unheld J G p) (as_unheld p (omega arith)) c h

pub none_held : (J : Jobs) → NoneHeld J
none_held J G ends c p h l = as_unheld J G ends p l c h
