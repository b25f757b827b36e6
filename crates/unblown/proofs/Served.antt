-- M-112 for `serve`: no byte is 255, and no channel of the record it leaves is marked.
use mathlib.Core.Path.{◌≡◌, refl, sym, ap, ◌∙◌, subst}
use mathlib.Core.Bool.{Bool, true, false, ◌||◌}
use mathlib.Core.List.{List, [], ◌∷◌, map}
use Prim.Native.Nat.{ℕ, zero, suc, ◌<◌}
use native.Mathlib.Omega.{arith}
use lib.Dec.{T, eqb}
use lib.ListN.{length}
use lib.Ieee.Fits.{and_l, and_r, and_i}
use Rattle.calls.specs.Run.{Place, place}
use Rattle.calls.specs.Calls as Calls
use Rattle.calls.specs.Calls.{all, all_six, lengths, start, start_refusal, answers, none_yet, plain_places}
use Rattle.demand.specs.Solver.{jobs}
use Rattle.demand.proofs.Demand3.{demand3}
use Rattle.record.specs.declared.Run.{Run}
use Rattle.record.specs.Model.{places_of, given_of, answer_of}
use Rattle.record.proofs.Placed.{places_placed}
use Rattle.run.specs.Public.{state_of}
use Rattle.serve.specs.Serve.{byte_of, call_list, serve_refusal_of}
use Rattle.serve.proofs.Served.{passed, start_done, start_long}
use Rattle.serve.proofs.Listed.{final_long}
use Rattle.mild.specs.Mild.{calm}
use Rattle.mild.proofs.Never.{never_blows}
use Rattle.unblown.specs.Calls.{calm_byte, ServedCalmly, ServeNeverBlown}

or_second : (a b : Bool) → T b → T (a || b)
or_second true b t = tt
or_second false b t = t

byte_calm : (a : Calls.Answer) → T (calm a) → T (calm_byte (byte_of a))
byte_calm (Calls.refused n) t = or_second (eqb n 0) (eqb n 9 || eqb n 11 || eqb n 12) t
byte_calm Calls.done t = tt
byte_calm (Calls.projected clipped true) t = absurd t
byte_calm (Calls.projected clipped false) t = tt
byte_calm (Calls.blended tv tgv) t = tt

bytes_calm : (said : List Calls.Answer) → T (all calm said) → T (all calm_byte (map byte_of said))
bytes_calm [] t = tt
bytes_calm (a ∷ said) t =
    and_i (calm_byte (byte_of a)) (all calm_byte (map byte_of said)) (byte_calm a (and_l (calm a) (all calm said) t)) (bytes_calm said (and_r (calm a) (all calm said) t))

pub serve_never : ServeNeverBlown
serve_never r m js cs bytes levels tables B a r' bytes' B' s e = go (serve_refusal_of r js cs bytes levels tables B) refl
  where
    go : (n : ℕ) → serve_refusal_of r js cs bytes levels tables B ≡ n → ServedCalmly bytes' r'
    go (suc n) z = absurd (not_both (s.if_refused (λ y. let w : suc n ≡ 0 = sym z ∙ y in omega arith)).0)
      where
        not_both : answer_of a ≡ Calls.refused (serve_refusal_of r js cs bytes levels tables B) → ⊥
        not_both q = let y : ◌≡◌ {A = ℕ} 0 1 = cc (e, q) in omega arith
    go zero z =
        let G = given_of r levels tables in
        let xs = call_list js cs in
        let p = passed (start_refusal G (places_of r) (lengths all_six B)) js (length cs) (length bytes) z in
        let d = (s.if_done z).1 in
        let began = start_done r levels tables B p.startable in
        let after = (start jobs G (state_of r B)).after in
        let claim = demand3 G (state_of r B) began xs in
        let ps = plain_places jobs G xs (none_yet G) in
        let n = never_blows G m (state_of r B) began xs in
        let long : length ps ≡ length (places_of r) = ap length (sym claim.same_places) ∙ final_long G xs after ∙ start_long r levels tables B in
        record {
          bytes_calm = subst (λ (l : List ℕ). T (all calm_byte l)) (sym (d.same_answers ∙ ap (map byte_of) (sym claim.same_answers))) (bytes_calm (answers jobs G xs after) n.calm_answers);
          unmarked = subst (λ (q : Run). (c : ℕ) → c < q.count → (place (places_of q) c).mark ≡ false) (sym d.same_places)
              (λ c l.
              ap (λ (qs : List Place). (place qs c).mark) (places_placed r ps long) ∙ ap (λ (qs : List Place). (place qs c).mark) (sym claim.same_places) ∙ n.unmarked c l);
        }
