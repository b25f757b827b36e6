-- What each public call does to the run's record and the lent buffers, refusals included; and the plain run (document 01, "Sheet records", "Jobs and positions").
use Rattle.std.specs.Prelude.{ℕ, zero, suc, ◌*◌, ◌/◌, ◌%◌, Bool, true, false, not, ◌&&◌, ◌||◌, cond, List, [], ◌∷◌, ◌++◌, map, length, set, replicate, ltb, eqb, ℤ, Float}
use Rattle.std.specs.Int.Signed.{le_z}
use Rattle.calls.specs.Run.{Sheet, Place, Given, fresh, place, count, area, levels_before, every, among, legal}
use Rattle.start.specs.Buffers.{Buffers}
use Rattle.start.specs.Coef.{Levels}
use Rattle.calls.specs.Buffers.{Name, Plane, Prior, Gradient, Across, Down, Saved, get, channel, put_channel, joined}
use Rattle.calls.specs.Jobs.{Job, push, fidelity, move, project, Call, on, blend, turn, blend_turn, Jobs, Seen, working, seen, seen_at, totals_at}
pub use Rattle.answers.specs.Tests.{Tests, first, test, all, table_ok, level_ok}

-- a call's answer: the refusal's number in the table; accepted; project accepted, with the number of coefficients that it clipped and whether the channel is
-- now marked blown; blend accepted, with both its totals
pub data Answer : Type 0 where
  refused : ℕ → Answer
  done : Answer
  projected : ℕ → Bool → Answer
  blended : Float → Float → Answer

-- what the calls hand on: the record's places and the lent buffers
pub record State : Type 0 where
  pub places : List Place
  pub buffers : Buffers

-- what a call gives: its answer, and what it leaves
pub record Called : Type 0 where
  pub answer : Answer
  pub after : State

-- ---- refusals: what each test gives, a number of the table or 0 for none, in the order of the tests

-- 12, 10, 11, 9: by positions and marks alone; "blend names no channel"
abbrev pub turn_tests : Sheet → List Place → Call → Tests
turn_tests S ps (on j c) =
    test 12 (not (ltb c S.count))
    ∷ test 10 (place ps c).mark
    ∷ test 11 (eqb (place ps c).position (5 * S.N))
    ∷ test 9 (not (eqb ((place ps c).position % 5) (turn j)))
    ∷ []
turn_tests S ps blend =
    test 10 (among S.count (λ c. (place ps c).mark))
    ∷ test 11 (among S.count (λ c. eqb (place ps c).position (5 * S.N)))
    ∷ test 9 (not (every S.count (λ c. eqb ((place ps c).position % 5) blend_turn)))
    ∷ []

-- "A call is lent whole the buffers that it reads or writes. Start, data and project are lent levels and tables."
abbrev pub lent : Call → List Name
lent (on push c) = Plane ∷ Prior ∷ []
lent (on fidelity c) = Gradient ∷ Saved ∷ []
lent (on move c) = Plane ∷ Gradient ∷ []
lent (on project c) = Plane ∷ Across ∷ Down ∷ Saved ∷ []
lent blend = Plane ∷ Gradient ∷ Across ∷ Down ∷ []

abbrev pub all_six : List Name
all_six = Plane ∷ Prior ∷ Gradient ∷ Across ∷ Down ∷ Saved ∷ []

abbrev pub lent_levels : Call → Bool
lent_levels (on push c) = false
lent_levels (on fidelity c) = true
lent_levels (on move c) = false
lent_levels (on project c) = true
lent_levels blend = false

-- lengths of the buffers of these names
abbrev pub lengths : List Name → Buffers → List ℕ
lengths names B = map (λ b. length (get b B)) names

-- M-105: 14 "range", low above high, "checked after 5 on the same pair and before the next pair"
abbrev pub pair_fault : ℤ → ℤ → ℕ
pair_fault low high = first (test 5 (not (level_ok low && level_ok high)) ∷ test 14 (not (le_z low high)) ∷ [])

-- pair by pair
abbrev pub pair_faults : List ℤ → List ℤ → Tests
pair_faults [] highs = []
pair_faults (low ∷ lows) [] = []
pair_faults (low ∷ lows) (high ∷ highs) = pair_fault low high ∷ pair_faults lows highs

abbrev pub levels_fault : Levels → ℕ
levels_fault levels = first (pair_faults levels.lows levels.highs)

-- "Each lent buffer has (channels of the run) × W × H values", lows and highs w × h and tables 64 a channel
abbrev pub buffers_long : Given → List ℕ → Bool
buffers_long G ls = all (λ n. eqb n (count G * area G)) ls

abbrev pub levels_long : Levels → ℕ → Bool
levels_long levels n = eqb (length levels.lows) n && eqb (length levels.highs) n

abbrev pub values_long : Given → Bool
values_long G = levels_long G.levels (levels_before G.sheet (count G)) && eqb (length G.tables) (count G * 64)

-- 13, 8, 4, then pair by pair 5 and 14: by the record and what is lent, the buffers' lengths being ls; 4, 5 and 14 "look at all of them"
abbrev pub lend_tests : Given → List Place → List ℕ → Bool → Tests
lend_tests G ps ls levels =
    test 13 (not (legal G.sheet ps))
    ∷ test 8 (not (buffers_long G ls && (not levels || values_long G)))
    ∷ test 4 (levels && not (all table_ok G.tables))
    ∷ cond levels (levels_fault G.levels) 0
    ∷ []

-- "Calls check 13, 8, 4, 5, 12, 10, 11, 9, each where it applies", and 14 with 5, "before 12": the refusal's number, 0 for none
unfoldable pub refusal : Given → List Place → Call → List ℕ → ℕ
refusal G ps x ls = first (lend_tests G ps ls (lent_levels x) ++ turn_tests G.sheet ps x)

unfoldable pub start_refusal : Given → List Place → List ℕ → ℕ
start_refusal G ps ls = first (lend_tests G ps ls true)

-- ---- an accepted call

-- A channel's place after a job: "its position advances"
abbrev pub onward : Place → Place
onward p = record { position = suc p.position; mark = p.mark; clipped = p.clipped }

-- and project marks the channel "if then any plane value or saved coefficient is NaN or infinite", and "the record keeps the last number" of clipped
-- coefficients (M-104).
abbrev pub marked : Seen → Place → Place
marked x p = record { position = suc p.position; mark = x.blown; clipped = x.clipped }

abbrev pub advance : Job → Seen → Place → Place
advance push x p = onward p
advance fidelity x p = onward p
advance move x p = onward p
advance project x p = marked x p

-- "The call is accepted and says so"; project says how many coefficients it clipped, of a held channel the number kept before
abbrev pub reply : Job → Seen → Answer
reply push x = done
reply fidelity x = done
reply move x = done
reply project x = projected x.clipped x.blown

-- channel c's buffers after its job; the step is the position's fifth
abbrev pub worked : Jobs → Given → Job → ℕ → State → Buffers
worked J G j c s = working J j G c ((place s.places c).position / 5) (channel (area G) c s.buffers)

-- and what the job tells
abbrev pub seen_in : Jobs → Given → Job → ℕ → State → Seen
seen_in J G j c s =
    seen J G c ((place s.places c).position / 5) (place s.places c).clipped (channel (area G) c s.buffers) (worked J G j c s)

-- "Blend also returns the f64 totals of `tv_gradient` and `tgv_gradient`" (document 02, M-103)
abbrev pub blend_reply : Float × Float → Answer
blend_reply t = blended t.0 t.1

abbrev pub accept : Jobs → Given → Call → State → Called
accept J G (on j c) s =
    let x = seen_in J G j c s in
    record {
      answer = reply j x;
      after = record {
        places = set s.places c (advance j x (place s.places c));
        buffers = put_channel (area G) c s.buffers (worked J G j c s);
      };
    }
accept J G blend s =
    record {
      answer = blend_reply (J.totals G ((place s.places 0).position / 5) s.buffers);
      after = record {
        places = map onward s.places;
        buffers = J.blending G ((place s.places 0).position / 5) s.buffers;
      };
    }

-- a refusal leaves "lent buffers and any record unchanged"
abbrev pub settle : ℕ → State → Called → Called
settle zero s o = o
settle (suc r) s o = record { answer = refused (suc r); after = s }

-- a call of push, data, blend, move or project
unfoldable pub call : Jobs → Given → Call → State → Called
call J G x s = settle (refusal G s.places x (lengths (lent x) s.buffers)) s (accept J G x s)

-- start "sets positions to 0 and clears marks: that is a fresh run"; the kept numbers are "0 after start" (M-104)
abbrev pub begin : Jobs → Given → State → Called
begin J G s =
    record {
      answer = done;
      after = record { places = map (λ p. fresh) s.places; buffers = joined (count G) (J.start G) };
    }

unfoldable pub start : Jobs → Given → State → Called
start J G s = settle (start_refusal G s.places (lengths all_six s.buffers)) s (begin J G s)

-- ---- a list of calls, each with what the one before left

unfoldable pub answers : Jobs → Given → List Call → State → List Answer
answers J G [] s = []
answers J G (x ∷ xs) s = (call J G x s).answer ∷ answers J G xs (call J G x s).after

unfoldable pub final : Jobs → Given → List Call → State → State
final J G [] s = s
final J G (x ∷ xs) s = final J G xs (call J G x s).after

-- ---- the plain run: "It keeps a count and a mark per channel, at first 0 and none", and so the kept number

abbrev pub none_yet : Given → List Place
none_yet G = replicate (count G) fresh

pub record Plain : Type 0 where
  pub answer : Answer
  pub places : List Place

-- "An accepted project marks the channel exactly when the buffers fixed for its new count meet the condition of job 5." The number that it keeps is
-- that of the buffers fixed for the count before.
abbrev pub plain_accept : Jobs → Given → Call → List Place → Plain
plain_accept J G (on j c) ps =
    let x = seen_at J G (place ps c).position c in
    record { answer = reply j x; places = set ps c (advance j x (place ps c)) }
plain_accept J G blend ps = record { answer = blend_reply (totals_at J G (place ps 0).position); places = map onward ps }

abbrev pub plain_settle : ℕ → List Place → Plain → Plain
plain_settle zero ps o = o
plain_settle (suc r) ps o = record { answer = refused (suc r); places = ps }

-- "It refuses by 12, 10, 11, 9 of the table, in that order, its counts and marks standing for the table's positions and marks"
unfoldable pub plain : Jobs → Given → Call → List Place → Plain
plain J G x ps = plain_settle (first (turn_tests G.sheet ps x)) ps (plain_accept J G x ps)

unfoldable pub plain_answers : Jobs → Given → List Call → List Place → List Answer
plain_answers J G [] ps = []
plain_answers J G (x ∷ xs) ps = (plain J G x ps).answer ∷ plain_answers J G xs (plain J G x ps).places

unfoldable pub plain_places : Jobs → Given → List Call → List Place → List Place
plain_places J G [] ps = ps
plain_places J G (x ∷ xs) ps = plain_places J G xs (plain J G x ps).places
