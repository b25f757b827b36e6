-- Document 01, "Solvers that would fool a glance": each breaks demand 3 on the small sheet.
use mathlib.Core.Path.{◌≡◌, refl, sym, ap, ◌∙◌}
use mathlib.Core.Logic.{◌≢◌}
use mathlib.Core.Bool.{false, cond}
use mathlib.Core.List.{List, [], ◌∷◌}
use Prim.Native.Nat.{ℕ}
use native.Mathlib.Omega.{arith}
use lib.Ieee.{Float, nan, of_bits, of_fields, eq}
use lib.ListN.{get_or, replicate, take, length}
use Rattle.start.specs.Buffers.{Buffers}
use Rattle.calls.specs.Run.{Place, place, sheet_ok, header_ok, own_ok, places_ok, place_ok, weight}
use Rattle.calls.specs.Jobs.{project, Call, on, fixed, kept, channel_blown, totals_at}
use Rattle.calls.specs.Calls.{Answer, refused, done, projected, blended, blend_reply, State, start, start_refusal, none_yet, plain, plain_answers, plain_places}
use Rattle.calls.specs.Demand.{Claim}
use Rattle.calls.specs.Buffers.{Name, Plane, Gradient, Saved, get, joined}
use Rattle.demand.specs.Solver.{jobs}
use Rattle.wrong.proofs.Low8.{b0_0, b1_0, b5_0, b6_0, b7_0, b8_0, b9_0, b10_0, l0, l2, l3, l7, l9, l10, l11, l14, l15, l16, mark_5_0, mark_10_0}
use Rattle.wrong.specs.Sheet.{low8, step, in_turn, at, lent_to, After}
use Rattle.wrong.specs.Wrong.{all_said}
use Rattle.wrong.proofs.Fixed.{at_0, at_1, at_5, at_6, at_7, at_8, at_9, at_10}

-- the projects of both steps leave the channel unmarked
fine_5 : channel_blown low8 0 (fixed jobs low8 5 0) ≡ false
fine_5 = ap (channel_blown low8 0) at_5 ∙ mark_5_0

fine_10 : channel_blown low8 0 (fixed jobs low8 10 0) ≡ false
fine_10 = ap (channel_blown low8 0) at_10 ∙ mark_10_0

-- what a claim says of the lent buffers where the plain run's places are those: they are the ones fixed for p
held : (xs : List Call) (p : ℕ) → plain_places jobs low8 xs (none_yet low8) ≡ at p → (said : List Answer) (t : State)
    → Claim jobs low8 xs said t (plain_places jobs low8 xs (none_yet low8)) → t.buffers ≡ fixed jobs low8 p 0
unfolding joined low8
held xs p e said t c = c.as_fixed ∙ ap (λ (ps : List Place). joined 1 (λ c. fixed jobs low8 (place ps c).position c)) e

-- whether two buffers differ in their first value: 1 if they do
differ : List Float → List Float → ℕ
differ xs ys = cond (eq (get_or xs 0 nan) (get_or ys 0 nan)) 0 1

-- both projects
over_5 : (plain jobs low8 (on project 0) (at 4)).places ≡ at 5
unfolding plain low8 kept
over_5 = rw fine_5

over_10 : (plain jobs low8 (on project 0) (at 9)).places ≡ at 10
unfolding plain low8 kept
over_10 = rw fine_10

said_5 : (plain jobs low8 (on project 0) (at 4)).answer ≡ projected (kept jobs low8 5 0) false
unfolding plain low8 kept
said_5 = ap (projected (kept jobs low8 5 0)) fine_5

said_10 : (plain jobs low8 (on project 0) (at 9)).answer ≡ projected (kept jobs low8 10 0) false
unfolding plain low8 kept
said_10 = ap (projected (kept jobs low8 10 0)) fine_10

-- the answers of the second step, and of both
second_done : plain_answers jobs low8 step (at 5) ≡ done ∷ done ∷ blend_reply (totals_at jobs low8 7) ∷ done ∷ projected (kept jobs low8 10 0) false ∷ []
unfolding plain_answers plain low8 kept
second_done = λ i. done ∷ done ∷ blend_reply (totals_at jobs low8 7) ∷ done ∷ said_10 i ∷ []

pub all_done : plain_answers jobs low8 in_turn (none_yet low8) ≡ all_said
unfolding plain_answers plain low8 kept
all_done =
    (λ i. done ∷ done ∷ blend_reply (totals_at jobs low8 2) ∷ done ∷ said_5 i ∷ plain_answers jobs low8 step (over_5 i))
    ∙ ap (λ (xs : List Answer). done ∷ done ∷ blend_reply (totals_at jobs low8 2) ∷ done ∷ projected (kept jobs low8 5 0) false ∷ xs) second_done

place_1 : plain_places jobs low8 (take 1 in_turn) (none_yet low8) ≡ at 1
unfolding plain_places plain low8 kept
place_1 = refl

place_6 : plain_places jobs low8 (take 6 in_turn) (none_yet low8) ≡ at 6
unfolding plain_places plain low8 kept
place_6 = ap (plain_places jobs low8 (take 1 step)) over_5

place_7 : plain_places jobs low8 (take 7 in_turn) (none_yet low8) ≡ at 7
unfolding plain_places plain low8 kept
place_7 = ap (plain_places jobs low8 (take 2 step)) over_5

place_8 : plain_places jobs low8 (take 8 in_turn) (none_yet low8) ≡ at 8
unfolding plain_places plain low8 kept
place_8 = ap (plain_places jobs low8 (take 3 step)) over_5

place_9 : plain_places jobs low8 (take 9 in_turn) (none_yet low8) ≡ at 9
unfolding plain_places plain low8 kept
place_9 = ap (plain_places jobs low8 (take 4 step)) over_5

place_10 : plain_places jobs low8 (take 10 in_turn) (none_yet low8) ≡ at 10
unfolding plain_places plain low8 kept
place_10 = ap (plain_places jobs low8 step) over_5 ∙ over_10

-- "blown" or "turn" given early, every job refused: each of the ten answers is done, a blend's totals, or a project's number with no mark
pub none_refused : (said : List Answer) (t : State) → After 10 said t → said ≡ all_said
none_refused said t c = c.same_answers ∙ all_done

-- so not every one is refused, and none is early
kind : Answer → ℕ
kind (refused n) = n
kind done = 0
kind (projected clipped blown) = 0
kind (blended tv tgv) = 0

first_said : List Answer → ℕ
first_said [] = 0
first_said (a ∷ xs) = kind a

pub every_refused : (t : State) → After 10 (replicate 10 (refused 9)) t → ⊥
unfolding first_said kind
every_refused t c = let z : ◌≡◌ {A = ℕ} 9 0 = ap first_said (none_refused (replicate 10 (refused 9)) t c) in absurd (omega arith)

-- and the record is not left where it was
where_now : List Place → ℕ
where_now ps = (place ps 0).position

pub stands_still : (said : List Answer) (t : State) → After 1 said t → t.places ≢ at 0
unfolding where_now
stands_still said t c e = let z : ◌≡◌ {A = ℕ} 1 0 = sym (ap where_now (c.same_places ∙ place_1)) ∙ ap where_now e in absurd (omega arith)

-- the small sheet is one that start accepts, at any values of the six
pub accepted : (xs : List Float) → length xs ≡ 64 → (start jobs low8 (lent_to xs)).answer ≡ done
unfolding start start_refusal low8 sheet_ok header_ok own_ok places_ok place_ok kept weight of_bits of_fields
accepted xs e = rw e refl

-- Where the buffer b that is fixed for n differs from that fixed for o, no solver that meets demand 3 has the latter after n calls in turn.
excluded : (b : Name) (n o : ℕ) (x y : Buffers) → plain_places jobs low8 (take n in_turn) (none_yet low8) ≡ at n → fixed jobs low8 n 0 ≡ x → fixed jobs low8 o 0 ≡ y
    → differ (get b x) (get b y) ≡ 1 → differ (get b y) (get b y) ≡ 0
    → (said : List Answer) (t : State) → After n said t → get b t.buffers ≢ get b (fixed jobs low8 o 0)
excluded b n o x y p ex ey apart equal said t c e =
    let same : get b x ≡ get b y = ap (get b) (sym ex ∙ sym (held (take n in_turn) n p said t c)) ∙ e ∙ ap (get b) ey in
    let z : ◌≡◌ {A = ℕ} 1 0 = sym apart ∙ ap (λ (xs : List Float). differ xs (get b y)) same ∙ equal in
    absurd (omega arith)

-- "Starting plane handed back unmoved", after the two steps
pub unmoved : (said : List Answer) (t : State) → After 10 said t → get Plane t.buffers ≢ get Plane (fixed jobs low8 0 0)
unfolding differ b10_0 b0_0 l15 l0 eq of_bits of_fields
unmoved = excluded Plane 10 0 b10_0 b0_0 place_10 at_10 at_0 refl refl

-- "every coefficient set to d × q", as at the start
pub dequantised : (said : List Answer) (t : State) → After 10 said t → get Saved t.buffers ≢ get Saved (fixed jobs low8 0 0)
unfolding differ b10_0 b0_0 l16 l2 eq of_bits of_fields
dequantised = excluded Saved 10 0 b10_0 b0_0 place_10 at_10 at_0 refl refl

-- "All steps done in the first job"
pub at_once : (said : List Answer) (t : State) → After 1 said t → get Plane t.buffers ≢ get Plane (fixed jobs low8 10 0)
unfolding differ b1_0 b10_0 l0 l15 eq of_bits of_fields
at_once = excluded Plane 1 10 b1_0 b10_0 place_1 at_1 at_10 refl refl

-- "a position counted up without its job", for each of the five
pub without_push : (said : List Answer) (t : State) → After 6 said t → get Plane t.buffers ≢ get Plane (fixed jobs low8 5 0)
unfolding differ b6_0 b5_0 l9 l7 eq of_bits of_fields
without_push = excluded Plane 6 5 b6_0 b5_0 place_6 at_6 at_5 refl refl

pub without_data : (said : List Answer) (t : State) → After 7 said t → get Gradient t.buffers ≢ get Gradient (fixed jobs low8 6 0)
unfolding differ b7_0 b6_0 l10 l3 eq of_bits of_fields
without_data = excluded Gradient 7 6 b7_0 b6_0 place_7 at_7 at_6 refl refl

pub without_blend : (said : List Answer) (t : State) → After 8 said t → get Gradient t.buffers ≢ get Gradient (fixed jobs low8 7 0)
unfolding differ b8_0 b7_0 l11 l10 eq of_bits of_fields
without_blend = excluded Gradient 8 7 b8_0 b7_0 place_8 at_8 at_7 refl refl

pub without_move : (said : List Answer) (t : State) → After 9 said t → get Plane t.buffers ≢ get Plane (fixed jobs low8 8 0)
unfolding differ b9_0 b8_0 l14 l9 eq of_bits of_fields
without_move = excluded Plane 9 8 b9_0 b8_0 place_9 at_9 at_8 refl refl

pub without_project : (said : List Answer) (t : State) → After 10 said t → get Plane t.buffers ≢ get Plane (fixed jobs low8 9 0)
unfolding differ b10_0 b9_0 l15 l14 eq of_bits of_fields
without_project = excluded Plane 10 9 b10_0 b9_0 place_10 at_10 at_9 refl refl
