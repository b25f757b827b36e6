-- The order of refusals, equal blends and marks, by computation on small records. Beside each stands what it excludes.
use mathlib.Core.Path.{◌≡◌, refl}
use mathlib.Core.Bool.{true, false, cond}
use mathlib.Core.List.{List, [], ◌∷◌, ◌++◌, map}
use Prim.Native.Nat.{ℕ}
use lib.IntN.{ℤ, pos, negsuc}
use lib.ListN.{replicate}
use lib.Ieee.{Float, nan, fin, neg}
use Rattle.start.specs.declared.coef.Reorder.TheVariants.{Each}
use Rattle.start.specs.Coef.{pairs}
use Rattle.projection.specs.Blown.{is_blown}
use Rattle.calls.specs.Run.{Sheet, Place, Given, held, weight, own_ok, header_ok, sheet_ok, place_ok, places_ok}
use Rattle.calls.specs.Buffers.{get, make, channel, joined}
use Rattle.calls.specs.Jobs.{push, fidelity, move, project, Call, on, blend, Jobs, fixed, kept}
use Rattle.calls.specs.Calls.{refused, done, projected, blended, first, turn_tests, start_refusal, none_yet, plain, plain_answers, plain_places}

-- n channels of 8 by 8, held after k steps, and N steps
abbrev sheet_held : ℕ → ℕ → ℕ → Sheet
sheet_held k n N =
    let w : Float = fin false 1 (pos 0) in
    record {
      W = 8;
      H = 8;
      N = N;
      smoothing = w;
      reorder = Each;
      count = n;
      owns = replicate n (record { width = 8; height = 8; across = 1; down = 1; data_weight = w; held = k });
    }

-- held after all
abbrev sheet : ℕ → ℕ → Sheet
sheet n N = sheet_held N n N

abbrev at : ℕ → Place
at p = record { position = p; mark = false; clipped = 0 }

abbrev marked : ℕ → Place
marked p = record { position = p; mark = true; clipped = 0 }

abbrev kept_at : ℕ → ℕ → Place
kept_at p k = record { position = p; mark = false; clipped = k }

-- ---- 12, 10, 11, 9

abbrev turn_refusal : ℕ → ℕ → List Place → Call → ℕ
turn_refusal n N ps x = first (turn_tests (sheet n N) ps x)

-- not 11, though no step is left
pub no-channel : turn_refusal 1 0 (at 0 ∷ []) (on push 1) ≡ 12
no-channel = refl

-- not 11: a marked channel at its end is blown
pub blown_at_the_end : turn_refusal 1 1 (marked 5 ∷ []) (on push 0) ≡ 10
blown_at_the_end = refl

-- not 9, though it is no job's turn but push's
pub ended : turn_refusal 1 1 (at 5 ∷ []) (on move 0) ≡ 11
ended = refl

pub not_its_turn : turn_refusal 1 1 (at 0 ∷ []) (on move 0) ≡ 9
not_its_turn = refl

-- blend: not accepted while one channel is behind
pub one_behind : turn_refusal 3 1 (at 2 ∷ at 2 ∷ at 1 ∷ []) blend ≡ 9
one_behind = refl

-- not 9, though the marked channel is not at its blend; one that is marked is enough
pub one_blown : turn_refusal 3 2 (at 7 ∷ marked 5 ∷ at 7 ∷ []) blend ≡ 10
one_blown = refl

-- not 9; one that has ended is enough
pub one_ended : turn_refusal 3 1 (at 5 ∷ at 3 ∷ at 3 ∷ []) blend ≡ 11
one_ended = refl

-- ---- 13, 8, 4, 5, 14: start's, of one channel whose levels and quantisers are all alike

abbrev start-refusal : Place → ℕ → ℕ → ℕ → ℕ
start-refusal p level quantiser length =
    start_refusal (record { sheet = sheet 1 1; levels = pairs (replicate 64 (pos level)) (replicate 64 (pos level)); tables = replicate 64 quantiser }) (p ∷ []) (replicate 6 length)

-- a mark at a position that is no multiple of 5, and buffers that are too short
pub illegal : start-refusal (marked 4) 2048 0 63 ≡ 13
unfolding start_refusal sheet_ok header_ok own_ok places_ok place_ok weight
illegal = refl

-- M-104: a kept number before the first project, one above w × h; and w × h itself, which a start takes
pub kept_early : start-refusal (kept_at 4 1) 2047 255 64 ≡ 13
unfolding start_refusal sheet_ok header_ok own_ok places_ok place_ok weight
kept_early = refl

pub kept_too_many : start-refusal (kept_at 5 65) 2047 255 64 ≡ 13
unfolding start_refusal sheet_ok header_ok own_ok places_ok place_ok weight
kept_too_many = refl

pub kept_most : start-refusal (kept_at 5 64) 2047 255 64 ≡ 0
unfolding start_refusal sheet_ok header_ok own_ok places_ok place_ok weight
kept_most = refl

pub short : start-refusal (at 4) 2048 0 63 ≡ 8
unfolding start_refusal sheet_ok header_ok own_ok places_ok place_ok weight
short = refl

pub quantiser : start-refusal (at 4) 2048 0 64 ≡ 4
unfolding start_refusal sheet_ok header_ok own_ok places_ok place_ok weight
quantiser = refl

pub level : start-refusal (at 4) 2048 1 64 ≡ 5
unfolding start_refusal sheet_ok header_ok own_ok places_ok place_ok weight
level = refl

pub accepted : start-refusal (at 4) 2047 255 64 ≡ 0
unfolding start_refusal sheet_ok header_ok own_ok places_ok place_ok weight
accepted = refl

-- M-105, of one channel whose first levels are these pairs: "checked after 5 on the same pair and before the next pair"
abbrev range_refusal : List ℤ → List ℤ → ℕ
range_refusal lows highs =
    start_refusal
    (record { sheet = sheet 1 1; levels = pairs (lows ++ replicate 62 (pos 0)) (highs ++ replicate 62 (pos 0)); tables = replicate 64 1 }) (at 4 ∷ [])
    (replicate 6 64)

-- (2, 1) before (2048, 2048); (2048, 0) before (2, 1); (5, −2048); and (−3, 3), (3, 3)
pub ranges : (range_refusal (pos 2 ∷ pos 2048 ∷ []) (pos 1 ∷ pos 2048 ∷ []) ≡ 14)
    × (range_refusal (pos 2048 ∷ pos 2 ∷ []) (pos 0 ∷ pos 1 ∷ []) ≡ 5)
    × (range_refusal (pos 5 ∷ pos 0 ∷ []) (negsuc 2047 ∷ pos 0 ∷ []) ≡ 5)
    × (range_refusal (negsuc 2 ∷ pos 3 ∷ []) (pos 3 ∷ pos 3 ∷ []) ≡ 0)
unfolding start_refusal sheet_ok header_ok own_ok places_ok place_ok weight
ranges = (refl, refl, refl, refl)

-- 8 looks at the lows and at the highs
pub one_short : (range_refusal (pos 0 ∷ []) (pos 0 ∷ pos 0 ∷ []) ≡ 8) × (range_refusal (pos 0 ∷ pos 0 ∷ []) (pos 0 ∷ []) ≡ 8)
unfolding start_refusal sheet_ok header_ok own_ok places_ok place_ok weight
one_short = (refl, refl)

-- ---- the plain run of a channel whose plane holds one value, and stays as it was; every project clips 7 coefficients

abbrev still : Float → Jobs
still v =
    record {
      start = λ G c. make (λ b. v ∷ []);
      work = λ j G c step b. b;
      blending = λ G step B. B;
      totals = λ G step B. (v, v);
      clip = λ G c b. 7;
    }

abbrev two_steps : Given
two_steps = record { sheet = sheet 1 2; levels = pairs [] []; tables = [] }

abbrev step : List Call
step = on push 0 ∷ on fidelity 0 ∷ blend ∷ on move 0 ∷ on project 0 ∷ on push 0 ∷ []

-- a blown channel is marked by project, not before, which says so; the next call is refused
pub blown_by_project : plain_answers (still nan) two_steps step (none_yet two_steps) ≡ done ∷ done ∷ blended nan nan ∷ done ∷ projected 7 true ∷ refused 10 ∷ []
unfolding plain_answers plain fixed channel joined is_blown
blown_by_project = refl

pub marked_by_project : plain_places (still nan) two_steps step (none_yet two_steps) ≡ record { position = 5; mark = true; clipped = 7 } ∷ []
unfolding plain_places plain fixed channel joined is_blown
marked_by_project = refl

-- and one that is not goes on
abbrev one : Float
one = fin false 1 (pos 0)

pub not_blown : plain_answers (still one) two_steps step (none_yet two_steps) ≡ done ∷ done ∷ blended one one ∷ done ∷ projected 7 false ∷ done ∷ []
unfolding plain_answers plain fixed channel joined is_blown
not_blown = refl

-- the other jobs leave the number of the last project, and the next gives it anew: 7 after two steps, not 14
pub kept_on : plain_places (still one) two_steps step (none_yet two_steps) ≡ kept_at 6 7 ∷ []
unfolding plain_places plain fixed channel joined is_blown
kept_on = refl

pub kept_last : plain_places (still one) two_steps (step ++ on fidelity 0 ∷ blend ∷ on move 0 ∷ on project 0 ∷ []) (none_yet two_steps) ≡ kept_at 10 7 ∷ []
unfolding plain_places plain fixed channel joined is_blown
kept_last = refl

-- ---- M-108

-- a held count above the iterations is 13; the iterations themselves and 0 are legal
pub held_too_late : sheet_ok (sheet_held 2 1 1) ≡ false
unfolding sheet_ok header_ok own_ok weight
held_too_late = refl

pub held_last : sheet_ok (sheet_held 1 1 1) ≡ true
unfolding sheet_ok header_ok own_ok weight
held_last = refl

pub held_first : sheet_ok (sheet_held 0 3 1) ≡ true
unfolding sheet_ok header_ok own_ok weight
held_first = refl

-- every job turns the sign of what it finds, and clips 7 coefficients
abbrev turning : Jobs
turning =
    record {
      start = λ G c. make (λ b. one ∷ []);
      work = λ j G c step b. make (λ x. map neg (get x b));
      blending = λ G step B. cond (held G.sheet 0 step) B (make (λ x. map neg (get x B)));
      totals = λ G step B. (one, one);
      clip = λ G c b. 7;
    }

abbrev of_two : ℕ → Given
of_two k = record { sheet = sheet_held k 1 2; levels = pairs [] []; tables = [] }

-- held after its first step: five signs are turned, not ten and not six; held from the start: none
pub held_one : fixed turning (of_two 1) 10 0 ≡ make (λ b. neg one ∷ [])
unfolding fixed channel joined neg
held_one = refl

pub held_none : fixed turning (of_two 0) 10 0 ≡ make (λ b. one ∷ [])
unfolding fixed channel joined neg
held_none = refl

-- it takes its turns all the same, and keeps the number of its last project; with no project, 0
abbrev all_ten : List Call
all_ten = step ++ on fidelity 0 ∷ blend ∷ on move 0 ∷ on project 0 ∷ []

pub held_kept : plain_places turning (of_two 1) all_ten (none_yet (of_two 1)) ≡ kept_at 10 7 ∷ []
unfolding plain_places plain fixed kept channel joined is_blown neg
held_kept = refl

pub held_never_kept : plain_places turning (of_two 0) all_ten (none_yet (of_two 0)) ≡ kept_at 10 0 ∷ []
unfolding plain_places plain fixed kept channel joined is_blown neg
held_never_kept = refl
