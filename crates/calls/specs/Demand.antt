-- Demand 3 of document 01, "one claim about the whole list, not one per call".
use Rattle.std.specs.Prelude.{ℕ, ◌<◌, ◌≡◌, false, List, get_or}
use Rattle.std.specs.Float.{nan}
use Rattle.calls.specs.Run.{Place, Given, place, count, area, coefs, low, high, quantiser}
use Rattle.start.specs.Buffers.{Buffers}
use Rattle.calls.specs.Buffers.{channel, joined}
use Rattle.calls.specs.Jobs.{Call, Jobs, fixed, kept}
use Rattle.interval.specs.Interval.{InInterval}
use Rattle.calls.specs.Calls.{Answer, done, State, start, answers, final, none_yet, plain_answers, plain_places}

-- channel c's saved coefficient k is in its interval
abbrev pub SavedIn : Given → ℕ → ℕ → Buffers → Type 0
SavedIn G c k b = InInterval (low G c k) (high G c k) (quantiser G c k) (get_or b.saved k nan)

-- The claim, of a list xs of calls made one after the other on a fresh run: `said` are the answers given, t is the state left,
-- and ps are the plain run's counts, marks and kept numbers after the same calls.
pub record Claim (J : Jobs) (G : Given) (xs : List Call) (said : List Answer) (t : State) (ps : List Place) : Type 0 where
  -- each call answers as the plain run does
  pub same_answers : said ≡ plain_answers J G xs (none_yet G)
  -- positions, marks and kept numbers are the plain run's counts, marks and kept numbers
  pub same_places : t.places ≡ ps
  -- each kept number is the one that the recursion gives for the channel's count (M-104)
  pub as_kept : (c : ℕ) → c < count G → (place ps c).clipped ≡ kept J G (place ps c).position c
  -- the lent buffers hold each channel's six, as they are fixed for its count, one channel after the other
  pub as_fixed : t.buffers ≡ joined (count G) (λ c. fixed J G (place ps c).position c)
  -- each saved coefficient of a channel that is not marked is in its interval
  pub in_interval : (c : ℕ) → c < count G → (place ps c).mark ≡ false → (k : ℕ) → k < coefs G.sheet c → SavedIn G c k (channel (area G) c t.buffers)

-- of the model's own answers and state, from the state s
abbrev pub Demand3 : Jobs → Given → List Call → State → Type 0
Demand3 J G xs s = Claim J G xs (answers J G xs s) (final J G xs s) (plain_places J G xs (none_yet G))

-- Demand 3 of the jobs J: "Demand 3 is one claim about the whole list, not one per call." For every record, levels, tables and lent buffers
-- that start accepts, and every list of calls after it.
abbrev pub MeetsDemand3 : Jobs → Type 0
MeetsDemand3 J = (G : Given) (s : State) → (start J G s).answer ≡ done → (xs : List Call) → Demand3 J G xs (start J G s).after
