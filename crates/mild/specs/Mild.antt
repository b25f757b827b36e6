-- M-112 of document 02, "Ordinary weights never blow", said of a run's own numbers.
use Rattle.std.specs.Prelude.{◌≡◌, Bool, true, false, not, ◌&&◌, ◌||◌, List, ℕ, ◌<◌, T, eqb, leb, Float}
use Rattle.std.specs.Float.{binary32}
use Rattle.std.specs.Float.Ieee.{of_bits, le}
use Rattle.calls.specs.Run.{Sheet, Given, own, count, place, every}
use Rattle.calls.specs.Jobs.{Call, Jobs}
use Rattle.calls.specs.Calls.{Answer, refused, done, projected, blended, State, start, all, answers, final}

-- "all weights at most 1 and all iteration counts at most 20"
abbrev pub most_weight : Float
most_weight = of_bits binary32 0x3f800000

abbrev pub most_steps : ℕ
most_steps = 20

abbrev pub light : Float → Bool
light w = le w most_weight

-- of the run's iteration count, its smoothing weight and each channel's data weight
unfoldable pub mild : Sheet → Bool
mild S = leb S.N most_steps && light S.smoothing && every S.count (λ c. light (own S c).data_weight)

-- a call is accepted and marks nothing, or refused by 9, 11 or 12; no project says that its channel is now marked blown, and no call is refused by 10
abbrev pub calm : Answer → Bool
calm (refused n) = eqb n 9 || eqb n 11 || eqb n 12
calm done = true
calm (projected clipped blown) = not blown
calm (blended tv tgv) = true

-- The claim, of a list xs of calls made one after the other on the state s that start left: no channel is marked at its end, and since each
-- beginning of a list is a list, none ever was; and no answer tells of a mark.
pub record NeverBlows (J : Jobs) (G : Given) (xs : List Call) (s : State) : Type 0 where
  pub unmarked : (c : ℕ) → c < count G → (place (final J G xs s).places c).mark ≡ false
  pub calm_answers : T (all calm (answers J G xs s))

-- "no list of job calls from a fresh run, lent as demand 3 says, ever marks a channel": for every record, levels (lows and highs), tables and lent buffers
-- that start accepts, of either start and with any held counts, and every list of calls after it. A theorem, `never_blows` of proofs/Never.antt.
abbrev pub MildNeverBlows : Jobs → Type 0
MildNeverBlows J = (G : Given) → mild G.sheet ≡ true → (s : State) → (start J G s).answer ≡ done → (xs : List Call) → NeverBlows J G xs (start J G s).after
