-- The code's struct as the model's record: the first `count` of its three channels, a sheet's half and a place of each.
use Rattle.std.specs.Prelude.{ℕ, ◌≤◌, ◌≡◌, Bool, false, ◌&&◌, List, [], ◌∷◌, map, get_or, take, T, eqb, Result, Ok, Err}
use Rattle.std.specs.Float.{nan}
use Rattle.refusal.specs.declared.Refusal.{Refusal}
use Rattle.refusal.specs.Refusal.{number_of}
use Rattle.start.specs.Coef.{Levels}
use Rattle.calls.specs.Run.{Numbers, Sheet, Place, Given, own, own_ok, place, place_ok, blends_in, legal}
use Rattle.calls.specs.Jobs as Jobs
use Rattle.calls.specs.Calls as Calls
use Rattle.record.specs.declared.Run.{Run}
use Rattle.record.specs.declared.Channel.{Channel}
use Rattle.record.specs.declared.Seen.{Seen}
use Rattle.record.specs.declared.Job.{Job}
use Rattle.record.specs.declared.Job.TheVariants as job
use Rattle.record.specs.declared.Accepted.{Accepted}
use Rattle.record.specs.declared.Accepted.TheVariants.{Done, Projected, Blended}

abbrev pub own_of : Channel → Numbers
own_of c = record { width = c.width; height = c.height; across = c.across; down = c.down; data_weight = c.weight; held = c.held }

abbrev pub place_of : Channel → Place
place_of c = record { position = c.position; mark = c.mark; clipped = c.clipped }

-- the sheet's half, with these own numbers of the channels
abbrev pub sheet_with : Run → List Numbers → Sheet
sheet_with r os = record { W = r.w; H = r.h; N = r.n; smoothing = r.smoothing; reorder = r.reorder; count = r.count; owns = os }

abbrev pub sheet_of : Run → Sheet
sheet_of r = sheet_with r (map own_of (take r.count r.channels))

abbrev pub places_of : Run → List Place
places_of r = map place_of (take r.count r.channels)

-- the number that channel c keeps; 0 for a channel that the record has not
abbrev pub clipped_of : Run → ℕ → ℕ
clipped_of r c = (place (places_of r) c).clipped

-- what a call is given: the record's sheet, and the levels and tables that it is lent
abbrev pub given_of : Run → Levels → List ℕ → Given
given_of r levels tables = record { sheet = sheet_of r; levels = levels; tables = tables }

-- a legal record: anything else is refusal 13
abbrev pub Legal : Run → Type 0
Legal r = T (legal (sheet_of r) (places_of r))

-- channel c of a legal record: its own numbers, its place, and as many blends as channel 0 has had
abbrev pub channel_ok : Sheet → List Place → ℕ → Bool
channel_ok S ps c = own_ok S (own S c) && place_ok S (own S c) (place ps c) && eqb (blends_in (place ps c).position) (blends_in (place ps 0).position)

-- ---- the struct with other channels, and with other places: channel by channel, as long as there are places; the rest of it stays

abbrev pub with_channels : Run → List Channel → Run
with_channels r cs = record { w = r.w; h = r.h; n = r.n; smoothing = r.smoothing; reorder = r.reorder; count = r.count; channels = cs }

abbrev pub with_place : Channel → Place → Channel
with_place c p =
    record {
      width = c.width;
      height = c.height;
      across = c.across;
      down = c.down;
      weight = c.weight;
      held = c.held;
      position = p.position;
      mark = p.mark;
      clipped = p.clipped;
    }

abbrev pub with_places : List Channel → List Place → List Channel
with_places [] ps = []
with_places (c ∷ cs) [] = c ∷ cs
with_places (c ∷ cs) (p ∷ ps) = with_place c p ∷ with_places cs ps

abbrev pub placed : Run → List Place → Run
placed r ps = with_channels r (with_places r.channels ps)

-- what is read past the three channels
abbrev pub no_channel : Channel
no_channel = record { width = 0; height = 0; across = 0; down = 0; weight = nan; held = 0; position = 0; mark = false; clipped = 0 }

-- x is channel c of the record: its own numbers and its place are the model's
pub record ChannelIs (r : Run) (c : ℕ) (x : Channel) : Type 0 where
  pub is : x ≡ get_or r.channels c no_channel
  pub its_own : own_of x ≡ own (sheet_of r) c
  pub its_place : place_of x ≡ place (places_of r) c
  pub position_small : x.position ≤ 5000

-- ---- jobs and answers

-- "Its remainder modulo 5 gives the next job, 0 push to 4 project"
abbrev pub turn_of : Job → ℕ
turn_of job.Push = 0
turn_of job.Data = 1
turn_of job.Blend = 2
turn_of job.Move = 3
turn_of job.Project = 4

-- what a job tells
abbrev pub seen_of : Seen → Jobs.Seen
seen_of x = record { blown = x.blown; clipped = x.clipped }

-- the values for each case: a refusal's number in the table, accepted, what project tells, blend's totals
abbrev pub answer_of : Result Accepted Refusal → Calls.Answer
answer_of (Err r) = Calls.refused (number_of r)
answer_of (Ok Done) = Calls.done
answer_of (Ok (Projected clipped blown)) = Calls.projected clipped blown
answer_of (Ok (Blended tv tgv)) = Calls.blended tv tgv
