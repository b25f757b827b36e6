-- What holds between the calls of a run that start has accepted. Functions inside the crates that make many calls ask and tell it.
use Rattle.std.specs.Prelude.{ℕ, ◌*◌, ◌%◌, ◌≤◌, ◌<◌, ◌≡◌, true, false, List, length, T}
use Rattle.calls.specs.Run.{Numbers, Sheet, Place, Given, own, place, count, area, coefs, levels_before, blends_in, sheet_ok}
use Rattle.start.specs.Buffers.{Buffers}
use Rattle.start.specs.Coef.{Long}
use Rattle.calls.specs.Buffers.{channel, Sized}
use Rattle.calls.specs.Jobs.{Jobs, fixed, kept, channel_blown}
use Rattle.calls.specs.Calls.{State, all, levels_fault, table_ok}
use Rattle.calls.specs.Demand.{SavedIn}

-- what start has seen of its input: a legal sheet, lengths, quantisers and levels
pub record GivenOk (G : Given) : Type 0 where
  pub sheet-ok : T (sheet_ok G.sheet)
  pub levels-long : Long G.levels (levels_before G.sheet (count G))
  pub tables_long : length G.tables ≡ count G * 64
  pub tables_ok : T (all table_ok G.tables)
  pub levels_ok : levels_fault G.levels ≡ 0

-- legal places, as facts
pub record PlaceIs (S : Sheet) (o : Numbers) (p : Place) : Type 0 where
  pub within : p.position ≤ 5 * S.N
  pub marked : p.mark ≡ true → (0 < p.position) × (p.position % 5 ≡ 0)
  pub clipped_most : p.clipped ≤ o.width * o.height
  pub clipped_none : p.position < 5 → p.clipped ≡ 0

pub record PlacesAre (S : Sheet) (ps : List Place) : Type 0 where
  pub long : length ps ≡ S.count
  pub each : (c : ℕ) → c < S.count → PlaceIs S (own S c) (place ps c)
  pub equal : (c : ℕ) → c < S.count → blends_in (place ps c).position ≡ blends_in (place ps 0).position

-- every saved coefficient of channel c is in its interval
abbrev pub AllIn : Given → ℕ → Buffers → Type 0
AllIn G c b = (k : ℕ) → k < coefs G.sheet c → SavedIn G c k b

pub record Inv (J : Jobs) (G : Given) (s : State) : Type 0 where
  pub legal_places : PlacesAre G.sheet s.places
  pub sized : Sized (count G * area G) s.buffers
  pub as_fixed : (c : ℕ) → c < count G → channel (area G) c s.buffers ≡ fixed J G (place s.places c).position c
  pub as_kept : (c : ℕ) → c < count G → (place s.places c).clipped ≡ kept J G (place s.places c).position c
  pub inside : (c : ℕ) → c < count G → (place s.places c).mark ≡ false → AllIn G c (channel (area G) c s.buffers)
  pub marked : (c : ℕ) → c < count G → (place s.places c).mark ≡ true → channel_blown G c (fixed J G (place s.places c).position c) ≡ true
