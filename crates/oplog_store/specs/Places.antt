-- A log in two parts: what is settled, and the places from the first hole on.
use Rattle.std.specs.Prelude.{◌≡◌, ◌+◌, ◌<◌, ◌≤◌, ℕ, List, [], ◌∷◌, ◌++◌, Some, length, slice_get}
use Rattle.std.specs.List.{All, AllPairs}
use Rattle.rs_optime.specs.declared.optime.OpTime.{OpTime}
use Rattle.oplog_entry.specs.declared.entry.Entry.{Entry}
use Rattle.oplog_entry.specs.Log.{IsOplog, with_entry}
use Rattle.oplog_entry.specs.Visible.{last_of}
use Rattle.oplog_store.specs.Log.{Log}
use Rattle.oplog_store.specs.declared.places.Place.{Place}
use Rattle.oplog_store.specs.declared.places.Place.TheVariants.{Open, Written, Closed}

-- the entries, how many of them come before the first hole, and for how many more there is room
pub record LogWithHoles : Type 0 where
  pub entries : List Entry
  pub settled : List Entry
  pub spare : ℕ

abbrev pub optime_of : Place → OpTime
optime_of (Open at) = at
optime_of (Written entry) = entry.optime
optime_of (Closed at) = at

-- the entries written at some places
abbrev pub written : List Place → List Entry
written [] = []
written (Open at ∷ places) = written places
written (Written entry ∷ places) = entry ∷ written places
written (Closed at ∷ places) = written places

-- an earlier timestamp, and no later term
pub record Precedes (one two : OpTime) : Type 0 where
  pub earlier : one.ts < two.ts
  pub term : one.term ≤ two.term

-- a place comes before another one
abbrev pub StandsFirst : Place → Place → Type 0
StandsFirst one two = Precedes (optime_of one) (optime_of two)

-- each entry comes before the place
abbrev pub FollowsAll : List Entry → Place → Type 0
FollowsAll settled place = All (λ (entry : Entry). Precedes entry.optime (optime_of place)) settled

-- the places rise after what is settled, and all entries make one log
pub record IsHeld (settled : List Entry) (places : List Place) : Type 0 where
  pub oplog : IsOplog (settled ++ written places)
  pub rise : AllPairs StandsFirst places
  pub after : All (FollowsAll settled) places

-- everything in the log comes before an optime
pub record AllPrecede (settled : List Entry) (places : List Place) (at : OpTime) : Type 0 where
  pub entries : All (λ (entry : Entry). Precedes entry.optime at) settled
  pub places_too : All (λ place. Precedes (optime_of place) at) places

-- an entry of the log has this optime
abbrev pub IsEntryAt : List Entry → OpTime → Entry → Type 0
IsEntryAt log at entry = (place : ℕ) × (slice_get log place ≡ Some entry) × (entry.optime ≡ at)

-- an entry was put among the places, where it belongs in the log
pub record Placed (settled : List Entry) (places : List Place) (entry : Entry)
    (places_new : List Place) : Type 0 where
  pub held : IsHeld settled places_new
  pub entries : settled ++ written places_new ≡ with_entry (settled ++ written places) entry
  pub room : length places_new ≤ length places + 1

-- entries moved from the places to what is settled: none is lost, and there is room as before
pub record Moved (settled : List Entry) (places : List Place) (spare : ℕ) (settled_new : List Entry)
    (places_new : List Place) (spare_new : ℕ) : Type 0 where
  pub held : IsHeld settled_new places_new
  pub entries : settled_new ++ written places_new ≡ settled ++ written places
  pub room : spare + length places_new ≤ spare_new + length places

-- a log in two parts, with its last optime and the room beyond what the places take
pub record IsLogWithHoles (log : Log) (places : List Place) (at : OpTime) (spare : ℕ) : Type 0 where
  pub held : IsHeld log.entries places
  pub last : at ≡ last_of (log.entries ++ written places)
  pub room : spare + length places ≤ log.spare
