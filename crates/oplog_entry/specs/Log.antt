-- The entries of a log in their order.
use Rattle.std.specs.Prelude.{◌≡◌, ◌<◌, ◌≤◌, List, [], ◌∷◌, ◌++◌, nat_lt, if◌then◌else◌}
use Rattle.std.specs.List.{All, AllPairs}
use Rattle.oplog_entry.specs.declared.entry.Entry.{Entry}
use Rattle.oplog_entry.specs.Lawful.{IsLawful}

-- an earlier timestamp, and no later term
pub record StandsBefore (one two : Entry) : Type 0 where
  pub earlier : one.optime.ts < two.optime.ts
  pub term : one.optime.term ≤ two.optime.term

-- timestamps rise, terms never fall, and each entry is lawful
pub record IsOplog (log : List Entry) : Type 0 where
  pub order : AllPairs StandsBefore log
  pub lawful : All IsLawful log

-- a log with one more entry, inserted before the first one whose timestamp is no earlier
abbrev pub with_entry : List Entry → Entry → List Entry
with_entry [] entry = entry ∷ []
with_entry (other ∷ log) entry =
    if nat_lt other.optime.ts entry.optime.ts then other ∷ with_entry log entry else entry ∷ other ∷ log

-- a log begins with another one
abbrev pub Begins : List Entry → List Entry → Type 0
Begins front log = (rest : List Entry) × (log ≡ front ++ rest)
