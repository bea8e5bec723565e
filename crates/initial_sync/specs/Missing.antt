-- What a copy still adds to what its disks have.
use Rattle.std.specs.Prelude.{◌≡◌, ◌⊎◌, ◌+◌, ◌/◌, ◌==◌, ℕ, List, [], ◌∷◌, ◌++◌, drop, length, map, None, if◌then◌else◌}
use Rattle.std.specs.Simd.{first_chunks}
use Rattle.rs_optime.specs.declared.optime.OpTime.{OpTime}
use Rattle.oplog_entry.specs.Log.{Begins}
use Rattle.oplog_entry.specs.Visible.{ZERO, last_of}
use Rattle.oplog_entry.specs.declared.entry.Entry.{Entry}
use Rattle.repl_msg.specs.declared.record.Kept.{Kept}
use Rattle.repl_msg.specs.declared.record.Record.{Record}
use Rattle.repl_msg.specs.declared.record.Record.TheVariants as records
use Rattle.node_journal.specs.Files.{HasJournal}
use Rattle.initial_sync.specs.Copies.{Copy}

-- the most entries in one record
abbrev pub BATCH : ℕ
BATCH = 2000

-- the record of some entries, with the last of them as the point
abbrev pub batch_of : List Entry → Record
batch_of list = records.Entries list (last_of list)

-- the records of some entries: full ones, then one with the rest
abbrev pub batches : List Entry → List Record
batches entries = map batch_of (first_chunks BATCH ((length entries + 1999) / BATCH) entries)

-- the record of the term, where it is missing
abbrev pub term_missing : ℕ → ℕ → List Record
term_missing term kept_term =
    if kept_term == term then [] else records.Vote (record { term = term; candidate = None }) ∷ []

-- the records that a journal still needs after those that add up to this
abbrev pub missing : Copy → Kept → List Record
missing copy kept = term_missing copy.term kept.vote.term ++ batches (drop (length kept.entries) copy.entries)

-- the records, and after them the first of those that are added
abbrev pub HasFront : List Record → List Record → List ℕ → Type 0
HasFront items added image =
    (front : List Record) × (rest : List Record) × (added ≡ front ++ rest) × HasJournal image (items ++ front)

-- What was found can be part or all of this copy: no other term, no other entries, and no checkpoint
-- of another optime.
pub record IsOfThis (copy : Copy) (found : Kept) (stable : OpTime) : Type 0 where
  pub term : (found.vote.term ≡ 0) ⊎ (found.vote.term ≡ copy.term)
  pub entries : Begins found.entries copy.entries
  pub checkpoint : (stable ≡ ZERO) ⊎ (stable ≡ last_of copy.entries)
