-- What holds of a node's data and of the documents stored with it, after each call.
use Rattle.std.specs.Prelude.{◌≡◌, ◌≢◌, ◌⊎◌, ◌<◌, ◌≤◌, ◌^◌, ℕ, Bool, true, false, List, Option, None, Some, All, IsTrue, IsSome, MatchOption}
use Rattle.std.specs.FinMap as maps
use Rattle.std.specs.FinSet as sets
use Rattle.bson_doc.specs.Place.{Place}
use Rattle.rs_optime.specs.Order.{is_before}
use Rattle.rs_optime.specs.declared.optime.OpTime.{OpTime}
use Rattle.entry_bytes.specs.Sizes.{IsWithinEntry}
use Rattle.oplog_entry.specs.Docs.{docs}
use Rattle.oplog_entry.specs.Lawful.{IsLawfulOp}
use Rattle.oplog_entry.specs.Step.{place_of, document_after}
use Rattle.oplog_entry.specs.declared.entry.Entry.{Entry}
use Rattle.oplog_entry.specs.declared.entry.Op.{Op}
use Rattle.oplog_store.specs.Log.{StandsBefore}
use Rattle.version_store.specs.Store.{Store, versions_at, holder_at}
use Rattle.set_model.specs.declared.command.ReadLevel.TheVariants.{Local}
use Rattle.set_model.specs.declared.writer.Writer.{Writer}
use Rattle.set_model.specs.Holds.{holds}
use Rattle.set_model.specs.Node.{Node}
use Rattle.set_model.specs.Reads.{shown_log}
use Rattle.node_data.specs.Sound.{IsSound}
use Rattle.node_data.specs.Versions.{HasVersions, IsSmall}
use Rattle.node_data.specs.Writers.{Writers, HasOpen}

-- the entry comes after another one, or before it
abbrev pub FitsBeside : Entry → Entry → Type 0
FitsBeside entry other = StandsBefore other entry ⊎ StandsBefore entry other

-- an entry fits into a log, and no later entry touches its document
pub record IsNewest (log : List Entry) (entry : Entry) : Type 0 where
  pub fits : All (FitsBeside entry) log
  pub last : All (λ other. entry.optime.ts < other.optime.ts → place_of other.op ≢ place_of entry.op) log

-- an op that waits for its entry: the entry will come after the checkpoint, and be the newest one
-- for its document
pub record IsPending (node : Node) (at : OpTime) (op : Op) : Type 0 where
  pub open_slot : IsTrue (sets.contains node.slots at)
  pub positive : 0 < at.ts
  pub seen : at.ts ≤ node.seen
  pub term : at.term < 2 ^ 63
  pub unstable : is_before node.stable at ≡ true
  pub lawful : IsLawfulOp op
  pub within : IsWithinEntry (record { optime = at; op = op; session = None })
  pub place : IsSome (place_of op)
  pub small : (place : Place) → place_of op ≡ Some place
      → IsSmall (document_after op (maps.get (docs node.log) place))
  pub newest : IsNewest node.log (record { optime = at; op = op; session = None })

-- no two writers share a slot or a document, and a later slot is of no earlier term
pub record AreApart (node : Node) : Type 0 where
  pub pending : (writer : ℕ) (at : OpTime) (op : Op) → HasOpen node.writers writer at op
      → IsPending node at op
  pub order : (one two : ℕ) (at by : OpTime) (op other : Op) → HasOpen node.writers one at op
      → HasOpen node.writers two by other → at.ts < by.ts → at.term ≤ by.term
  pub apart : (one two : ℕ) (at by : OpTime) (op other : Op) → HasOpen node.writers one at op
      → HasOpen node.writers two by other → at.ts ≡ by.ts → one ≡ two
  pub alone : (one two : ℕ) (at by : OpTime) (op other : Op) → HasOpen node.writers one at op
      → HasOpen node.writers two by other → place_of op ≡ place_of other → one ≡ two

-- whether a writer, if there is one, holds a document
abbrev pub is_held_by : Option Writer → Place → Bool
is_held_by None place = false
is_held_by (Some writer) place = holds writer place

-- the writer that holds a document, if one does
abbrev pub IsHolder : Writers → Place → Option ℕ → Type 0
IsHolder writers place holder =
    MatchOption holder ((writer : ℕ) → is_held_by (maps.get writers writer) place ≡ false)
    (λ writer. is_held_by (maps.get writers writer) place ≡ true)

-- the stored documents have the versions that the log makes, are held by the writers that hold them, and are
-- spread over 64 shards
pub record IsKept (node : Node) (store : Store) : Type 0 where
  pub sound : IsSound node
  pub writers : AreApart node
  pub versions : (place : Place)
      → HasVersions place node.stable (shown_log node Local) (versions_at store place)
  pub holders : (place : Place) → IsHolder node.writers place (holder_at store place)
  pub shards : store.count ≡ 64
