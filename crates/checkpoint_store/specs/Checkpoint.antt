-- The state that the records of a file add up to: the last completed checkpoint.
use Rattle.std.specs.Prelude.{◌+◌, ◌/◌, List, [], ◌∷◌, ◌++◌, length, map, fold, Option, None, Some, option_map, unwrap_or}
use Rattle.std.specs.FinMap.{empty, insert, entries}
use Rattle.std.specs.Simd.{first_chunks}
use Rattle.rs_optime.specs.declared.optime.OpTime.{OpTime}
use Rattle.oplog_entry.specs.Docs.{Documents}
use Rattle.checkpoint_store.specs.Layout.{Saved, Record, begins, holds, ends}
use Rattle.checkpoint_store.specs.Spelled.{PIECE}
use Rattle.checkpoint_store.specs.declared.stable.Stable.{Stable}

-- no checkpoint
abbrev pub no_stable : Stable
no_stable = record { at = record { term = 0; ts = 0 }; documents = empty }

-- the documents with some more
abbrev pub with_documents : Documents → List Saved → Documents
with_documents documents more = fold (λ so_far saved. insert so_far saved.0 saved.1) documents more

-- the last completed checkpoint, and the one that was begun after it
pub record SoFar : Type 0 where
  pub whole : Stable
  pub begun : Option Stable

abbrev pub nothing_yet : SoFar
nothing_yet = record { whole = no_stable; begun = None }

-- a checkpoint that was begun, if one was, with more documents
abbrev pub with_more : Option Stable → List Saved → Option Stable
with_more begun more =
    option_map (λ stable. record { at = stable.at; documents = with_documents stable.documents more }) begun

-- with one more record. Only its end makes a checkpoint count
abbrev pub with_record : SoFar → Record → SoFar
with_record so_far (begins at) =
    record { whole = so_far.whole; begun = Some (record { at = at; documents = empty }) }
with_record so_far (holds documents) =
    record { whole = so_far.whole; begun = with_more so_far.begun documents }
with_record so_far ends = record { whole = unwrap_or so_far.begun so_far.whole; begun = None }

abbrev pub last_whole : List Record → Stable
last_whole records = (fold with_record nothing_yet records).whole

-- some documents in full pieces, followed by the rest of them
abbrev pub pieces : List Saved → List Record
pieces documents = map holds (first_chunks PIECE ((length documents + 999) / PIECE) documents)

-- the records of a checkpoint of these documents
abbrev pub checkpoint_of : OpTime → List Saved → List Record
checkpoint_of at documents = begins at ∷ (pieces documents ++ ends ∷ [])

-- the records of a checkpoint: its documents in order of collection and key
abbrev pub checkpoint : Stable → List Record
checkpoint stable = checkpoint_of stable.at (entries stable.documents)
