-- What a majority read shows, as the start of a new node (MongoDB's replication architecture guide, initial
-- sync).
use Rattle.std.specs.Prelude.{◌≡◌, ◌≢◌, ℕ, All, List, Some, false}
use Rattle.std.specs.FinMap.{get}
use Rattle.bson_doc.specs.Place.{Place}
use Rattle.bson_doc.specs.Tree.{Fields}
use Rattle.doc_update.specs.Effect.{is_too_large}
use Rattle.entry_bytes.specs.Sizes.{IsWithinEntry}
use Rattle.oplog_entry.specs.Docs.{docs}
use Rattle.oplog_entry.specs.Step.{id_key}
use Rattle.oplog_entry.specs.Visible.{ZERO, last_of}
use Rattle.oplog_entry.specs.declared.entry.Entry.{Entry}
use Rattle.rs_optime.specs.declared.optime.OpTime.{OpTime}
use Rattle.set_model.specs.declared.command.Event.{Event}
use Rattle.set_model.specs.declared.command.ReadLevel.TheVariants.{Majority}
use Rattle.set_model.specs.Node.{Node}
use Rattle.set_model.specs.Points.{applied_point, earlier_of}
use Rattle.set_model.specs.Reads.{shown_log}
use Rattle.set_model.specs.Run.{Sizes}
use Rattle.set_model.specs.Safety.{IsAt}

-- a document of this place that isn't too large
pub record IsFitDocument (place : Place) (document : Fields) : Type 0 where
  pub key : id_key document ≡ Some place.1
  pub small : is_too_large document ≡ false

-- A log that ends at an optime, unless that is ZERO. None of its entries is too large, nor any document that
-- results from it.
pub record IsFitLog (at : OpTime) (log : List Entry) : Type 0 where
  pub last : at ≢ ZERO → last_of log ≡ at
  pub entries : All IsWithinEntry log
  pub documents : (place : Place) (document : Fields) → get (docs log) place ≡ Some document
      → IsFitDocument place document

-- A majority read at a node that is up shows such a log, up to the lesser of its commit point and what it has
-- applied.
abbrev pub MajorityLogsAreFit : Sizes → List Event → Type 0
MajorityLogsAreFit sizes events =
    (place number : ℕ) (node : Node) → IsAt sizes events place number node
    → IsFitLog (earlier_of node.commit (applied_point node)) (shown_log node Majority)
