-- Which writes a node accepts.
use Rattle.std.specs.Prelude.{◌≡◌, ⊤, Option, Result, Ok, Err, None, Some, option_map}
use Rattle.std.specs.FinMap as maps
use Rattle.entry_bytes.specs.Sizes.{IsWithinEntry}
use Rattle.oplog_entry.specs.Docs.{docs}
use Rattle.oplog_entry.specs.Lawful.{IsLawfulOp}
use Rattle.oplog_entry.specs.Step.{place_of, document_after}
use Rattle.oplog_entry.specs.declared.entry.Op.{Op}
use Rattle.oplog_entry.specs.declared.entry.Session.{Session}
use Rattle.doc_update.specs.declared.write.Prepared.{Prepared}
use Rattle.doc_update.specs.declared.write.Prepared.TheVariants.{Entry, NoMatch, Unchanged}
use Rattle.doc_update.specs.declared.write.WriteOp.{WriteOp}
use Rattle.doc_update.specs.declared.write.WriteRefusal.{WriteRefusal}
use Rattle.doc_update.specs.Refusal.{reason_of}
use Rattle.bson_doc.specs.Place.{Place}
use Rattle.set_model.specs.declared.reply.Refusal.{Refusal}
use Rattle.set_model.specs.Admitted.{admitted, refusal_of}
use Rattle.set_model.specs.Holds.{holder}
use Rattle.set_model.specs.Node.{Node}
use Rattle.set_model.specs.Points.{next_optime}
use Rattle.node_data.specs.Versions.{IsSmall}
use Rattle.node_answers.specs.declared.admitted.Admission.{Admission}

-- the refusal for the reason against a write; being out of memory isn't one
abbrev pub IsRefusal : WriteRefusal → Refusal → Type 0
IsRefusal why refusal = option_map refusal_of (reason_of why) ≡ Some refusal

-- at the node's next optime the op's entry fits into a record, whatever its session is
abbrev pub FitsNext : Node → Op → Type 0
FitsNext node op =
    (session : Option Session)
    → IsWithinEntry (record { optime = next_optime node; op = op; session = session })

-- a logged op is lawful, touches the document at the place, leaves one that isn't too large, and fits
abbrev pub CanBeLogged : Node → Place → Prepared → Type 0
CanBeLogged node place (Entry op after) =
    IsLawfulOp op × (place_of op ≡ Some place)
    × (after ≡ document_after op (maps.get (docs node.log) place)) × IsSmall after × FitsNext node op
CanBeLogged node place NoMatch = ⊤
CanBeLogged node place Unchanged = ⊤

-- a write is refused, or no writer holds its document, and its effect can be logged
abbrev pub Admits : Node → WriteOp → Result Admission Refusal → Type 0
Admits node op (Err why) = admitted node op ≡ Err why
Admits node op (Ok write) =
    (admitted node op ≡ Ok write.effect) × (holder node (write.ns, write.id) ≡ None)
    × CanBeLogged node (write.ns, write.id) write.effect
