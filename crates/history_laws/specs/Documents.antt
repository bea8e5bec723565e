-- In which order the entries of one document stand.
use Rattle.std.specs.Prelude.{◌≡◌, ◌<◌, ℕ, List, Some}
use Rattle.bson_doc.specs.Place.{Place}
use Rattle.rs_optime.specs.Membership.{In}
use Rattle.rs_optime.specs.Order.{Before}
use Rattle.oplog_entry.specs.Step.{place_of}
use Rattle.oplog_entry.specs.declared.entry.Entry.{Entry}
use Rattle.set_model.specs.declared.command.Event.{Event}
use Rattle.set_model.specs.Node.{Node}
use Rattle.set_model.specs.Run.{Sizes}
use Rattle.set_model.specs.Safety.{IsAt}
use Rattle.linear_read.specs.Written.{Wrote}

-- two entries touch one document
abbrev pub TouchOne : Entry → Entry → Type 0
TouchOne one two = (place : Place) × (place_of one.op ≡ Some place) × (place_of two.op ≡ Some place)

-- In each log the entries of one document stand in the order of the events that wrote them.
abbrev pub DocumentsAreInOrder : Sizes → List Event → Type 0
DocumentsAreInOrder sizes events =
    (place number : ℕ) (node : Node) (one two : Entry) → IsAt sizes events place number node
    → In one node.log → In two node.log → Before one.optime two.optime → TouchOne one two
    → (i j : ℕ) → Wrote sizes events i one → Wrote sizes events j two → i < j
