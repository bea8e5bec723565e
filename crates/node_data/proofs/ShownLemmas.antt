-- What the documents show of the log.
use Rattle.std.proofs.Common.{◌≡◌, ◌∙◌, false, not, List, refl, ap, IfSome}
use Rattle.std.specs.List.{All, AllPairs}
use Rattle.std.specs.FinMap.{get}
use Rattle.std.proofs.lemmas.List.Elements.{All-filter}
use Rattle.std.proofs.lemmas.List.Kept.{AllPairs-filter}
use Rattle.bson_doc.specs.Place.{Place}
use Rattle.rs_optime.specs.declared.optime.OpTime.{OpTime}
use Rattle.oplog_entry.specs.declared.entry.Entry.{Entry}
use Rattle.oplog_entry.specs.Docs.{docs}
use Rattle.oplog_entry.specs.Lawful.{IsLawful}
use Rattle.oplog_entry.specs.Log.{StandsBefore}
use Rattle.oplog_entry.specs.Visible.{is_before, log_up_to}
use Rattle.version_store.specs.Past.{latest_of}
use Rattle.version_store.specs.Store.{Store, versions_at, shown_at}
use Rattle.set_model.specs.declared.command.ReadLevel.TheVariants.{Local}
use Rattle.set_model.specs.declared.role.Role.{Role}
use Rattle.set_model.specs.declared.role.Role.TheVariants.{Secondary, Candidate, Draining, Primary}
use Rattle.set_model.specs.Node.{Node}
use Rattle.set_model.specs.Points.{if_primary}
use Rattle.set_model.specs.Reads.{local_documents, shown_log}
use Rattle.set_model.specs.Roles.{is_primary}
use Rattle.node_data.specs.Kept.{IsKept}
use Rattle.node_data.specs.NodeData.{IsReadable}
use Rattle.node_data.proofs.HasLemmas.{latest_has, shown_has}
use Rattle.node_data.proofs.LogLemmas.{up_to-up_to}
use Rattle.node_data.proofs.OwnLemmas.{IsOwn, own_docs}

-- ---- the log that is shown

-- a primary's whole log, or another node's as far as it is applied
pub shown_order : (role : Role) (applied : OpTime) (log : List Entry) → AllPairs StandsBefore log → AllPairs StandsBefore (if_primary role log (log_up_to applied log))
shown_order Primary applied log order = order
shown_order Secondary applied log order = AllPairs-filter StandsBefore (λ (e : Entry). not (is_before applied e.optime)) log order
shown_order Candidate applied log order = AllPairs-filter StandsBefore (λ (e : Entry). not (is_before applied e.optime)) log order
shown_order Draining applied log order = AllPairs-filter StandsBefore (λ (e : Entry). not (is_before applied e.optime)) log order

pub shown_up_to : (role : Role) (applied at : OpTime) (log : List Entry) → (is_primary role ≡ false → is_before applied at ≡ false) → log_up_to at (if_primary role log (log_up_to applied log)) ≡ log_up_to at log
shown_up_to Primary applied at log within = refl
shown_up_to Secondary applied at log within = up_to-up_to at applied log (within refl)
shown_up_to Candidate applied at log within = up_to-up_to at applied log (within refl)
shown_up_to Draining applied at log within = up_to-up_to at applied log (within refl)

shown_lawful : (role : Role) (applied : OpTime) (log : List Entry) → All IsLawful log → All IsLawful (if_primary role log (log_up_to applied log))
shown_lawful Primary applied log lawful = lawful
shown_lawful Secondary applied log lawful = All-filter (λ (e : Entry). not (is_before applied e.optime)) IsLawful log lawful
shown_lawful Candidate applied log lawful = All-filter (λ (e : Entry). not (is_before applied e.optime)) IsLawful log lawful
shown_lawful Draining applied log lawful = All-filter (λ (e : Entry). not (is_before applied e.optime)) IsLawful log lawful

pub local_latest : (node : Node) (store : Store) → IsKept node store → (place : Place) → latest_of (versions_at store place) ≡ get (local_documents node) place
local_latest node store kept place =
    latest_has place node.stable (shown_log node Local) (versions_at store place) (shown_order node.role node.applied node.log kept.sound.oplog.order) (kept.versions place)

pub local_shown : (node : Node) (store : Store) → IsKept node store → (place : Place) (at : OpTime) → IsReadable node at → shown_at store place at ≡ get (docs (log_up_to at node.log)) place
local_shown node store kept place at readable =
    shown_has place node.stable at (shown_log node Local) (versions_at store place) (shown_order node.role node.applied node.log kept.sound.oplog.order) readable.kept (kept.versions place)
    ∙ ap (λ l. get (docs l) place) (shown_up_to node.role node.applied at node.log readable.reached)

-- each document that a read shows begins with its own `_id`
pub local_own : (node : Node) (store : Store) → IsKept node store → (place : Place) → IfSome (get (local_documents node) place) (λ d. IsOwn place.1 d)
local_own node store kept place = own_docs (shown_log node Local) place (shown_lawful node.role node.applied node.log kept.sound.oplog.lawful)

pub shown_own : (node : Node) (store : Store) → IsKept node store → (place : Place) (at : OpTime) → IfSome (get (docs (log_up_to at node.log)) place) (λ d. IsOwn place.1 d)
shown_own node store kept place at = own_docs (log_up_to at node.log) place (All-filter (λ (e : Entry). not (is_before at e.optime)) IsLawful node.log kept.sound.oplog.lawful)
