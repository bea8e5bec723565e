-- Each document that results from a log can be saved: it has the key of its place, and it is no larger than
-- an entry may leave it.
use Rattle.std.proofs.Common.{◌≡◌, ◌≤◌, ap, sym, subst, refl, fold, ℕ, zero, Bool, true, false, not, cond, length, List, [], ◌∷◌, Option, None, Some, IfSome, arith}
use Rattle.std.specs.List.{All}
use Rattle.std.specs.FinMap.{get, get-empty, empty}
use Rattle.std.proofs.lemmas.List.Elements.{All-filter, All-tail}
use Rattle.bson_doc.specs.Key.{key_of}
use Rattle.bson_doc.specs.Length.{document_length}
use Rattle.bson_doc.specs.Place.{Place, place_cmp}
use Rattle.bson_doc.specs.Tree.{Fields}
use Rattle.bson_doc.specs.View.{tree_of}
use Rattle.rs_optime.specs.declared.optime.OpTime.{OpTime}
use Rattle.oplog_entry.specs.Docs.{Documents, docs, applied}
use Rattle.oplog_entry.specs.Lawful.{IsLawful}
use Rattle.oplog_entry.specs.Step.{id_key, place_of, document_after, is_at}
use Rattle.oplog_entry.specs.Visible.{is_before, log_up_to}
use Rattle.oplog_entry.specs.declared.entry.Entry.{Entry}
use Rattle.oplog_entry.specs.declared.entry.Op.{Op}
use Rattle.oplog_entry.specs.declared.entry.Op.TheVariants.{Insert, Replace, Fields as SetFields, Delete, Noop, Note}
use Rattle.oplog_entry.specs.declared.entry.Session.{Session}
use Rattle.oplog_entry.proofs.PlaceLemmas.{is_at-only}
use Rattle.entry_bytes.specs.Layout.{collection_of, document_of, members}
use Rattle.entry_bytes.specs.Sizes.{IsWithinEntry}
use Rattle.doc_update.proofs.StoredLemmas.{not_large, place-key}
use Rattle.checkpoint_store.specs.Shown.{CanBeSaved}
use Rattle.checkpoint_store.specs.Spelled.{NAME}
use Rattle.set_model.proofs.HoldLemmas.{get-step}
use Rattle.set_model.specs.Node.{Node}
use Rattle.node_data.proofs.FollowLemmas.{small_up_to}
use Rattle.node_data.proofs.OwnLemmas.{IsOwn, own_docs}
use Rattle.node_data.specs.Sound.{IsSound}
use Rattle.node_data.specs.Versions.{IsSmall}
use Rattle.node_answers.proofs.AdmitLemmas.{small_docs}

-- ---- the name of its collection

name_within : (at : OpTime) (letter name : List ℕ) (body : Fields) (target : Option Fields) (session : Option Session)
    → length name ≤ document_length (members at letter name body target session)
name_within at letter name body target session = omega arith

op_named : (op : Op) (place : Place) → place_of op ≡ Some place → collection_of op ≡ place.0
op_named (Insert ns o) place at = (place-key ns (id_key o) place at).0
op_named (Replace ns id o) place at = (place-key ns (key_of (tree_of id)) place at).0
op_named (SetFields ns id sets unsets) place at = (place-key ns (key_of (tree_of id)) place at).0
op_named (Delete ns id) place at = (place-key ns (key_of (tree_of id)) place at).0
op_named Noop place at = cc at
op_named Note place at = cc at

short_name : (entry : Entry) (place : Place) → IsWithinEntry entry → place_of entry.op ≡ Some place → length place.0 ≤ NAME
short_name entry place within at =
    let same : length (collection_of entry.op) ≡ length place.0 = ap length (op_named entry.op place at) in
    let inside : length (collection_of entry.op) ≤ document_length (document_of entry) = name_within entry.optime _ (collection_of entry.op) _ _ entry.session in
    let bytes : document_length (document_of entry) ≤ 1048576 = within.bytes in
    omega (arith, same, inside, bytes)

abbrev IsNamed : Place → Option Fields → Type 0
IsNamed place document = IfSome document (λ d. length place.0 ≤ NAME)

named_so : (place : Place) (document : Option Fields) → length place.0 ≤ NAME → IsNamed place document
named_so place None short = tt
named_so place (Some document) short = short

named_applied : (documents : Documents) (entry : Entry) (place : Place) → IsWithinEntry entry → IsNamed place (get documents place) → IsNamed place (get (applied documents entry) place)
named_applied documents entry place within named =
    subst (IsNamed place) (sym (get-step documents entry place)) (by_test (is_at (place_of entry.op) place) refl)
  where
    by_test : (b : Bool) → is_at (place_of entry.op) place ≡ b → IsNamed place (cond b (document_after entry.op (get documents place)) (get documents place))
    by_test true here = named_so place (document_after entry.op (get documents place)) (short_name entry place within (is_at-only (place_of entry.op) place here))
    by_test false other = named

named_folded : (log : List Entry) (documents : Documents) (place : Place) → All IsWithinEntry log → IsNamed place (get documents place) → IsNamed place (get (fold applied documents log) place)
named_folded [] documents place each named = named
named_folded (entry ∷ log) documents place each named =
    named_folded log (applied documents entry) place (All-tail IsWithinEntry entry log each) (named_applied documents entry place (each zero entry (omega arith)) named)

named_docs : (log : List Entry) (place : Place) → All IsWithinEntry log → IsNamed place (get (docs log) place)
named_docs log place each = named_folded log empty place each (subst (IsNamed place) (sym (get-empty place_cmp place)) tt)

-- ---- all of it

pub savable : (node : Node) (at : OpTime) → IsSound node → (place : Place) (document : Fields) → get (docs (log_up_to at node.log)) place ≡ Some document
    → CanBeSaved place document
savable node at sound place document there = record { short = named; key = own.1; bytes = omega (arith, sizes.0); levels = omega (arith, sizes.1) }
  where
    log : List Entry
    log = log_up_to at node.log

    own : IsOwn place.1 document
    own = subst (λ (o : Option Fields). IfSome o (λ d. IsOwn place.1 d)) there
        (own_docs log place (All-filter (λ (e : Entry). not (is_before at e.optime)) IsLawful node.log sound.oplog.lawful))

    named : length place.0 ≤ NAME
    named = subst (IsNamed place) there (named_docs log place (All-filter (λ (e : Entry). not (is_before at e.optime)) IsWithinEntry node.log sound.entries))

    small : IsSmall (Some document)
    small = subst IsSmall there (small_docs log place (small_up_to at node.log sound.oplog.order sound.documents))

    sizes : (Rattle.bson_doc.specs.Length.fields_length document ≤ 262139) × (Rattle.bson_doc.specs.Length.fields_levels document ≤ 99)
    sizes = not_large document small
