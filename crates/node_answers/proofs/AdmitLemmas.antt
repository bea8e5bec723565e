-- The effect of a write on a node.
use Rattle.std.proofs.Common.{◌≡◌, ◌∙◌, ℕ, zero, Bool, true, false, cond, List, [], ◌∷◌, fold, All, Option, None, Some, Result, Ok, Err, IfSome, option_map, refl, sym, ap, subst, arith}
use Rattle.std.specs.Cmp.{eq_by_cmp_equiv}
use Rattle.std.specs.Ordering.{nat_cmp}
use Rattle.std.specs.FinMap.{FinMap, get, get-empty, empty}
use Rattle.std.proofs.lemmas.List.Elements.{All-tail}
use Rattle.bson_doc.specs.Place.{Place, place_cmp}
use Rattle.bson_doc.specs.Tree.{Fields}
use Rattle.bson_doc.proofs.KeyLemmas.{place_cmp-total}
use Rattle.oplog_entry.specs.Docs.{Documents, docs, applied}
use Rattle.oplog_entry.specs.Lawful.{BeginsWithId}
use Rattle.oplog_entry.specs.Step.{id_key, place_of, document_after, is_at}
use Rattle.oplog_entry.specs.declared.entry.Entry.{Entry}
use Rattle.oplog_entry.specs.declared.entry.Session.{Session}
use Rattle.oplog_entry.proofs.DocsLemmas.{get-applied-here, get-applied-other, applied-nothing}
use Rattle.oplog_entry.proofs.PlaceLemmas.{is_at-only}
use Rattle.doc_update.proofs.StoredLemmas.{IsLogged, IsStored, write-logged}
use Rattle.doc_update.specs.Check.{checked}
use Rattle.doc_update.specs.Effect.{prepared}
use Rattle.doc_update.specs.Refusal.{Reason, Refuses, reason_of}
use Rattle.doc_update.specs.Sound.{IsSound}
use Rattle.doc_update.specs.declared.write.Prepared.{Prepared}
use Rattle.doc_update.specs.declared.write.Prepared.TheVariants as made
use Rattle.doc_update.specs.declared.write.WriteOp.{WriteOp}
use Rattle.doc_update.specs.declared.write.WriteRefusal.{WriteRefusal}
use Rattle.set_model.specs.declared.reply.Refusal.{Refusal}
use Rattle.set_model.specs.declared.reply.Refusal.TheVariants.{WriteConflict, WriterOpen}
use Rattle.set_model.specs.declared.writer.Writer.{Writer}
use Rattle.set_model.specs.declared.writer.Writer.TheVariants.{Open, Done, Lost}
use Rattle.set_model.specs.Admitted.{admitted, or_refused, refusal_of}
use Rattle.set_model.specs.Holds.{holder}
use Rattle.set_model.specs.Limits.{IsSoundWrite, collection_of, is_collection}
use Rattle.set_model.specs.Node.{Node}
use Rattle.set_model.specs.Outcome.{Outcome, refused}
use Rattle.set_model.specs.Points.{next_optime}
use Rattle.set_model.specs.Writers.{unless_open}
use Rattle.version_store.specs.declared.history.Version.{Version}
use Rattle.node_answers.specs.Admits.{IsRefusal, CanBeLogged}
use Rattle.node_data.specs.Versions.{AreSmall, IsSmall, versions_from}
use Rattle.node_data.specs.Writers.{is_open, IsWriting}
use Rattle.set_model.proofs.EntrySizes.{IsWithin, short_within}
use Rattle.set_model.proofs.WriteLemmas.{short_name, sound_update}

-- ---- admission

pub admitted-held : (node : Node) (op : WriteOp) (place : Place) (writer : ℕ) → checked op ≡ Ok place → holder node place ≡ Some writer → admitted node op ≡ Err (WriteConflict writer)
admitted-held node op place writer is held = rw (is, held) refl

pub admitted-free : (node : Node) (op : WriteOp) (place : Place) → checked op ≡ Ok place → holder node place ≡ None → admitted node op ≡ or_refused (prepared op (get (docs node.log) place))
admitted-free node op place is free = rw (is, free) refl

pub refuses : (why : WriteRefusal) (refusal : Refusal) (wanted : Result Prepared Reason) → Refuses why wanted → IsRefusal why refusal → or_refused wanted ≡ Err refusal
refuses why refusal wanted is same = by_reason (reason_of why) is same
  where
    by_reason : (found : Option Reason) → IfSome found (λ reason. wanted ≡ Err reason) → option_map refusal_of found ≡ Some refusal → or_refused wanted ≡ Err refusal
    by_reason None is none = cc none
    by_reason (Some reason) is some = let same : refusal_of reason ≡ refusal = cc in ap or_refused is ∙ ap (λ (r : Refusal). Err r) same

-- ---- writers

pub unless_open-closed : (node : Node) (writer : Option Writer) (outcome : Outcome) → is_open writer ≡ false → unless_open node writer outcome ≡ outcome
unless_open-closed node (Some (Open at op)) outcome closed = cc closed
unless_open-closed node (Some (Done at)) outcome closed = refl
unless_open-closed node (Some (Lost term)) outcome closed = refl
unless_open-closed node None outcome closed = refl

pub unless_open-open : (node : Node) (writer : Option Writer) (outcome : Outcome) → is_open writer ≡ true → unless_open node writer outcome ≡ refused WriterOpen node
unless_open-open node (Some (Open at op)) outcome opens = refl
unless_open-open node (Some (Done at)) outcome opens = cc opens
unless_open-open node (Some (Lost term)) outcome opens = cc opens
unless_open-open node None outcome opens = cc opens

pub closed_writer : (writers : FinMap nat_cmp Writer) (writer : ℕ) → is_open (get writers writer) ≡ false → ¬ (IsWriting writers writer)
closed_writer writers writer closed writing =
    let opens : is_open (get writers writer) ≡ true = ap is_open writing.2 in
    cc

pub ruleset closed_writers = (closed_writer, unless_open-closed, unless_open-open)

-- ---- the document that a log leaves is one of those that its entries leave

not_here : (documents : Documents) (entry : Entry) (place : Place) (own : Option Place) → place_of entry.op ≡ own → is_at own place ≡ false → get (applied documents entry) place ≡ get documents place
not_here documents entry place None is other = ap (λ d. get d place) (applied-nothing documents entry is)
not_here documents entry place (Some own) is other = get-applied-other documents entry own place is ((eq_by_cmp_equiv place_cmp-total).symm place own ∙ other)

small_from : (log : List Entry) (documents : Documents) (place : Place) (before : Option Fields) → before ≡ get documents place → IsSmall before
    → All (λ (v : Version). IsSmall v.doc) (versions_from place before log) → IsSmall (get (fold applied documents log) place)
small_from [] documents place before is small all = subst IsSmall is small
small_from (entry ∷ log) documents place before is small all =
    go (is_at (place_of entry.op) place) refl (λ next same fits rest. small_from log (applied documents entry) place next same fits rest) all
  where
    there : Version
    there = record { at = entry.optime; doc = document_after entry.op before }

    go : (b : Bool) → is_at (place_of entry.op) place ≡ b
        → ((next : Option Fields) → next ≡ get (applied documents entry) place → IsSmall next → All (λ (v : Version). IsSmall v.doc) (versions_from place next log) → IsSmall (get (fold applied (applied documents entry) log) place))
        → All (λ (v : Version). IsSmall v.doc) (cond b (there ∷ versions_from place (document_after entry.op before) log) (versions_from place before log))
        → IsSmall (get (fold applied (applied documents entry) log) place)
    go true here again all =
        again (document_after entry.op before)
        (ap (document_after entry.op) is ∙ sym (get-applied-here documents entry place (is_at-only (place_of entry.op) place here)))
        (all zero there (omega arith)) (All-tail (λ (v : Version). IsSmall v.doc) there (versions_from place (document_after entry.op before) log) all)
    go false other again all = again before (is ∙ sym (not_here documents entry place (place_of entry.op) refl other)) small all

pub small_docs : (log : List Entry) (place : Place) → AreSmall log → IsSmall (get (docs log) place)
small_docs log place small = small_from log empty place None (sym (get-empty place_cmp place)) tt (small place)

-- ---- what is logged

is_stored : (place : Place) (before : Option Fields) → IfSome before (λ document. BeginsWithId document × (id_key document ≡ Some place.1)) → IsSmall before → IsStored place before
is_stored place None own small = tt
is_stored place (Some document) own small = (own.0, own.1, small)

is_small : (place : Place) (left : Option Fields) → IsStored place left → IsSmall left
is_small place None stored = tt
is_small place (Some document) stored = stored.2

pub effect_can : (node : Node) (op : WriteOp) (place : Place) (before : Option Fields) (effect : Prepared) → AreSmall node.log → IsSoundWrite op → is_collection (collection_of op) ≡ true
    → checked op ≡ Ok place → before ≡ get (docs node.log) place → IfSome before (λ document. BeginsWithId document × (id_key document ≡ Some place.1))
    → prepared op before ≡ Ok effect → IsSound (Ok place) before effect → CanBeLogged node place effect
effect_can node op place before made.NoMatch small sound name is stands own does lawful = tt
effect_can node op place before made.Unchanged small sound name is stands own does lawful = tt
effect_can node op place before (made.Entry logged after) small sound name is stands own does lawful =
    (lawful.0, lawful.1, lawful.2 ∙ ap (document_after logged) stands, subst IsSmall (sym lawful.2) (is_small place (document_after logged before) known.stored), λ session. record { bytes = (within session).0; levels = (within session).1 })
  where
    known : IsLogged place before logged
    known = write-logged op before place logged after (sound_update op sound) (is_stored place before own (subst IsSmall (sym stands) (small_docs node.log place small))) is does

    within : (session : Option Session) → IsWithin (record { optime = next_optime node; op = logged; session = session })
    within session = short_within (next_optime node) logged session place known.at (short_name op place is name) known.short
