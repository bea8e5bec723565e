-- The documents stay those of the log while it is written.
use Rattle.std.proofs.Common.{◌≡◌, ◌≢◌, max, ◌<◌, arith, ◌⊎◌, inl, inr, ◌∙◌, ℕ, Bool, true, false, List, [], ◌∷◌, ◌++◌, Option, None, Some, IfSome, IsSome, refl, sym, ap, subst, rules}
use Rattle.std.specs.FinMap.{get, entries, insert, remove}
use Rattle.std.specs.Prelude.{All}
use Rattle.bson_doc.specs.Place.{Place}
use Rattle.bson_doc.specs.Tree.{Fields}
use Rattle.rs_optime.specs.Order.{is_before}
use Rattle.rs_optime.specs.declared.optime.OpTime.{OpTime}
use Rattle.oplog_entry.specs.Docs.{docs}
use Rattle.entry_bytes.specs.Sizes.{IsWithinEntry}
use Rattle.oplog_entry.specs.Lawful.{IsLawfulOp, IsSession}
use Rattle.oplog_entry.specs.Log.{with_entry}
use Rattle.oplog_entry.specs.Step.{place_of, document_after}
use Rattle.oplog_entry.specs.Visible.{log_up_to}
use Rattle.oplog_entry.specs.declared.entry.Entry.{Entry}
use Rattle.oplog_entry.specs.declared.entry.Op.{Op}
use Rattle.oplog_entry.specs.declared.entry.Op.TheVariants.{Noop, Note}
use Rattle.oplog_entry.specs.declared.entry.Session.{Session}
use Rattle.oplog_entry.proofs.PlaceLemmas.{same_place}
use Rattle.version_store.specs.declared.history.Version.{Version}
use Rattle.version_store.specs.Past.{Past, with_version, held_by}
use Rattle.version_store.specs.Store.{Store, past_at, versions_at, Changes}
use Rattle.set_model.specs.declared.command.ReadLevel.TheVariants.{Local}
use Rattle.set_model.specs.declared.role.Role.{Role}
use Rattle.set_model.specs.declared.role.Role.TheVariants.{Primary}
use Rattle.set_model.specs.declared.writer.Writer.{Writer}
use Rattle.set_model.specs.declared.writer.Writer.TheVariants.{Done, Open}
use Rattle.set_model.specs.Changes.{logged_at, opened_at}
use Rattle.set_model.specs.Holds.{holder_among}
use Rattle.set_model.specs.Node.{Node}
use Rattle.set_model.specs.Points.{if_primary}
use Rattle.set_model.specs.Reads.{local_documents, shown_log}
use Rattle.set_model.specs.Writers.{settled, aborted}
use Rattle.node_data.proofs.SizeLemmas.{idle_within_entry}
use Rattle.optime_slots.specs.Reserved.{Reserved, opened as opened_slot}
use Rattle.node_data.specs.NodeData.{data_node}
use Rattle.node_data.specs.Kept.{IsNewest, IsHolder, IsKept, is_held_by}
use Rattle.node_data.specs.Versions.{HasVersions, IsSmall}
use Rattle.node_data.specs.Writers.{Writers, HasOpen, IsWriting}
use Rattle.node_data.proofs.HasLemmas.{has_before, has_with, has_with_other}
use Rattle.node_data.proofs.HolderLemmas.{held_open, open_held, nobody_holds, holders_opened, holders_closed}
use Rattle.node_data.proofs.SoundLemmas.{IsNew, MayWriteAt, entry_at, slot_entry, writing_primary, newest_past, next_unstable, sound_logged, apart_logged, sound_opened, apart_opened, sound_settled, apart_settled, sound_aborted, apart_aborted}
use Rattle.node_data.proofs.StoreLemmas.{versions_stay, holders_stay, changes_twice}
use Rattle.node_data.proofs.MapLemmas.{get-with-same, get-with-other, get-without-same, get-without-other}

-- a primary shows its whole log
shown_whole : (role : Role) (one two : List Entry) → role ≡ Primary → if_primary role one two ≡ one
shown_whole role one two is = ap (λ r. if_primary r one two) is

-- the versions that a primary's documents have
whole_versions : (node : Node) (store : Store) → IsKept node store → node.role ≡ Primary → (p : Place) → HasVersions p node.stable node.log (versions_at store p)
whole_versions node store kept primary p =
    subst (λ log. HasVersions p node.stable log (versions_at store p)) (shown_whole node.role node.log (log_up_to node.applied node.log) primary) (kept.versions p)

-- and so, of another log, with one entry more
versions_changed : (node : Node) (entry : Entry) (store later : Store) (place : Place) (past : Past) → IsKept node store → node.role ≡ Primary
    → IsNewest node.log entry → is_before node.stable entry.optime ≡ true → place_of entry.op ≡ Some place → Changes store later place past
    → past.versions ≡ versions_at store place ++ record { at = entry.optime; doc = document_after entry.op (get (docs node.log) place) } ∷ []
    → (p : Place) → HasVersions p node.stable (with_entry node.log entry) (versions_at later p)
versions_changed node entry store later place past kept primary newest late own changes new p = elim (same_place place p) [
  | inl same ↦
      subst (λ q. HasVersions q node.stable (with_entry node.log entry) (versions_at later q)) same
      (subst (λ vs. HasVersions place node.stable (with_entry node.log entry) vs) (sym (ap (λ (x : Past). x.versions) changes.here ∙ new))
      (has_with place node.stable node.log entry (versions_at store place) kept.sound.oplog.order newest late own (whole_versions node store kept primary place)))
  | inr apart ↦
      subst (λ vs. HasVersions p node.stable (with_entry node.log entry) vs) (sym (ap (λ (x : Past). x.versions) (changes.others p (λ e. apart (sym e)))))
      (has_with_other p node.stable node.log entry (versions_at store p) newest.fits late (λ same. apart (some_same (sym own ∙ same))) (whole_versions node store kept primary p))
]
  where
    some_same : Some place ≡ Some p → place ≡ p
    some_same e = cc

-- shown as a primary shows them
as_shown : (role : Role) (stable : OpTime) (log other : List Entry) (store : Store) → role ≡ Primary → ((p : Place) → HasVersions p stable log (versions_at store p))
    → (p : Place) → HasVersions p stable (if_primary role log other) (versions_at store p)
as_shown role stable log other store primary has p = subst (λ l. HasVersions p stable l (versions_at store p)) (sym (shown_whole role log other primary)) (has p)

-- nobody is open for a document that nobody holds
nobody_open : (node : Node) (op : Op) (place : Place) → holder_among (entries node.writers) place ≡ None → place_of op ≡ Some place
    → (v : ℕ) (by : OpTime) (other : Op) → HasOpen node.writers v by other → place_of op ≢ place_of other
nobody_open node op place free own v by other opens places =
    let none : is_held_by (get node.writers v) place ≡ false = nobody_holds node.writers place free v in
    let held : is_held_by (get node.writers v) place ≡ true = open_held (get node.writers v) by other place opens (sym places ∙ own) in
    cc

not_writing : (writers : Writers) (writer : ℕ) → ¬ (IsWriting writers writer) → (p : Place) → is_held_by (get writers writer) p ≡ false
not_writing writers writer closed p = by_test (is_held_by (get writers writer) p) refl
  where
    by_test : (b : Bool) → is_held_by (get writers writer) p ≡ b → is_held_by (get writers writer) p ≡ false
    by_test true held = let opens = held_open (get writers writer) p held in absurd (closed (opens.0, opens.1, opens.2))
    by_test false free = free

pub kept_logged : (node : Node) (at : OpTime) (store later : Store) (op : Op) (session : Option Session) (place : Place) (after : Option Fields) → IsKept node store → IsNew node at op session → place_of op ≡ Some place
    → holder_among (entries node.writers) place ≡ None → after ≡ document_after op (get (docs node.log) place)
    → Changes store later place (with_version (past_at store place) (record { at = at; doc = after }))
    → IsKept (logged_at at node op session) later
kept_logged node at store later op session place after kept new own free left changes = record {
  sound = sound_logged node at op session kept.sound new;
  writers = apart_logged node at op session kept.sound kept.writers new (nobody_open node op place free own);
  versions = as_shown node.role node.stable (with_entry node.log (entry_at at op session)) (log_up_to node.applied (with_entry node.log (entry_at at op session))) later new.role
      (versions_changed node (entry_at at op session) store later place _ kept new.role (newest_past node at op session kept.sound new.next) (next_unstable node at kept.sound new.role new.next) own changes
      (ap (λ (doc : Option Fields). versions_at store place ++ record { at = at; doc = doc } ∷ []) left));
  holders = λ p. subst (λ h. IsHolder node.writers p h) (sym (holders_stay store later place _ changes refl p)) (kept.holders p);
  shards = changes.count ∙ kept.shards;
}

some_place : (o : Option Place) (place : Place) → o ≡ Some place → IsSome o
some_place None place e = cc
some_place (Some p) place e = search rules

-- a no-op and a note touch no document
pub idle_nowhere : (op : Op) → (op ≡ Noop) ⊎ (op ≡ Note) → place_of op ≡ None
idle_nowhere op idle = elim idle [ inl same ↦ ap place_of same | inr same ↦ ap place_of same ]

-- where an op touches no document, the documents are as they were
pub kept_idle : (node : Node) (at : OpTime) (store : Store) (op : Op) → IsKept node store → IsNew node at op None → place_of op ≡ None → IsKept (logged_at at node op None) store
kept_idle node at store op kept new nowhere = record {
  sound = sound_logged node at op None kept.sound new;
  writers = apart_logged node at op None kept.sound kept.writers new touches;
  versions = as_shown node.role node.stable (with_entry node.log (entry_at at op None)) (log_up_to node.applied (with_entry node.log (entry_at at op None))) store new.role
      (λ p. has_with_other p node.stable node.log (entry_at at op None) (versions_at store p) (newest_past node at op None kept.sound new.next).fits (next_unstable node at kept.sound new.role new.next) (λ there. none_some (sym nowhere ∙ there)) (whole_versions node store kept new.role p));
  holders = kept.holders;
  shards = kept.shards;
}
  where
    none_some : {p : Place} → None ≡ Some p → ⊥
    none_some e = cc

    touches : (v : ℕ) (by : OpTime) (other : Op) → HasOpen node.writers v by other → place_of op ≢ place_of other
    touches v by other opens same = none_touches (place_of other) (sym nowhere ∙ same) (kept.writers.pending v by other opens).place
      where
        none_touches : (o : Option Place) → None ≡ o → IsSome o → ⊥
        none_touches None e some = absurd (cc some)
        none_touches (Some p) e some = cc

kept_opened : (node : Node) (at : OpTime) (store later : Store) (writer : ℕ) (op : Op) (place : Place) → IsKept node store → IsNew node at op None → place_of op ≡ Some place
    → holder_among (entries node.writers) place ≡ None → ¬ (IsWriting node.writers writer)
    → Changes store later place (held_by (past_at store place) (Some writer))
    → IsKept (opened_at at node writer op) later
kept_opened node at store later writer op place kept new own free closed changes = record {
  sound = sound_opened node at writer op kept.sound new.role new.next;
  writers = apart_opened node at writer op kept.sound kept.writers new (some_place (place_of op) place own) (nobody_open node op place free own);
  versions = λ p. subst (λ vs. HasVersions p node.stable (shown_log node Local) vs) (sym (versions_stay store later place _ changes refl p)) (kept.versions p);
  holders = holders_opened node.writers store later place _ writer at op kept.holders (nobody_holds node.writers place free) (not_writing node.writers writer closed) own refl changes;
  shards = changes.count ∙ kept.shards;
}

pub kept_settled : (node : Node) (store between later : Store) (writer : ℕ) (at : OpTime) (op : Op) (place : Place) (after : Option Fields) → IsKept node store → HasOpen node.writers writer at op → place_of op ≡ Some place
    → after ≡ document_after op (get (docs node.log) place)
    → Changes store between place (with_version (past_at store place) (record { at = at; doc = after }))
    → Changes between later place (held_by (past_at between place) None)
    → IsKept (settled node writer at op) later
kept_settled node store between later writer at op place after kept opens own left first second =
    let changes = changes_twice store between later place _ _ first second in
    let primary : node.role ≡ Primary = writing_primary node writer kept.sound (at, op, opens) in
    let pending = kept.writers.pending writer at op opens in
    record {
      sound = sound_settled node writer at op kept.sound kept.writers opens;
      writers = apart_settled node writer at op kept.sound kept.writers opens;
      versions = as_shown node.role node.stable (with_entry node.log (slot_entry at op)) (log_up_to node.applied (with_entry node.log (slot_entry at op))) later primary
          (versions_changed node (slot_entry at op) store later place (held_by (past_at between place) None) kept primary pending.newest pending.unstable own changes
          (ap (λ (x : Past). x.versions) first.here ∙ ap (λ (doc : Option Fields). versions_at store place ++ record { at = at; doc = doc } ∷ []) left));
      holders = holders_closed node.writers (insert node.writers writer (Done at)) store later place (held_by (past_at between place) None) writer at op kept.writers.alone kept.holders opens own
          (λ p. ap (λ w. is_held_by w p) (get-with-same node.writers writer (Done at))) (λ w apart. get-with-other node.writers writer w (Done at) apart) refl changes;
      shards = changes.count ∙ kept.shards;
    }

pub kept_aborted : (node : Node) (store later : Store) (writer : ℕ) (at : OpTime) (op : Op) (place : Place) → IsKept node store → HasOpen node.writers writer at op → place_of op ≡ Some place
    → Changes store later place (held_by (past_at store place) None)
    → IsKept (aborted node writer at) later
kept_aborted node store later writer at op place kept opens own changes = record {
  sound = sound_aborted node writer at op kept.sound opens;
  writers = apart_aborted node writer at op kept.writers opens;
  versions = λ p. subst (λ vs. HasVersions p node.stable (shown_log node Local) vs) (sym (versions_stay store later place _ changes refl p)) (kept.versions p);
  holders = holders_closed node.writers (remove node.writers writer) store later place (held_by (past_at store place) None) writer at op kept.writers.alone kept.holders opens own
      (λ p. ap (λ w. is_held_by w p) (get-without-same node.writers writer)) (λ w apart. get-without-other node.writers writer w apart) refl changes;
  shards = changes.count ∙ kept.shards;
}

-- other shards with the same pasts
pub kept_same : (node : Node) (store later : Store) → IsKept node store → later.count ≡ store.count → ((p : Place) → past_at later p ≡ past_at store p) → IsKept node later
kept_same node store later kept count same = record {
  sound = kept.sound;
  writers = kept.writers;
  versions = λ p. subst (λ vs. HasVersions p node.stable (shown_log node Local) vs) (sym (ap (λ (x : Past). x.versions) (same p))) (kept.versions p);
  holders = λ p. subst (λ h. IsHolder node.writers p h) (sym (ap (λ (x : Past). x.holder) (same p))) (kept.holders p);
  shards = count ∙ kept.shards;
}

-- what a write owes
pub new_write : (node : Node) (at : OpTime) (op : Op) (session : Option Session) (place : Place) (after : Option Fields) → node.role ≡ Primary → MayWriteAt node at → IsLawfulOp op → IfSome session IsSession
    → IsWithinEntry (entry_at at op session) → place_of op ≡ Some place
    → after ≡ document_after op (get (docs node.log) place) → IsSmall after → IsNew node at op session
new_write node at op session place after role next lawful session_is within own left small = record {
  role = role;
  next = next;
  lawful = lawful;
  session_too = session_is;
  write = touches session;
  within = within;
  small = λ p here. subst (λ q. IsSmall (document_after op (get (docs node.log) q))) (some_same p (sym own ∙ here)) (subst IsSmall left small);
}
  where
    touches : (one : Option Session) → IfSome one (λ _. IsSome (place_of op))
    touches None = tt
    touches (Some session) = some_place (place_of op) place own

    some_same : (p : Place) → Some place ≡ Some p → place ≡ p
    some_same p e = cc

-- and a no-op or a note
pub new_idle : (node : Node) (at : OpTime) (op : Op) → node.role ≡ Primary → MayWriteAt node at → (op ≡ Noop) ⊎ (op ≡ Note) → IsNew node at op None
new_idle node at op role next idle = record {
  role = role;
  next = next;
  lawful = elim idle [ inl same ↦ subst IsLawfulOp (sym same) tt | inr same ↦ subst IsLawfulOp (sym same) tt ];
  session_too = tt;
  write = tt;
  within = idle_within_entry at op idle;
  small = λ place here. absurd (nowhere place (sym (idle_nowhere op idle) ∙ here));
}
  where
    nowhere : (place : Place) → None ≡ Some place → ⊥
    nowhere place e = cc

-- each version of a document is before the next optime
pub before_versions : (node : Node) (at : OpTime) (store : Store) (op : Op) (place : Place) → IsKept node store → node.role ≡ Primary → MayWriteAt node at → place_of op ≡ Some place
    → All (λ (v : Version). is_before v.at at ≡ true) (versions_at store place)
before_versions node at store op place kept role next own =
    has_before place node.stable node.log (entry_at at op None) (versions_at store place) (newest_past node at op None kept.sound next) (next_unstable node at kept.sound role next) own (whole_versions node store kept role place)

-- and before a slot of its own writer
pub before_slot : (node : Node) (store : Store) (writer : ℕ) (at : OpTime) (op : Op) (place : Place) → IsKept node store → HasOpen node.writers writer at op → place_of op ≡ Some place
    → All (λ (v : Version). is_before v.at at ≡ true) (versions_at store place)
before_slot node store writer at op place kept opens own =
    let pending = kept.writers.pending writer at op opens in
    has_before place node.stable node.log (slot_entry at op) (versions_at store place) pending.newest pending.unstable own
    (whole_versions node store kept (writing_primary node writer kept.sound (at, op, opens)) place)

-- a timestamp past the greatest one seen is then the greatest
pub raised_to : (seen ts : ℕ) → seen < ts → max seen ts ≡ ts
raised_to seen ts past = omega (arith, past)

-- what an op owes that opens a slot
pub new_open : (node : Node) (at : OpTime) (op : Op) (place : Place) → node.role ≡ Primary → MayWriteAt node at → IsLawfulOp op → IsWithinEntry (entry_at at op None) → place_of op ≡ Some place
    → IsSmall (document_after op (get (docs node.log) place)) → IsNew node at op None
new_open node at op place role next lawful within own small = new_write node at op None place (document_after op (get (docs node.log) place)) role next lawful tt within own refl small

-- a slot that wasn't opened leaves all as it was, once its writer is put back
pub kept_put_back : (writable : Bool) (log : List Entry) (reserved again : Reserved) (writers back : Writers) (applied stable : OpTime) (store later : Store)
    → IsKept (data_node writable log reserved.slots writers reserved.mark applied stable) store → again ≡ reserved → back ≡ writers → later.count ≡ store.count → ((p : Place) → past_at later p ≡ past_at store p)
    → IsKept (data_node writable log again.slots back again.mark applied stable) later
kept_put_back writable log reserved again writers back applied stable store later kept slots put count same =
    subst (λ (r : Reserved). IsKept (data_node writable log r.slots back r.mark applied stable) later) (sym slots)
    (subst (λ (w : Writers). IsKept (data_node writable log reserved.slots w reserved.mark applied stable) later) (sym put)
    (kept_same (data_node writable log reserved.slots writers reserved.mark applied stable) store later kept count same))

-- and one that was opened
pub kept_slot_opened : (writable : Bool) (log again : List Entry) (reserved next : Reserved) (writers with_writer : Writers) (applied stable at : OpTime) (store later : Store) (number : ℕ) (writer : Writer) (op : Op) (place : Place)
    → IsKept (data_node writable log reserved.slots writers reserved.mark applied stable) store
    → IsNew (data_node writable log reserved.slots writers reserved.mark applied stable) at op None → place_of op ≡ Some place
    → holder_among (entries writers) place ≡ None → ¬ (IsWriting writers number)
    → again ≡ log → next ≡ opened_slot reserved at → with_writer ≡ insert writers number writer → writer ≡ Open at op
    → Changes store later place (held_by (past_at store place) (Some number))
    → IsKept (data_node writable again next.slots with_writer next.mark applied stable) later
kept_slot_opened writable log again reserved next writers with_writer applied stable at store later number writer op place kept new own free closed same slots put opens changes =
    let after = opened_slot reserved at in
    let all : with_writer ≡ insert writers number (Open at op) = put ∙ ap (insert writers number) opens in
    subst (λ (l : List Entry). IsKept (data_node writable l next.slots with_writer next.mark applied stable) later) (sym same)
    (subst (λ (r : Reserved). IsKept (data_node writable log r.slots with_writer r.mark applied stable) later) (sym slots)
    (subst (λ (w : Writers). IsKept (data_node writable log after.slots w after.mark applied stable) later) (sym all)
    (kept_opened (data_node writable log reserved.slots writers reserved.mark applied stable) at store later number op place kept new own free closed changes)))

-- what a primary shows is what its whole log leaves
pub whole_documents : (node : Node) → node.role ≡ Primary → local_documents node ≡ docs node.log
whole_documents node primary = ap docs (shown_whole node.role node.log (log_up_to node.applied node.log) primary)
