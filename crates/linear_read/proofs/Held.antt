-- What is true of each entry that a node has in its log and on its journal, and what the changes of a node leave of it.
use Rattle.std.proofs.Common.{◌≡◌, ◌⊎◌, inl, inr, subst, refl, ℕ, zero, suc, Bool, true, fold, filter, take, Option, None, Some, List, [], ◌∷◌, ◌++◌}
use Rattle.std.specs.Prelude.{⊤, IfSome}
use Rattle.std.specs.FinMap as maps
use Rattle.std.specs.Ordering.{nat_cmp}
use Rattle.rs_optime.specs.Order.{is_before}
use Rattle.rs_optime.specs.declared.optime.OpTime.{OpTime}
use Rattle.rs_optime.specs.Membership.{In}
use Rattle.rs_optime.proofs.MembershipLemmas.{in_filter, in_take}
use Rattle.oplog_entry.specs.Visible.{least, entries_before}
use Rattle.oplog_entry.specs.declared.entry.Entry.{Entry}
use Rattle.oplog_entry.specs.declared.entry.Op.{Op}
use Rattle.oplog_store.specs.Log.{with_entry}
use Rattle.repl_msg.specs.Kept.{nothing_kept, with_record, kept}
use Rattle.repl_msg.specs.Parts.{entries_carried}
use Rattle.repl_msg.specs.declared.message.Body.{Body}
use Rattle.repl_msg.specs.declared.message.Message.{Message}
use Rattle.repl_msg.specs.declared.record.Kept.{Kept}
use Rattle.repl_msg.specs.declared.record.Record.{Record}
use Rattle.repl_msg.specs.declared.record.Record.TheVariants as records
use Rattle.set_model.specs.declared.reply.Reply.{Reply}
use Rattle.set_model.specs.declared.role.Role.{Role}
use Rattle.set_model.specs.declared.role.Role.TheVariants as roles
use Rattle.set_model.specs.declared.store.Store.{Store}
use Rattle.set_model.specs.declared.store.Store.TheVariants as stores
use Rattle.set_model.specs.declared.writer.Writer.{Writer}
use Rattle.set_model.specs.declared.writer.Writer.TheVariants as writers
use Rattle.set_model.specs.Changes.{all_lost}
use Rattle.set_model.specs.Node.{Node, down}
use Rattle.set_model.specs.Outcome.{Outcome, replied, sending, message_to}
use Rattle.set_model.specs.Points.{visible_log}
use Rattle.set_model.specs.Roles.{is_leading}
use Rattle.set_model.specs.Stores.{Plan, finished, storing, done, in_doubt, stored}
use Rattle.set_model.proofs.LostLemmas.{none_open}
use Rattle.commit_machine.proofs.Growth.{in_append}
use Rattle.safety_laws.proofs.Merges.{in_entry, in_entries}
use Rattle.safety_laws.proofs.Opening.{no_writer}
use Rattle.safety_laws.proofs.Slots.{open_with, open_without}

-- ---- of entries, records and nodes

abbrev pub AreSuch : (Entry → Type 0) → List Entry → Type 0
AreSuch P entries = (entry : Entry) → In entry entries → P entry

-- of the log; and an open slot is a primary's, in its term
pub record HasLog (P : Entry → Type 0) (term : ℕ) (role : Role) (log : List Entry) (open_ones : maps.FinMap nat_cmp Writer) : Type 0 where
  pub such : AreSuch P log
  pub slots : (number : ℕ) (at : OpTime) (op : Op) → maps.get open_ones number ≡ Some (writers.Open at op) → (role ≡ roles.Primary) × (at.term ≡ term)

abbrev pub RecordHas : (Entry → Type 0) → Record → Type 0
RecordHas P (records.Vote vote) = ⊤
RecordHas P (records.Config config) = ⊤
RecordHas P (records.Entries list point) = AreSuch P list
RecordHas P (records.Cut at) = ⊤
RecordHas P (records.Form form) = ⊤

abbrev pub StoreHas : (Entry → Type 0) → Store → Type 0
StoreHas P (stores.Record item) = RecordHas P item
StoreHas P (stores.Checkpoint at) = ⊤

-- what is on the journal, or may be
pub record HasDisks (P : Entry → Type 0) (items : List Record) (doubt : Option Store) : Type 0 where
  pub each : (item : Record) → In item items → RecordHas P item
  pub doubted : IfSome doubt (StoreHas P)

abbrev pub Holds : (Entry → Type 0) → Node → Type 0
Holds P node = HasLog P node.term node.role node.log node.writers × HasDisks P node.records node.doubt

-- ---- more is true

module _ (P Q : Entry → Type 0) (more : (entry : Entry) → P entry → Q entry) where
  pub such_more : (entries : List Entry) → AreSuch P entries → AreSuch Q entries
  such_more entries such entry there = more entry (such entry there)

  record_more : (item : Record) → RecordHas P item → RecordHas Q item
  record_more (records.Vote vote) has = has
  record_more (records.Config config) has = has
  record_more (records.Entries list point) has = such_more list has
  record_more (records.Cut at) has = has
  record_more (records.Form form) has = has

  doubt_more : (doubt : Option Store) → IfSome doubt (StoreHas P) → IfSome doubt (StoreHas Q)
  doubt_more None has = has
  doubt_more (Some (stores.Record item)) has = record_more item has
  doubt_more (Some (stores.Checkpoint at)) has = has

  pub disks_more : (items : List Record) (doubt : Option Store) → HasDisks P items doubt → HasDisks Q items doubt
  disks_more items doubt has = record { each = λ item there. record_more item (has.each item there); doubted = doubt_more doubt has.doubted }

  pub holds_more : (node : Node) → Holds P node → Holds Q node
  holds_more node has = (record { such = such_more node.log has.0.such; slots = has.0.slots }, disks_more node.records node.doubt has.1)

-- ---- outcomes and plans

-- a node that led in the entry's term, and leads in it still, has this entry more in its log
pub record Writes (old new : Node) (entry : Entry) : Type 0 where
  pub up : old.up ≡ true
  pub leads : is_leading old.role ≡ true
  pub term : old.term ≡ entry.optime.term
  pub up_still : new.up ≡ true
  pub leads_still : is_leading new.role ≡ true
  pub term_still : new.term ≡ entry.optime.term
  pub more : new.log ≡ with_entry old.log entry

abbrev pub OrWritten : (Entry → Type 0) → Node → Node → Entry → Type 0
OrWritten P old new entry = P entry ⊎ Writes old new entry

-- of a node as it was: what it then has, and what it sends
pub record Comes (P : Entry → Type 0) (old : Node) (outcome : Outcome) : Type 0 where
  pub node : Holds (OrWritten P old outcome.node) outcome.node
  pub sent : (message : Message) → In message outcome.sent → AreSuch P (entries_carried message.body)

abbrev pub PlanComes : (Entry → Type 0) → Node → Plan → Type 0
PlanComes P old (finished outcome) = Comes P old outcome
PlanComes P old (storing broken rest) = Holds P broken × PlanComes P old rest

module _ (P : Entry → Type 0) (old : Node) where
  -- nothing is written
  unwritten : (node : Node) → Holds P node → Holds (OrWritten P old node) node
  unwritten node has = holds_more P (OrWritten P old node) (λ entry such. inl such) node has

  -- nor sent
  pub quiet : (answer : Reply) (node : Node) → Holds P node → Comes P old (replied answer node)
  quiet answer node has = record { node = unwritten node has; sent = λ message there. absurd there }

  -- messages of such entries are sent
  pub sends : (answer : Reply) (node : Node) (sent : List Message) → Holds P node → ((message : Message) → In message sent → AreSuch P (entries_carried message.body))
      → Comes P old (record { reply = answer; node = node; sent = sent })
  sends answer node sent has such = record { node = unwritten node has; sent = such }

  -- one message
  pub says : (answer : Reply) (node : Node) (to : ℕ) (body : Body) → Holds P node → AreSuch P (entries_carried body) → Comes P old (sending answer node to body)
  says answer node to body has such = sends answer node (message_to node to body ∷ []) has
      (λ message there. elim there [
        | inl same ↦ subst (λ (m : Message). AreSuch P (entries_carried m.body)) same such
        | inr none ↦ absurd none
      ])

  pub comes_done : (plan : Plan) (failed : Option ℕ) → PlanComes P old plan → Comes P old (done plan failed)
  comes_done (finished outcome) failed comes = comes
  comes_done (storing broken rest) None comes = comes_done rest None comes.1
  comes_done (storing broken rest) (Some zero) comes = quiet _ broken comes.0
  comes_done (storing broken rest) (Some (suc number)) comes = comes_done rest (Some number) comes.1

-- ---- entries

module _ (P : Entry → Type 0) where
  pub filter_such : (test : Entry → Bool) (log : List Entry) → AreSuch P log → AreSuch P (filter test log)
  filter_such test log such entry there = such entry (in_filter test log entry there).0

  pub take_such : (many : ℕ) (log : List Entry) → AreSuch P log → AreSuch P (take many log)
  take_such many log such entry there = such entry (in_take many entry log there)

  pub append_such : (one two : List Entry) → AreSuch P one → AreSuch P two → AreSuch P (one ++ two)
  append_such one two first second entry there = elim (in_append entry one two there) [
    | inl before ↦ first entry before
    | inr after ↦ second entry after
  ]

  pub with_such : (log : List Entry) (added : Entry) → AreSuch P log → P added → AreSuch P (with_entry log added)
  with_such log added such new entry there = elim (in_entry entry log added there) [
    | inl before ↦ such entry before
    | inr same ↦ subst P same new
  ]

  pub visible_such : (node : Node) → AreSuch P node.log → AreSuch P (visible_log node)
  visible_such node such = go (least _)
    where
      go : (slot : Option OpTime) → AreSuch P (entries_before slot node.log)
      go None = such
      go (Some slot) = filter_such (λ entry. is_before entry.optime slot) node.log such

  -- ---- logs and slots

  opened_at : (one two : OpTime) (op other : Op) → writers.Open one op ≡ writers.Open two other → one ≡ two
  opened_at one two op other same = cc same

  -- a primary opens a slot in its term
  pub opened_has : (term : ℕ) (role : Role) (log : List Entry) (open_ones : maps.FinMap nat_cmp Writer) (writer : ℕ) (at : OpTime) (op : Op)
      → HasLog P term role log open_ones → role ≡ roles.Primary → at.term ≡ term → HasLog P term role log (maps.insert open_ones writer (writers.Open at op))
  opened_has term role log open_ones writer at op has primary own = record {
    such = has.such;
    slots = λ number by other there. elim (open_with open_ones writer number (writers.Open at op) by other there) [
      | inl same ↦ (primary, subst (λ (o : OpTime). o.term ≡ term) (opened_at at by op other same.1) own)
      | inr before ↦ has.slots number by other before.1
    ];
  }

  -- a slot is settled with its entry
  pub settled_has : (term : ℕ) (role : Role) (log : List Entry) (open_ones : maps.FinMap nat_cmp Writer) (writer : ℕ) (at : OpTime) (entry : Entry)
      → HasLog P term role log open_ones → P entry → HasLog P term role (with_entry log entry) (maps.insert open_ones writer (writers.Done at))
  settled_has term role log open_ones writer at entry has new = record {
    such = with_such log entry has.such new;
    slots = λ number by other there. elim (open_with open_ones writer number (writers.Done at) by other there) [
      | inl same ↦ absurd (cc same.1)
      | inr before ↦ has.slots number by other before.1
    ];
  }

  pub aborted_has : (term : ℕ) (role : Role) (log : List Entry) (open_ones : maps.FinMap nat_cmp Writer) (writer : ℕ)
      → HasLog P term role log open_ones → HasLog P term role log (maps.remove open_ones writer)
  aborted_has term role log open_ones writer has = record {
    such = has.such;
    slots = λ number by other there. has.slots number by other (open_without open_ones writer number by other there).1;
  }

  -- each open writer is lost
  pub lost_has : (term : ℕ) (role : Role) (log : List Entry) (open_ones : maps.FinMap nat_cmp Writer) → AreSuch P log
      → HasLog P term role log (maps.from_entries (all_lost (maps.entries open_ones)))
  lost_has term role log open_ones such = record { such = such; slots = λ number by other there. absurd (none_open (maps.entries open_ones) number by other there) }

  -- there is no writer
  pub closed_has : (term : ℕ) (role : Role) (log : List Entry) → AreSuch P log → HasLog P term role log maps.empty
  closed_has term role log such = record { such = such; slots = λ number at op there. no_writer number _ there }

  -- a node that isn't primary has no open slot, whatever its role is then
  pub other_role : (term : ℕ) (role other : Role) (log : List Entry) (open_ones : maps.FinMap nat_cmp Writer) → (role ≡ roles.Primary → ⊥)
      → HasLog P term role log open_ones → HasLog P term other log open_ones
  other_role term role other log open_ones apart has = record { such = has.such; slots = λ number at op there. absurd (apart (has.slots number at op there).0) }

  -- ---- disks

  pub with_item : (items : List Record) (doubt : Option Store) (item : Record) → HasDisks P items doubt → RecordHas P item → HasDisks P (items ++ item ∷ []) doubt
  with_item items doubt item has new = record {
    each = λ other there. elim (in_append other items (item ∷ []) there) [
      | inl before ↦ has.each other before
      | inr last ↦ elim last [ inl same ↦ subst (RecordHas P) same new | inr none ↦ absurd none ]
    ];
    doubted = has.doubted;
  }

  -- a store that stands
  pub stored_holds : (node : Node) (store : Store) → Holds P node → StoreHas P store → Holds P (stored node store)
  stored_holds node (stores.Record item) has new = (has.0, with_item node.records node.doubt item has.1 new)
  stored_holds node (stores.Checkpoint at) has new = has

  -- a node that goes down
  pub down_holds : (node : Node) → Holds P node → Holds P (down node)
  down_holds node has = (closed_has 0 roles.Secondary [] (λ entry there. absurd there), has.1)

  -- a store that fails
  pub doubt_holds : (node : Node) (store : Store) → Holds P node → StoreHas P store → Holds P (in_doubt node store)
  doubt_holds node store has new = ((down_holds node has).0, record { each = has.1.each; doubted = new })

  -- what the records give
  kept_with : (found : Kept) (item : Record) → AreSuch P found.entries → RecordHas P item → AreSuch P (with_record found item).entries
  kept_with found (records.Vote vote) such new = such
  kept_with found (records.Config config) such new = such
  kept_with found (records.Entries list point) such new = λ entry there. elim (in_entries entry found.entries list there) [
    | inl before ↦ such entry before
    | inr added ↦ new entry added
  ]
  kept_with found (records.Cut at) such new = filter_such _ found.entries such
  kept_with found (records.Form form) such new = such

  kept_from : (found : Kept) (items : List Record) → AreSuch P found.entries → ((item : Record) → In item items → RecordHas P item) → AreSuch P (fold with_record found items).entries
  kept_from found [] such each = such
  kept_from found (item ∷ items) such each = kept_from (with_record found item) items (kept_with found item such (each item (inl refl))) (λ other there. each other (inr there))

  pub kept_such : (items : List Record) (doubt : Option Store) → HasDisks P items doubt → AreSuch P (kept items).entries
  kept_such items doubt has = kept_from nothing_kept items (λ entry there. absurd there) has.each
