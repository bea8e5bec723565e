-- A node when the set begins, on two empty disks.
use Rattle.std.proofs.Common.{◌≡◌, ◌∙◌, ⊎_elim, Err, inl, inr, ap, sym, subst, refl, ℕ, List, [], length, arith, true}
use Rattle.rs_disk.specs.File.{IsEmpty, LeavesOnly, contents}
use Rattle.rs_disk.specs.Moments.{EachMoment, starts, weakens}
use Rattle.rs_disk.specs.State.{State}
use Rattle.record_file.specs.Files.{first_steps}
use Rattle.record_file.specs.declared.error.FileError.TheVariants.{Memory}
use Rattle.repl_msg.specs.Kept.{NEWEST_FORM, kept}
use Rattle.repl_msg.specs.declared.record.Kept.{Kept}
use Rattle.repl_msg.specs.declared.record.Record.{Record}
use Rattle.repl_msg.specs.declared.record.Record.TheVariants as records
use Rattle.member_config.specs.declared.config.Config.{Config}
use Rattle.node_journal.specs.Files.{HasJournal, IsAtRest as JournalAtRest, IsOneOfRenewed, IsThemOrRenewed, MayHave, OpensInForm}
use Rattle.node_journal.specs.Renewed.{renewed}
use Rattle.node_journal.proofs.ApartLemmas.{one_journal}
use Rattle.checkpoint_store.specs.Checkpoint.{no_stable}
use Rattle.checkpoint_store.specs.Files.{HasCheckpoint, IsAtRest as CheckpointsAtRest, IsOneOf as IsOneCheckpoint}
use Rattle.checkpoint_store.specs.declared.stable.Stable.{Stable}
use Rattle.checkpoint_store.proofs.OnceLemmas.{checkpoint_once}
use Rattle.set_model.specs.declared.store.Store.TheVariants as stores
use Rattle.set_model.specs.Node.{Node, opening_node}
use Rattle.node_core.specs.Opening.{unopened_node}
use Rattle.node_core.specs.OnDisks.{UpOnDisks}
use Rattle.node_core.specs.Stands.{HasDocumentsOf, HasRecordsOf, Stands, StandsSince}
use Rattle.node_core.proofs.ReopeningLemmas.{documents_since, not_none}

-- no bytes are no records
no_records : (image : List ℕ) → image ≡ [] → HasJournal image []
no_records image none = record { pieces = []; spelled = tt; has = inl (omega (arith, ap length none), refl) }

-- and no checkpoint
no_checkpoint : (image : List ℕ) → image ≡ [] → HasCheckpoint image no_stable
no_checkpoint image none = record {
  records = [];
  list = record { each = λ k d within. absurd (omega arith); has = inl (omega (arith, ap length none), refl) };
  last = refl;
}

pub empty_journal : (state : State) → IsEmpty state.file → HasJournal (contents state.file) []
empty_journal state empty = no_records (contents state.file) empty.reads

pub empty_checkpoint : (state : State) → IsEmpty state.file → HasCheckpoint (contents state.file) no_stable
empty_checkpoint state empty = no_checkpoint (contents state.file) empty.reads

-- an opening that is out of memory before its first call
pub unopened_empty : (state : State) → IsEmpty state.file → OpensInForm {T = Unit {0}} true (Err Memory) state state
unopened_empty state empty =
    inl (refl, (first_steps, inl (omega (arith, ap length empty.reads), refl), ([], first_steps, refl, record { file = refl; past = refl })))

-- ---- what stands there while the node is opened

module _ (config : Config) (number : ℕ) (j j' c c' : State) (first : IsEmpty j.file) (second : IsEmpty c.file) where
  abbrev unopened : Node
  unopened = unopened_node config number

  empty_records : LeavesOnly (HasRecordsOf unopened) j.file
  empty_records image left = inl (no_records image (first.leaves image left))

  empty_documents : LeavesOnly (HasDocumentsOf unopened) c.file
  empty_documents image left = inl (no_checkpoint image (second.leaves image left))

  -- at each moment no record, or that of the form
  form_or_none : EachMoment (IsOneOfRenewed j) j j' → EachMoment (HasRecordsOf unopened) j j'
  form_or_none moments = weakens (IsOneOfRenewed j) (HasRecordsOf unopened) by_records j j' moments
    where
      none : (items : List Record) → MayHave j items → items ≡ []
      none items (image, is, has) = one_journal image items [] has (no_records image (first.leaves image is))

      by_form : (image : List ℕ) → IsThemOrRenewed [] image → HasRecordsOf unopened image
      by_form image (inl without) = inl without
      by_form image (inr with_it) = inr (records.Form NEWEST_FORM, refl, with_it)

      by_records : (image : List ℕ) → IsOneOfRenewed j image → HasRecordsOf unopened image
      by_records image (items, may, them) =
          by_form image (subst (λ (l : List Record). IsThemOrRenewed l image) (none items may) them)

  pub none_begun : StandsSince unopened j j c c
  none_begun = record { records = starts (HasRecordsOf unopened) j empty_records; documents = starts (HasDocumentsOf unopened) c empty_documents }

  pub journal_begun : EachMoment (IsOneOfRenewed j) j j' → StandsSince unopened j j' c c
  journal_begun moments = record { records = form_or_none moments; documents = starts (HasDocumentsOf unopened) c empty_documents }

  pub both_begun : EachMoment (IsOneOfRenewed j) j j' → EachMoment (IsOneCheckpoint c) c c' → StandsSince unopened j j' c c'
  both_begun moments others = record { records = form_or_none moments; documents = documents_since unopened c c' empty_documents others }

-- and so it stands there still
pub stands_now : (node : Node) (j j' c c' : State) → StandsSince node j j' c c' → Stands node j' c'
stands_now node j j' c c' since = record { records = since.records.now; documents = since.documents.now }

-- with its form too
pub still_unopened : (config : Config) (number : ℕ) (j c : State) → Stands (opening_node config number) j c → Stands (unopened_node config number) j c
still_unopened config number j c stands = record {
  records = λ image left. ⊎_elim (λ has. inr (records.Form NEWEST_FORM, refl, has)) (λ more. absurd (not_none (stores.Record more.0) more.1)) (stands.records image left);
  documents = λ image left. ⊎_elim inl (λ other. absurd (not_none (stores.Checkpoint other.0) other.1)) (stands.documents image left);
}

-- on two empty disks stands a node that wasn't opened
pub empty_stands : (config : Config) (number : ℕ) (j c : State) → IsEmpty j.file → IsEmpty c.file → Stands (unopened_node config number) j c
empty_stands config number j c first second =
    stands_now (unopened_node config number) j j c c (none_begun config number j j c c first second)

-- ---- it is open

pub opens_rested : (config : Config) (number : ℕ) (node : Node) (read : Kept) (count : ℕ) (j c c' : State) (stable : Stable) → node ≡ opening_node config number
    → read ≡ kept (renewed []) → count ≡ read.count → JournalAtRest j (renewed []) → IsEmpty c.file → HasCheckpoint (contents c.file) stable → CheckpointsAtRest c' stable
    → UpOnDisks node count j c'
opens_rested config number node read count j c c' stable is read_is counted records empty has documents =
    subst (λ (n : Node). UpOnDisks n count j c') (sym is) (record {
      counted = counted ∙ ap (λ (k : Kept). k.count) read_is;
      records = records;
      documents = subst (λ (s : Stable). CheckpointsAtRest c' s) (checkpoint_once (contents c.file) stable no_stable has (empty_checkpoint c empty)) documents;
    })
