-- What a node's two disks have while they are opened again, and what is then known of what was in doubt.
use Rattle.std.proofs.Common.{◌≡◌, ◌∙◌, ⊎_elim, inl, inr, ap, sym, subst, refl, ℕ, ◌+◌, Bool, true, false, nat_lt, List, [], ◌∷◌, ◌++◌, Option, Some, None, Ok, Err, IfSome, length, length-append, arith}
use Rattle.std.specs.Prelude.{◌⊎◌, ◌↔◌}
use Rattle.rs_disk.specs.File.{LeavesOnly, contents}
use Rattle.rs_disk.specs.Images.{read_is_image}
use Rattle.rs_disk.specs.Moments.{EachMoment, starts, weakens}
use Rattle.rs_disk.specs.State.{State, Keeps, SameButRoom}
use Rattle.record_file.specs.Files.{OpensBy}
use Rattle.record_file.specs.declared.error.FileError.TheVariants.{Memory}
use Rattle.record_file.proofs.OpenLemmas.{opened_calls}
use Rattle.rs_optime.specs.Later.{same_optime}
use Rattle.rs_optime.specs.declared.optime.OpTime.{OpTime}
use Rattle.oplog_entry.specs.Docs.{docs}
use Rattle.repl_msg.specs.Kept.{kept}
use Rattle.repl_msg.specs.declared.record.Kept.{Kept}
use Rattle.repl_msg.specs.declared.record.Record.{Record}
use Rattle.repl_msg.proofs.HasLemmas.{same_is, same_itself}
use Rattle.node_journal.specs.Files.{HasJournal, IsAtRest as JournalAtRest, IsOneOf as IsOneJournal}
use Rattle.node_journal.proofs.ApartLemmas.{one_journal}
use Rattle.node_journal.proofs.DiskLemmas.{kept_count, rest_reserved}
use Rattle.checkpoint_store.specs.Files.{HasCheckpoint, IsAtRest as CheckpointsAtRest, IsCheckpointDisk, IsOneOf as IsOneCheckpoint}
use Rattle.checkpoint_store.specs.declared.stable.Stable.{Stable}
use Rattle.checkpoint_store.proofs.OnceLemmas.{checkpoint_once}
use Rattle.set_model.specs.declared.store.Store.{Store}
use Rattle.set_model.specs.declared.store.Store.TheVariants as stores
use Rattle.set_model.specs.Disk.{settled_doubt}
use Rattle.set_model.specs.Node.{Node}
use Rattle.set_model.specs.Stores.{stored}
use Rattle.node_core.specs.Acting.{AreReopened, IsThere, RunsWithoutOrders}
use Rattle.node_core.specs.Coming.{IsFound, IsRead, is_there, settled}
use Rattle.node_core.specs.Down.{DownState, down_node}
use Rattle.node_core.specs.Opening.{ReopensInTurn}
use Rattle.node_core.specs.OnDisks.{IsOnDisks, IsWellKeptWith, DownOnDisks, UpOnDisks}
use Rattle.node_core.specs.Stands.{HasDocumentsOf, HasRecordsOf, Stands, documents_at}
use Rattle.node_core.specs.declared.coming_up.Found.{Found}
use Rattle.node_state.specs.WellKept.{IsWellKept}
use Rattle.node_core.proofs.PuttingLemmas.{runs_as, runs_checkpoints, runs_journal, runs_reserved, runs_then}

-- ---- disks that can be opened

pub stands_checkpoints : (node : Node) (j c : State) → Stands node j c → IsCheckpointDisk c
stands_checkpoints node j c stands = record {
  leaves = λ image left. ⊎_elim (λ has. (documents_at node node.stable, has)) (λ other. (documents_at node other.0, other.2)) (stands.documents image left);
}

-- ---- an opening, also one that failed, leaves what was there

records_opened : (node : Node) (old new : State) → LeavesOnly (HasRecordsOf node) old.file → EachMoment (IsOneJournal old) old new → LeavesOnly (HasRecordsOf node) new.file
records_opened node old new before moments image left =
    let one = moments.now image left in
    let same : (items : List Record) → HasJournal one.2.0 items → HasJournal image items =
    λ items has. subst (λ (l : List Record). HasJournal image l) (one_journal one.2.0 one.0 items one.2.2 has) one.1 in
    ⊎_elim (λ here. inl (same node.records here)) (λ more. inr (more.0, more.1, same (node.records ++ more.0 ∷ []) more.2)) (before one.2.0 one.2.1)

pub documents_since : (node : Node) (old new : State) → LeavesOnly (HasDocumentsOf node) old.file → EachMoment (IsOneCheckpoint old) old new → EachMoment (HasDocumentsOf node) old new
documents_since node old new before moments = weakens (IsOneCheckpoint old) (HasDocumentsOf node) still old new moments
  where
    still : (image : List ℕ) → IsOneCheckpoint old image → HasDocumentsOf node image
    still image one =
        let same : (stable : Stable) → HasCheckpoint one.2.0 stable → HasCheckpoint image stable =
        λ stable has. subst (λ (s : Stable). HasCheckpoint image s) (checkpoint_once one.2.0 one.0 stable one.2.2 has) one.1 in
        ⊎_elim (λ here. inl (same (documents_at node node.stable) here)) (λ other. inr (other.0, other.1, same (documents_at node other.0) other.2)) (before one.2.0 one.2.1)

module _ (node : Node) (j j' c : State) (stands : Stands node j c) where
  pub stands_opened : EachMoment (IsOneJournal j) j j' → Stands node j' c
  stands_opened moments = record { records = records_opened node j j' stands.records moments; documents = stands.documents }

  pub stands_reserved : SameButRoom j j' → Stands node j' c
  stands_reserved same =
      record { records = subst (λ (s : State). LeavesOnly (HasRecordsOf node) s.file) (sym same) stands.records; documents = stands.documents }

pub stands_both : (node : Node) (j j' c c' : State) → EachMoment (IsOneJournal j) j j' → EachMoment (IsOneCheckpoint c) c c' → Stands node j c → Stands node j' c'
stands_both node j j' c c' moments others stands =
    record { records = records_opened node j j' stands.records moments; documents = (documents_since node c c' stands.documents others).now }

-- so at each moment they were a disk's that might have been the one before
pub unopened : (c : State) → IsCheckpointDisk c → EachMoment (IsOneCheckpoint c) c c
unopened c is = starts (IsOneCheckpoint c) c (λ image left. let has = is.leaves image left in (has.0, has.1, (image, left, has.1)))

pub then_reserved : (P : List ℕ → Type 0) (old mid new : State) → EachMoment P old mid → SameButRoom mid new → EachMoment P old new
then_reserved P old mid new moments same =
    subst (λ (s : State). EachMoment P old s) (sym same) (record { since = moments.since; passed = moments.passed; left = moments.left; now = moments.now })

-- the calls of an opening after which room was taken
pub calls_reserved : (old mid new : State) → OpensBy {T = Unit {0}} (Ok tt) old mid → SameButRoom mid new → OpensBy {T = Unit {0}} (Ok tt) old new
calls_reserved old mid new calls same =
    subst (λ (s : State). OpensBy {T = Unit {0}} (Ok tt) old s) (sym same) (calls.0, calls.1, record { file = calls.2.file; past = calls.2.past })

-- both disks were opened, and then memory ran out
pub opened_both : (j j' c c' : State) → ReopensInTurn {T = Unit {0}} (Ok tt) j j' c c' → ReopensInTurn {T = Unit {0}} (Err Memory) j j' c c'
opened_both j j' c c' calls = inr (calls.0, opened_calls {X = Unit {0}} (Err Memory) c c' refl calls.1)

pub reopened : {Fault : Type 0} (j j' c c' : State) → ReopensInTurn {T = Unit {0}} (Err Memory) j j' c c' → RunsWithoutOrders Fault j j' c c' → EachMoment (IsOneJournal j) j j' → EachMoment (IsOneCheckpoint c) c c' → AreReopened j j' c c'
reopened j j' c c' calls runs journal checkpoints = record { calls = calls; runs = runs_as j j' c c' (λ none. absurd none) runs; journal = journal; checkpoints = checkpoints }

-- both were read, and memory for a record was taken
pub read_both : (found : Found) (j j1 j2 c c' : State) → SameButRoom j1 j2 → ((items : List Record) → HasJournal (contents j.file) items → found.kept ≡ kept items)
    → ((items : List Record) → HasJournal (contents j.file) items → JournalAtRest j1 items) → HasCheckpoint (contents c.file) found.stable → CheckpointsAtRest c' found.stable → IsRead found j j2 c c'
read_both found j j1 j2 c c' same kept rests stable checkpoints =
    record { kept_is = kept; journal = λ items has. rest_reserved j1 j2 items same (rests items has); stable_is = stable; checkpoints = checkpoints }

-- it caused no fault
pub runs_opened : {F G : Type 0} (H : Type 0) (j j1 j2 c c' : State) → (H → ⊥) → Keeps F j j1 → Keeps G c c' → SameButRoom j1 j2 → RunsWithoutOrders H j j2 c c'
runs_opened {F} {G} H j j1 j2 c c' none journal checkpoints same =
    runs_then {F = ⊥} {G = ⊥} {H = H} j j1 j2 c c' c' (λ fault. absurd (none fault))
    (runs_then {F = F} {G = G} {H = ⊥} j j1 j1 c c c' (λ fault. absurd fault) (runs_journal j j1 c journal) (runs_checkpoints j1 c c' checkpoints))
    (runs_reserved j1 j2 c' same)

-- ---- what was in doubt is there, or it isn't

same_record : (one two : Record) → Some (stores.Record one) ≡ Some (stores.Record two) → one ≡ two
same_record one two same = cc

same_checkpoint : (one two : OpTime) → Some (stores.Checkpoint one) ≡ Some (stores.Checkpoint two) → one ≡ two
same_checkpoint one two same = cc

pub not_none : (item : Store) → None ≡ Some item → ⊥
not_none item same = cc

not_so : false ≡ true → ⊥
not_so same = cc

not_both : (item : Record) (at : OpTime) → Some (stores.Record item) ≡ Some (stores.Checkpoint at) → ⊥
not_both item at same = cc

no_more : (n m : ℕ) → n ≡ m → nat_lt n m ≡ false
no_more n m same = grind arith

one_more : (n m : ℕ) → n + 1 ≡ m → nat_lt n m ≡ true
one_more n m same = grind arith

module _ (node : Node) (count : ℕ) (j j' c c' : State) (found : Found) (lies : DownOnDisks node count j c) (read : IsRead found j j' c c') where
  -- this is what the node keeps
  abbrev Settles : Node → Type 0
  Settles n = IsFound n found × UpOnDisks n found.kept.count j' c'

  counted_so : (items : List Record) → HasJournal (contents j.file) items → found.kept.count ≡ length items
  counted_so items has = ap (λ (k : Kept). k.count) (read.kept_is items has) ∙ kept_count items

  settles : (n : Node) → HasJournal (contents j.file) n.records → found.stable ≡ documents_at n n.stable → IsWellKept n.records n.stable → Settles n
  settles n has stable well = (
    record { kept_is = read.kept_is n.records has; stable_is = stable; well = well },
    record {
      counted = counted_so n.records has;
      records = read.journal n.records has;
      documents = subst (λ (s : Stable). CheckpointsAtRest c' s) stable read.checkpoints;
    },
  )

  -- no record is in doubt
  only_records : ((item : Record) → node.doubt ≡ Some (stores.Record item) → ⊥) → HasJournal (contents j.file) node.records
  only_records none = ⊎_elim (λ has. has) (λ more. absurd (none more.0 more.1)) (lies.stands.records (contents j.file) (read_is_image j.file))

  is_read : (stable : Stable) → HasCheckpoint (contents c.file) stable → found.stable ≡ stable
  is_read stable has = checkpoint_once (contents c.file) found.stable stable read.stable_is has

  -- no checkpoint is in doubt
  only_documents : ((at : OpTime) → node.doubt ≡ Some (stores.Checkpoint at) → ⊥) → found.stable ≡ documents_at node node.stable
  only_documents none =
      ⊎_elim (λ has. is_read (documents_at node node.stable) has) (λ other. absurd (none other.0 other.1)) (lies.stands.documents (contents c.file) (read_is_image c.file))

  with_doubt : (item : Store) → node.doubt ≡ Some item → IsWellKeptWith node item
  with_doubt item is = subst (λ (d : Option Store). IfSome d (λ s. IsWellKeptWith node s)) is lies.doubtful

  longer : (item : Record) → HasJournal (contents j.file) (node.records ++ item ∷ []) → count + 1 ≡ found.kept.count
  longer item has = omega (arith, lies.counted, counted_so (node.records ++ item ∷ []) has, length-append node.records (item ∷ []))

  -- a record is in doubt
  record_settles : (item : Record) → node.doubt ≡ Some (stores.Record item) → Settles (settled_doubt node (Some (stores.Record item)) (is_there (Some (stores.Record item)) count found))
  record_settles item is =
      let stable : found.stable ≡ documents_at node node.stable = only_documents (λ at other. not_both item at (sym is ∙ other)) in
      let well = with_doubt (stores.Record item) is in
      ⊎_elim
      (λ has. subst (λ (b : Bool). Settles (settled_doubt node (Some (stores.Record item)) b)) (sym (no_more count found.kept.count (lies.counted ∙ sym (counted_so node.records has))))
      (settles (record node { doubt = None }) has stable lies.well))
      (λ more.
      let has : HasJournal (contents j.file) (node.records ++ item ∷ []) =
      subst (λ (r : Record). HasJournal (contents j.file) (node.records ++ r ∷ [])) (same_record more.0 item (sym more.1 ∙ is)) more.2 in
      subst (λ (b : Bool). Settles (settled_doubt node (Some (stores.Record item)) b)) (sym (one_more count found.kept.count (longer item has)))
      (settles (record (stored node (stores.Record item)) { doubt = None }) has
      (stable ∙ (λ i. record { at = node.stable; documents = docs (sym well.1 i) })) well.0))
      (lies.stands.records (contents j.file) (read_is_image j.file))

  -- what was read is the checkpoint before, or the new one
  either : (at : OpTime) → node.doubt ≡ Some (stores.Checkpoint at) → (found.stable ≡ documents_at node node.stable) ⊎ (found.stable ≡ documents_at node at)
  either at is = ⊎_elim
      (λ old. inl (is_read (documents_at node node.stable) old))
      (λ other. inr (is_read (documents_at node at) (subst (λ (o : OpTime). HasCheckpoint (contents c.file) (documents_at node o)) (same_checkpoint other.0 at (sym other.1 ∙ is)) other.2)))
      (lies.stands.documents (contents c.file) (read_is_image c.file))

  -- it is the new one, if it has its optime
  new_there : (at : OpTime) → node.doubt ≡ Some (stores.Checkpoint at) → found.stable.at ≡ at → found.stable ≡ documents_at node at
  new_there at is found_at =
      ⊎_elim (λ old. old ∙ ap (λ (o : OpTime). documents_at node o) (sym (ap (λ (s : Stable). s.at) old) ∙ found_at)) (λ new. new) (either at is)

  at_there : (at : OpTime) → found.stable ≡ documents_at node at → same_optime found.stable.at at ≡ true
  at_there at new = ap (λ (s : Stable). same_optime s.at at) new ∙ same_itself at

  -- a checkpoint is in doubt
  checkpoint_settles : (at : OpTime) → node.doubt ≡ Some (stores.Checkpoint at) → Settles (settled_doubt node (Some (stores.Checkpoint at)) (is_there (Some (stores.Checkpoint at)) count found))
  checkpoint_settles at is = go (same_optime found.stable.at at) refl
    where
      has : HasJournal (contents j.file) node.records
      has = only_records (λ item other. not_both item at (sym other ∙ is))

      go : (b : Bool) → same_optime found.stable.at at ≡ b → Settles (settled_doubt node (Some (stores.Checkpoint at)) b)
      go true same =
          let found_at : found.stable.at ≡ at = same_is found.stable.at at same in
          settles (record (stored node (stores.Checkpoint at)) { doubt = None }) has
          (new_there at is found_at)
          (with_doubt (stores.Checkpoint at) is).0
      go false other =
          settles (record node { doubt = None }) has
          (⊎_elim (λ old. old) (λ new. absurd (not_so (sym other ∙ at_there at new))) (either at is))
          lies.well

  -- by what was found the node is settled
  pub found_settles : IsFound (settled node count found) found × UpOnDisks (settled node count found) found.kept.count j' c'
  found_settles = go node.doubt refl
    where
      go : (d : Option Store) → node.doubt ≡ d → Settles (settled_doubt node d (is_there d count found))
      go None is =
          settles node (only_records (λ item other. not_none (stores.Record item) (sym is ∙ other)))
          (only_documents (λ at other. not_none (stores.Checkpoint at) (sym is ∙ other))) lies.well
      go (Some (stores.Record item)) is = record_settles item is
      go (Some (stores.Checkpoint at)) is = checkpoint_settles at is

  -- and what was in doubt is told to be there exactly where it is
  record_there : (item : Record) → node.doubt ≡ Some (stores.Record item) → (nat_lt count found.kept.count ≡ true ↔ HasJournal (contents j.file) (node.records ++ item ∷ []))
  record_there item is = (
    λ more. ⊎_elim
        (λ has. absurd (not_so (sym (no_more count found.kept.count (lies.counted ∙ sym (counted_so node.records has))) ∙ more)))
        (λ new. subst (λ (r : Record). HasJournal (contents j.file) (node.records ++ r ∷ [])) (same_record new.0 item (sym new.1 ∙ is)) new.2)
        (lies.stands.records (contents j.file) (read_is_image j.file)),
    λ has. one_more count found.kept.count (longer item has),
  )

  checkpoint_there : (at : OpTime) → node.doubt ≡ Some (stores.Checkpoint at) → (same_optime found.stable.at at ≡ true ↔ HasCheckpoint (contents c.file) (documents_at node at))
  checkpoint_there at is = (
    λ same. subst (λ (s : Stable). HasCheckpoint (contents c.file) s) (new_there at is (same_is found.stable.at at same)) read.stable_is,
    λ has. at_there at (is_read (documents_at node at) has),
  )

  pub found_there : IfSome node.doubt (λ item. is_there node.doubt count found ≡ true ↔ IsThere node item j c)
  found_there = go node.doubt refl
    where
      go : (d : Option Store) → node.doubt ≡ d → IfSome d (λ item. is_there d count found ≡ true ↔ IsThere node item j c)
      go None is = tt
      go (Some (stores.Record item)) is = record_there item is
      go (Some (stores.Checkpoint at)) is = checkpoint_there at is

-- ---- a node that comes up, or stays as it was

-- it is ready for that
pub goes_up : (old new : Node) (count more : ℕ) (found : Found) (j j' c c' : State) → DownOnDisks old count j c → IsRead found j j' c c' → new ≡ settled old count found
    → more ≡ length new.records → IsWellKept new.records new.stable × UpOnDisks new more j' c'
goes_up old new count more found j j' c c' lies read is counted =
    let both = found_settles old count j j' c c' found lies read in
    subst (λ (n : Node). more ≡ length n.records → IsWellKept n.records n.stable × UpOnDisks n more j' c') (sym is)
    (λ long. (both.0.well, record { counted = long; records = both.1.records; documents = both.1.documents })) counted

-- it still lies there
pub lies_on : (up : Bool) (node : Node) (left : DownState) (count more : ℕ) (j j' c c' : State) → up ≡ false → more ≡ count → DownOnDisks (down_node node left) count j c
    → Stands (down_node node left) j' c' → IsOnDisks up node left more j' c'
lies_on up node left count more j j' c c' down same lies stands =
    subst (λ (b : Bool). IsOnDisks b node left more j' c') (sym down)
    (record { counted = same ∙ lies.counted; stands = stands; well = lies.well; doubtful = lies.doubtful })
