-- What is put on a node's disks: what they have then, and that no orders were given to them.
use Rattle.std.proofs.Common.{◌≡◌, ◌∙◌, ⊎_elim, inl, inr, ap, sym, subst, refl, ℕ, ◌+◌, List, [], ◌∷◌, ◌++◌, length, length-append, arith}
use Rattle.std.specs.Prelude.{◌⊎◌, ◌≤◌, Result, Ok, Err, OnOk}
use Rattle.std.specs.FinMap.{get}
use Rattle.bson_doc.specs.Place.{Place}
use Rattle.bson_codec.proofs.SpellingLemmas.{length-number_bytes}
use Rattle.rs_disk.specs.Moments.{EachMoment}
use Rattle.rs_disk.specs.State.{State, Keeps, SameButRoom}
use Rattle.rs_optime.specs.declared.optime.OpTime.{OpTime}
use Rattle.oplog_entry.specs.Docs.{Documents, docs}
use Rattle.oplog_entry.specs.Visible.{log_up_to}
use Rattle.repl_msg.specs.declared.record.Record.{Record}
use Rattle.repl_msg.specs.declared.record.Record.TheVariants as records
use Rattle.repl_msg.specs.Kept.{kept}
use Rattle.record_file.specs.declared.error.FileError.{FileError}
use Rattle.record_file.specs.declared.error.FileError.TheVariants.{Memory, Disk}
use Rattle.node_journal.specs.Bounds.{CanBeKept}
use Rattle.node_journal.specs.Layout.{record_bytes}
use Rattle.node_journal.specs.Room.{IsShort}
use Rattle.node_journal.proofs.SizeLemmas.{vote_size, config_size, optime_size}
use Rattle.version_store.specs.Store.{Store as Documented, shown_at}
use Rattle.node_journal.specs.Files.{IsAtRest as JournalAtRest, IsBeforeOrAfter}
use Rattle.node_journal.proofs.DiskLemmas.{rest_only, rest_reserved}
use Rattle.checkpoint_store.specs.Files.{IsAtRest as CheckpointsAtRest, IsBeforeOrAfter as IsOldOrNew}
use Rattle.checkpoint_store.specs.Shown.{AllCanBeSaved, Shows}
use Rattle.checkpoint_store.specs.declared.stable.Stable.{Stable}
use Rattle.checkpoint_store.proofs.OnceLemmas.{rest_has, rest_reserved as documents_reserved}
use Rattle.set_model.specs.declared.command.Command.{Command}
use Rattle.set_model.specs.declared.command.Command.TheVariants.{Restart}
use Rattle.set_model.specs.declared.store.Store.TheVariants as stores
use Rattle.set_model.specs.Node.{Node}
use Rattle.set_model.specs.Stores.{stored, in_doubt}
use Rattle.node_data.specs.NodeData.{IsReadable}
use Rattle.node_core.specs.Acting.{AreSame, DisksLeft, RunsWithoutOrders}
use Rattle.node_core.specs.Putting.{IsKeepable, IsSavable, Puts}
use Rattle.node_core.specs.OnDisks.{UpOnDisks}
use Rattle.node_core.specs.Stands.{Stands, documents_at}

-- ---- no orders

pub runs_none : (j c : State) → RunsWithoutOrders ⊥ j j c c
runs_none j c = record {
  fails = record {
    journal_faults = omega arith;
    checkpoint_faults = omega arith;
    cause = λ none. absurd none;
    only_armed = λ none. absurd none;
    journal_steady = λ is. is;
    checkpoint_steady = λ is. is;
  };
  journal_armed = λ is. is;
  checkpoints_armed = λ is. is;
  journal_orders = refl;
  checkpoints_orders = refl;
}

pub runs_journal : {Fault : Type 0} (j j' c : State) → Keeps Fault j j' → RunsWithoutOrders Fault j j' c c
runs_journal j j' c keeps = record {
  fails = record {
    journal_faults = keeps.faults;
    checkpoint_faults = omega arith;
    cause = λ fault. inl (keeps.cause fault);
    only_armed = λ fault steady _. inl (keeps.only_armed fault steady);
    journal_steady = keeps.steady;
    checkpoint_steady = λ is. is;
  };
  journal_armed = keeps.armed;
  checkpoints_armed = λ is. is;
  journal_orders = keeps.orders;
  checkpoints_orders = refl;
}

pub runs_checkpoints : {Fault : Type 0} (j c c' : State) → Keeps Fault c c' → RunsWithoutOrders Fault j j c c'
runs_checkpoints j c c' keeps = record {
  fails = record {
    journal_faults = omega arith;
    checkpoint_faults = keeps.faults;
    cause = λ fault. inr (keeps.cause fault);
    only_armed = λ fault _ steady. inr (keeps.only_armed fault steady);
    journal_steady = λ is. is;
    checkpoint_steady = keeps.steady;
  };
  journal_armed = λ is. is;
  checkpoints_armed = keeps.armed;
  journal_orders = refl;
  checkpoints_orders = keeps.orders;
}

-- ---- disks as they were

pub same_none : (j c : State) → AreSame j j c c
same_none j c = record { journal = refl; checkpoints = refl }

pub same_journal : (j j' c : State) → SameButRoom j j' → AreSame j j' c c
same_journal j j' c same = record { journal = same; checkpoints = refl }

pub same_checkpoints : (j c c' : State) → SameButRoom c c' → AreSame j j c c'
same_checkpoints j c c' same = record { journal = refl; checkpoints = same }

room_then : (one two three : State) → SameButRoom one two → SameButRoom two three → SameButRoom one three
room_then one two three first second = second ∙ ap (λ (s : State). record s { room = three.room }) first

pub same_then : (j0 j1 j2 c0 c1 c2 : State) → AreSame j0 j1 c0 c1 → AreSame j1 j2 c1 c2 → AreSame j0 j2 c0 c2
same_then j0 j1 j2 c0 c1 c2 first second =
    record { journal = room_then j0 j1 j2 first.journal second.journal; checkpoints = room_then c0 c1 c2 first.checkpoints second.checkpoints }

pub runs_same : (j j' c c' : State) → AreSame j j' c c' → RunsWithoutOrders ⊥ j j' c c'
runs_same j j' c c' same =
    subst (λ (s : State). RunsWithoutOrders ⊥ j s c c') (sym same.journal)
    (subst (λ (s : State). RunsWithoutOrders ⊥ j (record j { room = j'.room }) c s) (sym same.checkpoints) (at_rooms j c j'.room c'.room))
  where
    at_rooms : (j c : State) (one two : ℕ) → RunsWithoutOrders ⊥ j (record j { room = one }) c (record c { room = two })
    at_rooms j c one two = record {
      fails = record {
        journal_faults = omega arith;
        checkpoint_faults = omega arith;
        cause = λ none. absurd none;
        only_armed = λ none. absurd none;
        journal_steady = λ is. is;
        checkpoint_steady = λ is. is;
      };
      journal_armed = λ is. is;
      checkpoints_armed = λ is. is;
      journal_orders = refl;
      checkpoints_orders = refl;
    }

-- a reservation
pub runs_reserved : (j j' c : State) → SameButRoom j j' → RunsWithoutOrders ⊥ j j' c c
runs_reserved j j' c same = runs_same j j' c c (same_journal j j' c same)

-- a command that wasn't done
pub left_runs : (command : Command) (j j' c c' : State) → DisksLeft command j j' c c' → RunsWithoutOrders ⊥ j j' c c'
left_runs (Restart node) j j' c c' left = left.runs
left_runs _ j j' c c' left = runs_same j j' c c' left

-- one run after another: a fault is one of the first or of the second
pub runs_then : {F G H : Type 0} (j0 j1 j2 c0 c1 c2 : State) → (H → F ⊎ G) → RunsWithoutOrders F j0 j1 c0 c1 → RunsWithoutOrders G j1 j2 c1 c2 → RunsWithoutOrders H j0 j2 c0 c2
runs_then j0 j1 j2 c0 c1 c2 from first second = record {
  fails = record {
    journal_faults = omega (arith, first.fails.journal_faults, second.fails.journal_faults);
    checkpoint_faults = omega (arith, first.fails.checkpoint_faults, second.fails.checkpoint_faults);
    cause = λ fault. ⊎_elim
        (λ f. ⊎_elim (λ rose. inl (omega (arith, rose, second.fails.journal_faults))) (λ rose. inr (omega (arith, rose, second.fails.checkpoint_faults))) (first.fails.cause f))
        (λ g. ⊎_elim (λ rose. inl (omega (arith, rose, first.fails.journal_faults))) (λ rose. inr (omega (arith, rose, first.fails.checkpoint_faults))) (second.fails.cause g))
        (from fault);
    only_armed = λ fault one two. ⊎_elim
        (λ f. first.fails.only_armed f one two)
        (λ g. ⊎_elim (λ armed. inl (first.journal_armed armed)) (λ armed. inr (first.checkpoints_armed armed))
        (second.fails.only_armed g (first.fails.journal_steady one) (first.fails.checkpoint_steady two)))
        (from fault);
    journal_steady = λ is. second.fails.journal_steady (first.fails.journal_steady is);
    checkpoint_steady = λ is. second.fails.checkpoint_steady (first.fails.checkpoint_steady is);
  };
  journal_armed = λ is. first.journal_armed (second.journal_armed is);
  checkpoints_armed = λ is. first.checkpoints_armed (second.checkpoints_armed is);
  journal_orders = second.journal_orders ∙ first.journal_orders;
  checkpoints_orders = second.checkpoints_orders ∙ first.checkpoints_orders;
}

-- fewer faults
pub runs_as : {F H : Type 0} (j j' c c' : State) → (H → F) → RunsWithoutOrders F j j' c c' → RunsWithoutOrders H j j' c c'
runs_as j j' c c' from runs = record {
  fails = record {
    journal_faults = runs.fails.journal_faults;
    checkpoint_faults = runs.fails.checkpoint_faults;
    cause = λ fault. runs.fails.cause (from fault);
    only_armed = λ fault. runs.fails.only_armed (from fault);
    journal_steady = runs.fails.journal_steady;
    checkpoint_steady = runs.fails.checkpoint_steady;
  };
  journal_armed = runs.journal_armed;
  checkpoints_armed = runs.checkpoints_armed;
  journal_orders = runs.journal_orders;
  checkpoints_orders = runs.checkpoints_orders;
}

-- ---- a node with the same records rests as well

pub rests_same : (node new : Node) (count : ℕ) (j c : State) → new.records ≡ node.records → new.stable ≡ node.stable → UpOnDisks node count j c → UpOnDisks new count j c
rests_same node new count j c records stable rests = record {
  counted = rests.counted ∙ ap (λ (l : List Record). length l) (sym records);
  records = subst (λ (l : List Record). JournalAtRest j l) (sym records) rests.records;
  documents = subst (λ (s : Stable). CheckpointsAtRest c s) same rests.documents;
}
  where
    same : documents_at node node.stable ≡ documents_at new new.stable
    same = λ i. record { at = sym stable i; documents = docs (log_up_to (sym stable i) (kept (sym records i)).entries) }

-- ---- and so does one whose disks are as they were

pub rests_left : (node : Node) (count : ℕ) (j j' c c' : State) → AreSame j j' c c' → UpOnDisks node count j c → UpOnDisks node count j' c'
rests_left node count j j' c c' same rests = record {
  counted = rests.counted;
  records = rest_reserved j j' node.records same.journal rests.records;
  documents = documents_reserved c c' (documents_at node node.stable) same.checkpoints rests.documents;
}

-- ---- a record

module _ (node : Node) (item : Record) (count : ℕ) (j j' c : State) (rests : UpOnDisks node count j c) where
  -- it is added
  pub added : IsKeepable node item → ((records : List Record) → JournalAtRest j records → JournalAtRest j' (records ++ item ∷ []))
      → UpOnDisks (stored node (stores.Record item)) (count + 1) j' c
  added can ok = record {
    counted = omega (arith, rests.counted, length-append node.records (item ∷ []));
    records = ok node.records rests.records;
    documents = subst (λ (s : Stable). CheckpointsAtRest c s) (sym can.same) rests.documents;
  }

  -- memory ran out
  pub reserved : SameButRoom j j' → UpOnDisks node count j' c
  reserved same = rests_left node count j j' c c (same_journal j j' c same) rests

  -- it is in doubt
  pub doubted : ((records : List Record) → JournalAtRest j records → EachMoment (IsBeforeOrAfter records item) j j')
      → Stands (in_doubt node (stores.Record item)) j' c
  doubted moments = record {
    records = λ image left. ⊎_elim inl (λ after. inr (item, refl, after)) ((moments node.records rests.records).now image left);
    documents = λ image left. inl (rest_has c (documents_at node node.stable) rests.documents image left);
  }

-- ---- a checkpoint

module _ (node : Node) (at : OpTime) (count : ℕ) (j c c' : State) (rests : UpOnDisks node count j c) (can : IsSavable node at) (store : Documented)
    (shown : (place : Place) (o : OpTime) → IsReadable node o → shown_at store place o ≡ get (docs (log_up_to o node.log)) place) where
  pub can_save : AllCanBeSaved store at
  can_save place document is = can.each place document (sym (shown place at can.readable) ∙ is)

  -- what the records keep of the log up to there
  abbrev found : Documents
  found = docs (log_up_to at (kept node.records).entries)

  shows : Shows store at found
  shows place = ap (λ (m : Documents). get m place) (sym can.kept_so) ∙ sym (shown place at can.readable)

  pub saved : ((documents : Documents) → Shows store at documents → (stable : Stable) → CheckpointsAtRest c stable → CheckpointsAtRest c' (record { at = at; documents = documents }))
      → UpOnDisks (stored node (stores.Checkpoint at)) count j c'
  saved ok = record {
    counted = rests.counted;
    records = rests.records;
    documents = ok found shows (documents_at node node.stable) rests.documents;
  }

  pub unsaved : SameButRoom c c' → UpOnDisks node count j c'
  unsaved same = rests_left node count j j c c' (same_checkpoints j c c' same) rests

  pub half_saved : ((documents : Documents) → Shows store at documents → (stable : Stable) → CheckpointsAtRest c stable
      → EachMoment (IsOldOrNew stable (record { at = at; documents = documents })) c c')
      → Stands (in_doubt node (stores.Checkpoint at)) j c'
  half_saved moments = record {
    records = λ image left. inl (rest_only j node.records rests.records image left);
    documents = λ image left. ⊎_elim inl (λ after. inr (at, refl, after))
        ((moments found shows (documents_at node node.stable) rests.documents).now image left);
  }

-- ---- all that follows from it

abbrev pub is_done : Result (Unit {0}) FileError
is_done = Ok tt

ok_not : (error : FileError) → is_done ≡ Err error → ⊥
ok_not error is = cc

-- where memory ran out
abbrev pub RanOut : Result (Unit {0}) FileError → Type 0 → Type 0
RanOut result P = result ≡ Err Memory → P

-- a record without entries, with its 5 bytes more
pub short_size : (item : Record) → IsShort item → CanBeKept item → length (record_bytes item) + 5 ≤ 473
short_size (records.Vote vote) short can = omega (arith, vote_size vote)
short_size (records.Config config) short can = omega (arith, config_size config, can)
short_size (records.Entries list point) short can = absurd short
short_size (records.Cut at) short can = omega (arith, optime_size at)
short_size (records.Form form) short can = omega (arith, length-number_bytes 4 form)

module _ (node : Node) (item : Record) (count : ℕ) (j j' c : State) (rests : UpOnDisks node count j c)
    (moments : (records : List Record) → JournalAtRest j records → EachMoment (IsBeforeOrAfter records item) j j') where
  pub record_put : IsKeepable node item → ((records : List Record) → JournalAtRest j records → JournalAtRest j' (records ++ item ∷ []))
      → Puts (Ok tt) node (stores.Record item) (count + 1) j' c
  record_put can ok = record {
    ok = added node item count j j' c rests can ok;
    memory = λ is. absurd (ok_not Memory is);
    broken = λ is. absurd (ok_not Disk is);
    uncounted = tt;
  }

  pub record_failed : (error : FileError) → RanOut (Err error) (SameButRoom j j') → Puts (Err error) node (stores.Record item) count j' c
  record_failed error memory = record {
    ok = tt;
    memory = λ is. reserved node item count j j' c rests (memory is);
    broken = λ is. doubted node item count j j' c rests moments;
    uncounted = rests.counted;
  }

-- a checkpoint, by what its saving says
pub checkpoint_put : (result : Result (Unit {0}) FileError) (node : Node) (at : OpTime) (count : ℕ) (j c c' : State) (rests : UpOnDisks node count j c) (can : IsSavable node at)
    (store : Documented) (shown : (place : Place) (o : OpTime) → IsReadable node o → shown_at store place o ≡ get (docs (log_up_to o node.log)) place)
    → OnOk result ((documents : Documents) → Shows store at documents → (stable : Stable) → CheckpointsAtRest c stable → CheckpointsAtRest c' (record { at = at; documents = documents }))
    → RanOut result (SameButRoom c c')
    → ((documents : Documents) → Shows store at documents → (stable : Stable) → CheckpointsAtRest c stable
    → EachMoment (IsOldOrNew stable (record { at = at; documents = documents })) c c')
    → Puts result node (stores.Checkpoint at) count j c'
checkpoint_put (Ok tt) node at count j c c' rests can store shown ok memory moments = record {
  ok = saved node at count j c c' rests can store shown ok;
  memory = λ is. absurd (ok_not Memory is);
  broken = λ is. absurd (ok_not Disk is);
  uncounted = tt;
}
checkpoint_put (Err error) node at count j c c' rests can store shown ok memory moments = record {
  ok = tt;
  memory = λ is. unsaved node at count j c c' rests can store shown (memory is);
  broken = λ is. half_saved node at count j c c' rests can store shown moments;
  uncounted = rests.counted;
}
