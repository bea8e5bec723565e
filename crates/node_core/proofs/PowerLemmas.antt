-- A node whose disks lose their power, or are ordered to fail.
use Rattle.std.proofs.Common.{◌≡◌, ◌∙◌, [], inl, ap, sym, subst, refl, ℕ, Bool, true, false, Option, None, List, if◌then◌else◌, arith}
use Rattle.std.specs.Prelude.{IsSome, IsTrue}
use Rattle.record_file.proofs.CutLemmas.{cut_leaves}
use Rattle.rs_disk.specs.File.{File, LeavesOnly}
use Rattle.rs_disk.specs.State.{State, IsArmed, IsCut}
use Rattle.node_journal.specs.Files.{HasJournal}
use Rattle.node_journal.proofs.DiskLemmas.{rest_only, rest_stays}
use Rattle.checkpoint_store.specs.Files.{HasCheckpoint, IsAtRest as CheckpointsAtRest}
use Rattle.checkpoint_store.specs.declared.stable.Stable.{Stable}
use Rattle.checkpoint_store.proofs.OnceLemmas.{rest_has}
use Rattle.set_model.specs.declared.command.Command.TheVariants.{Crash, DiskFail}
use Rattle.set_model.specs.declared.command.DiskName.{DiskName}
use Rattle.set_model.specs.declared.command.DiskName.TheVariants as disks
use Rattle.set_model.specs.declared.reply.Reply.{Reply}
use Rattle.set_model.specs.declared.reply.Reply.TheVariants as reply
use Rattle.set_model.specs.declared.reply.Refusal.TheVariants.{NodeDown}
use Rattle.set_model.specs.Disk.{crash}
use Rattle.set_model.specs.Node.{Node, down}
use Rattle.set_model.specs.Outcome.{refused, replied}
use Rattle.set_model.specs.Rows.{row}
use Rattle.set_model.specs.Stores.{finished}
use Rattle.node_state.specs.WellKept.{IsWellKept}
use Rattle.node_core.specs.Acting.{Acted, Arms, ArmedBefore, DisksActed, Fails, UnstoredBy, orders_after}
use Rattle.node_core.specs.Down.{DownState, down_node, seen_node}
use Rattle.node_core.specs.OnDisks.{IsOnDisks, DownOnDisks, UpOnDisks}
use Rattle.node_core.specs.Stands.{HasDocumentsOf, HasRecordsOf, Stands, documents_at}
use Rattle.node_core.specs.declared.done.Done.{Done}
use Rattle.node_core.proofs.ActingLemmas.{answered_follows, answered_runs, resting_stands, unfailed, unkept}
use Rattle.node_core.proofs.PuttingLemmas.{same_none}

-- ---- disks that were given orders

-- what an order leaves as it is
record IsAsFaulty (old new : State) : Type 0 where
  faults : new.faults ≡ old.faults
  steady : new.is_steady ≡ old.is_steady

cut_faulty : (pick : ℕ) (old new : State) → IsCut pick old new → IsAsFaulty old new
cut_faulty pick old new cut = record { faults = ap (λ (s : State). s.faults) cut.rest; steady = ap (λ (s : State). s.is_steady) cut.rest }

armed_faulty : (call : ℕ) (pick : Option ℕ) (old new : State) → IsArmed call pick old new → IsAsFaulty old new
armed_faulty call pick old new armed = record { faults = ap (λ (s : State). s.faults) armed; steady = ap (λ (s : State). s.is_steady) armed }

-- nothing failed
fails_not : (Fault : Type 0) (j j' c c' : State) → ¬ Fault → IsAsFaulty j j' → IsAsFaulty c c' → Fails Fault j j' c c'
fails_not Fault j j' c c' none one two = record {
  journal_faults = omega (arith, one.faults);
  checkpoint_faults = omega (arith, two.faults);
  cause = λ fault. absurd (none fault);
  only_armed = λ fault. absurd (none fault);
  journal_steady = λ is. subst (λ (b : Bool). IsTrue b) (sym one.steady) is;
  checkpoint_steady = λ is. subst (λ (b : Bool). IsTrue b) (sym two.steady) is;
}

same_armed : (old new : State) → new.is_armed ≡ old.is_armed → ArmedBefore old new
same_armed old new same is = subst (λ (b : Bool). IsTrue b) same is

-- ---- the power goes

up_not : false ≡ true → ⊥
up_not h = cc

orders_not : true ≡ false → ⊥
orders_not h = cc

module _ (pick : ℕ) (node : Node) (left : DownState) (j j' c c' : State) (one : IsCut pick j j') (two : IsCut pick c c')
    (is : down_node node left ≡ record (down node) { doubt = None }) where
  cut_stands : (count : ℕ) → UpOnDisks node count j c → Stands (record (down node) { doubt = None }) j' c'
  cut_stands count rests = record {
    records = λ image leaves. inl (cut_leaves (λ (bytes : List ℕ). HasJournal bytes node.records) pick j j' one (rest_only j node.records rests.records) image leaves);
    documents = λ image leaves. inl (cut_leaves (λ (bytes : List ℕ). HasCheckpoint bytes (documents_at node node.stable)) pick c c' two (rest_has c (documents_at node node.stable) rests.documents) image leaves);
  }

  -- how its disks then are
  pub cut_lies : (up : Bool) (before : DownState) (count later : ℕ) → up ≡ true → IsOnDisks up node before count j c → later ≡ count → IsWellKept node.records node.stable
      → IsOnDisks false node left later j' c'
  cut_lies true before count later is_up rests same well =
      subst (λ (n : Node). DownOnDisks n later j' c') (sym is) (record { counted = same ∙ rests.counted; stands = cut_stands count rests; well = well; doubtful = tt })
  cut_lies false before count later is_up lies same well = absurd (up_not is_up)

  pub acted_crash : (up : Bool) (before : DownState) (count : ℕ) → up ≡ true → IsOnDisks up node before count j c → (nodes next number : ℕ) (done : Done) → node.up ≡ true → node.doubt ≡ None
      → done.reply ≡ reply.Down → done.sent.items ≡ [] → done.failed ≡ None → done.kept ≡ false
      → Acted (row nodes next false (seen_node up node before) (Crash number pick)) (Crash number pick) (seen_node up node before) (down_node node left) j j' c c' done
  acted_crash false before count is_up lies nodes next number done up settled answer sent failed kept = absurd (up_not is_up)
  acted_crash true before count is_up rests nodes next number done up settled answer sent failed kept = record {
    follows = answered_follows (row nodes next false node (Crash number pick)) (down_node node left) reply.Down done plan_is answer sent failed;
    settles = unkept node (Crash number pick) done kept;
    stands = subst (λ (n : Node). Stands n j' c') (sym is) (cut_stands count rests);
    disks = record {
      acted = record {
        fails = fails_not (IsSome done.failed) j j' c c' (unfailed done.failed failed) (cut_faulty pick j j' one) (cut_faulty pick c c' two);
        journal_armed = λ _. same_armed j j' (ap (λ (s : State). s.is_armed) one.rest);
        checkpoints_armed = λ _. same_armed c c' (ap (λ (s : State). s.is_armed) two.rest);
        journal_orders = ap (λ (s : State). s.orders) one.rest ∙ sym (ap (λ (r : Reply). orders_after disks.Journal (Crash number pick) r j.orders) answer);
        checkpoints_orders = ap (λ (s : State). s.orders) two.rest ∙ sym (ap (λ (r : Reply). orders_after disks.Checkpoint (Crash number pick) r c.orders) answer);
      };
      unstored = λ _. subst (λ (r : Reply). UnstoredBy (Crash number pick) r j j' c c') (sym answer) (one, two);
      opening = λ is. absurd (up_not is);
      found = λ is. absurd (up_not is);
    };
  }
    where
      plan_is : row nodes next false node (Crash number pick) ≡ finished (replied reply.Down (down_node node left))
      plan_is =
          ap (λ (b : Bool). if b then finished (crash node) else finished (refused NodeDown node)) up
          ∙ (λ i. finished (replied reply.Down (record (down node) { doubt = settled i })))
          ∙ ap (λ (n : Node). finished (replied reply.Down n)) (sym is)

-- a node that is down refuses, and its disks are as they were
pub crash_refused : (up : Bool) (node : Node) (left : DownState) (count : ℕ) (j c : State) → up ≡ false → IsOnDisks up node left count j c → (nodes next number pick : ℕ) (done : Done)
    → done.reply ≡ reply.Refused NodeDown → done.sent.items ≡ [] → done.failed ≡ None → done.kept ≡ false
    → Acted (row nodes next false (seen_node up node left) (Crash number pick)) (Crash number pick) (seen_node up node left) (seen_node up node left) j j c c done
crash_refused true node left count j c down rests nodes next number pick done answer sent failed kept = absurd (orders_not down)
crash_refused false node left count j c down lies nodes next number pick done answer sent failed kept =
    let seen = down_node node left in
    record {
      follows = answered_follows (row nodes next false seen (Crash number pick)) seen (reply.Refused NodeDown) done refl answer sent failed;
      settles = unkept seen (Crash number pick) done kept;
      stands = lies.stands;
      disks = record {
        acted = record {
          fails = (answered_runs j c done failed).fails;
          journal_armed = λ _ is. is;
          checkpoints_armed = λ _ is. is;
          journal_orders = sym (ap (λ (r : Reply). orders_after disks.Journal (Crash number pick) r j.orders) answer);
          checkpoints_orders = sym (ap (λ (r : Reply). orders_after disks.Checkpoint (Crash number pick) r c.orders) answer);
        };
        unstored = λ _. subst (λ (r : Reply). UnstoredBy (Crash number pick) r j j c c) (sym answer) (same_none j c);
        opening = λ is. absurd (up_not is);
        found = λ is. absurd (up_not is);
      };
    }

-- ---- a disk is told to fail

-- the files are as they were
arms_files : (disk : DiskName) (call : ℕ) (pick : Option ℕ) (j j' c c' : State) → Arms disk call pick j j' c c' → (j'.file ≡ j.file) × (c'.file ≡ c.file)
arms_files disks.Journal call pick j j' c c' arms = (ap (λ (s : State). s.file) arms.0, ap (λ (s : State). s.file) arms.1)
arms_files disks.Checkpoint call pick j j' c c' arms = (ap (λ (s : State). s.file) arms.0, ap (λ (s : State). s.file) arms.1)

documents_stay : (old new : State) (stable : Stable) → new.file ≡ old.file → CheckpointsAtRest old stable → CheckpointsAtRest new stable
documents_stay old new stable same rests = record {
  records = rests.records;
  rests = record {
    each = rests.rests.each;
    rests = record { front = rests.rests.rests.front; open_records = rests.rests.rests.open_records; file = same ∙ rests.rests.rests.file };
  };
  last = rests.last;
}

stands_still : (node : Node) (j j' c c' : State) → j'.file ≡ j.file → c'.file ≡ c.file → Stands node j c → Stands node j' c'
stands_still node j j' c c' one two stands = record {
  records = subst (λ (file : File). LeavesOnly (HasRecordsOf node) file) (sym one) stands.records;
  documents = subst (λ (file : File). LeavesOnly (HasDocumentsOf node) file) (sym two) stands.documents;
}

module _ (disk : DiskName) (call : ℕ) (pick : Option ℕ) (node : Node) (left : DownState) (count : ℕ) (j j' c c' : State) (arms : Arms disk call pick j j' c c') where
  pub armed_rests : (up : Bool) (later : ℕ) → later ≡ count → IsOnDisks up node left count j c → IsOnDisks up node left later j' c'
  armed_rests true later same rests =
      let files = arms_files disk call pick j j' c c' arms in
      record {
        counted = same ∙ rests.counted;
        records = rest_stays j j' node.records files.0 rests.records;
        documents = documents_stay c c' (documents_at node node.stable) files.1 rests.documents;
      }
  armed_rests false later same lies =
      let files = arms_files disk call pick j j' c c' arms in
      record { counted = same ∙ lies.counted; stands = stands_still (down_node node left) j j' c c' files.0 files.1 lies.stands; well = lies.well; doubtful = lies.doubtful }

  pub acted_fail : (up : Bool) → IsOnDisks up node left count j c → (nodes next number : ℕ) (done : Done) → done.reply ≡ reply.Armed → done.sent.items ≡ [] → done.failed ≡ None → done.kept ≡ false
      → Acted (row nodes next false (seen_node up node left) (DiskFail number disk call pick)) (DiskFail number disk call pick) (seen_node up node left) (seen_node up node left) j j' c c' done
  acted_fail up resting nodes next number done answer sent failed kept = record {
    follows = answered_follows (row nodes next false seen (DiskFail number disk call pick)) seen reply.Armed done refl answer sent failed;
    settles = unkept seen (DiskFail number disk call pick) done kept;
    stands = resting_stands up node left count j' c' (armed_rests up count refl resting);
    disks = record {
      acted = go disk arms;
      unstored = λ _. subst (λ (r : Reply). UnstoredBy (DiskFail number disk call pick) r j j' c c') (sym answer) arms;
      opening = λ is. absurd (up_not is);
      found = λ is. absurd (up_not is);
    };
  }
    where
      seen : Node
      seen = seen_node up node left

      not_so : true ≡ false → ⊥
      not_so h = cc

      go : (d : DiskName) → Arms d call pick j j' c c' → DisksActed (DiskFail number d call pick) done.reply (IsSome done.failed) j j' c c'
      go disks.Journal arms = record {
        fails = fails_not (IsSome done.failed) j j' c c' (unfailed done.failed failed) (armed_faulty call pick j j' arms.0)
            (record { faults = ap (λ (s : State). s.faults) arms.1; steady = ap (λ (s : State). s.is_steady) arms.1 });
        journal_armed = λ not. absurd (not_so not);
        checkpoints_armed = λ not. absurd (not_so not);
        journal_orders = ap (λ (s : State). s.orders) arms.0 ∙ sym (ap (λ (r : Reply). orders_after disks.Journal (DiskFail number disks.Journal call pick) r j.orders) answer);
        checkpoints_orders = ap (λ (s : State). s.orders) arms.1 ∙ sym (ap (λ (r : Reply). orders_after disks.Checkpoint (DiskFail number disks.Journal call pick) r c.orders) answer);
      }
      go disks.Checkpoint arms = record {
        fails = fails_not (IsSome done.failed) j j' c c' (unfailed done.failed failed)
            (record { faults = ap (λ (s : State). s.faults) arms.0; steady = ap (λ (s : State). s.is_steady) arms.0 }) (armed_faulty call pick c c' arms.1);
        journal_armed = λ not. absurd (not_so not);
        checkpoints_armed = λ not. absurd (not_so not);
        journal_orders = ap (λ (s : State). s.orders) arms.0 ∙ sym (ap (λ (r : Reply). orders_after disks.Journal (DiskFail number disks.Checkpoint call pick) r j.orders) answer);
        checkpoints_orders = ap (λ (s : State). s.orders) arms.1 ∙ sym (ap (λ (r : Reply). orders_after disks.Checkpoint (DiskFail number disks.Checkpoint call pick) r c.orders) answer);
      }
