-- What a crash leaves of both disks while a copy is in progress.
use Rattle.std.proofs.Common.{◌≡◌, ◌∙◌, ⊎_elim, inl, inr, ℕ, List, [], ◌++◌, ap, sym, subst, append-nil}
use Rattle.std.specs.Prelude.{◌≢◌, fold}
use Rattle.std.specs.List.{AllPairs}
use Rattle.rs_disk.specs.File.{LeavesOnly, contents}
use Rattle.rs_disk.specs.Images.{read_is_image}
use Rattle.rs_disk.specs.Moments.{EachMoment, starts, weakens}
use Rattle.rs_disk.specs.State.{State}
use Rattle.oplog_entry.specs.Log.{StandsBefore}
use Rattle.oplog_entry.specs.Visible.{ZERO, last_of}
use Rattle.repl_msg.specs.Kept.{kept, with_record}
use Rattle.repl_msg.specs.declared.record.Kept.{Kept}
use Rattle.repl_msg.specs.declared.record.Record.{Record}
use Rattle.node_journal.specs.Files.{HasJournal, IsJournalDisk, IsOneOfRenewed}
use Rattle.node_journal.specs.Renewed.{renewed}
use Rattle.node_journal.proofs.DiskLemmas.{rest_only}
use Rattle.checkpoint_store.specs.Checkpoint.{no_stable}
use Rattle.checkpoint_store.specs.Files.{HasCheckpoint, IsCheckpointDisk, IsBeforeOrAfter, IsOneOf as IsOneCheckpoint}
use Rattle.checkpoint_store.specs.declared.stable.Stable.{Stable}
use Rattle.checkpoint_store.proofs.OnceLemmas.{rest_has}
use Rattle.initial_sync.specs.Copies.{AreCopyDisks, Copy, IsOf, IsOfSomeCopy, IsPartOrWhole, IsWhole, LeaveBoth, documents_of}
use Rattle.initial_sync.specs.Missing.{HasFront, IsOfThis, missing}
use Rattle.initial_sync.specs.Moments.{BesideCheckpoints, BesideJournal, EachMomentOfBoth, IsBefore, IsBeforeOrContinued, IsContinued}
use Rattle.initial_sync.specs.Runs.{Fills, IsFound, OpensBoth}
use Rattle.initial_sync.proofs.PartLemmas.{IsBase, come_to, come_whole, gives, missing_renewed, moved, part_or_whole, this_as_it_was, whole_moved}

-- ---- disks that a copy can use

pub journal_disk : (j c : State) → AreCopyDisks j c → IsJournalDisk j
journal_disk j c are = record {
  leaves = λ image left.
      let of = are.leave image left (contents c.file) (read_is_image c.file) in
      ⊎_elim (λ part. (part.log.records, part.log.has)) (λ whole. (whole.log.records, whole.log.has)) of.2;
}

pub checkpoint_disk : (j c : State) → AreCopyDisks j c → IsCheckpointDisk c
checkpoint_disk j c are = record {
  leaves = λ image left.
      let of = are.leave (contents j.file) (read_is_image j.file) image left in
      ⊎_elim (λ part. (no_stable, part.none)) (λ whole. (documents_of of.0.entries, whole.documents)) of.2;
}

pub one_checkpoint : (c : State) → IsCheckpointDisk c → LeavesOnly (IsOneCheckpoint c) c.file
one_checkpoint c is image left = let found = is.leaves image left in (found.0, found.1, (image, left, found.1))

-- ---- moments with less to say of them

pub weaker : (P Q : List ℕ → List ℕ → Type 0) → ((x y : List ℕ) → P x y → Q x y) → (j j' c c' : State) → EachMomentOfBoth P j j' c c' → EachMomentOfBoth Q j j' c c'
weaker P Q so j j' c c' moments = record {
  journal = moments.journal;
  checkpoints = moments.checkpoints;
  opens_journal = weakens (BesideCheckpoints P c.file) (BesideCheckpoints Q c.file) (λ x all y left. so x y (all y left)) j moments.journal moments.opens_journal;
  opens_checkpoints = weakens (BesideJournal P moments.journal.file) (BesideJournal Q moments.journal.file) (λ y all x left. so x y (all x left)) c moments.checkpoints moments.opens_checkpoints;
  writes_journal = weakens (BesideCheckpoints P moments.checkpoints.file) (BesideCheckpoints Q moments.checkpoints.file) (λ x all y left. so x y (all y left)) moments.journal j' moments.writes_journal;
  writes_checkpoints = weakens (BesideJournal P j'.file) (BesideJournal Q j'.file) (λ y all x left. so x y (all x left)) moments.checkpoints c' moments.writes_checkpoints;
}

-- the last moment
pub at_the_end : (P : List ℕ → List ℕ → Type 0) (j j' c c' : State) → EachMomentOfBoth P j j' c c' → LeaveBoth P j'.file c'.file
at_the_end P j j' c c' moments = λ x left y here. moments.writes_checkpoints.now y here x left

-- ---- what is left of disks of a copy

pub of_before : (j c : State) (own copy : Copy) → LeaveBoth (IsPartOrWhole own) j.file c.file → (x y : List ℕ) → IsOneOfRenewed j x → IsOneCheckpoint c y → IsPartOrWhole own x y
of_before j c own copy leave x y one two =
    moved own one.1.0 x two.2.0 y one.0 two.0 one.1.2 one.2 two.2.2 two.1 (leave one.1.0 one.1.1 two.2.0 two.2.1)

pub whole_before : (j c : State) (copy : Copy) → LeaveBoth (IsWhole copy) j.file c.file → (x y : List ℕ) → IsOneOfRenewed j x → IsOneCheckpoint c y → IsWhole copy x y
whole_before j c copy leave x y one two =
    whole_moved copy one.1.0 x two.2.0 y one.0 two.0 one.1.2 one.2 two.2.2 two.1 (leave one.1.0 one.1.1 two.2.0 two.2.1)

pub law : (j j' c c' : State) (copy : Copy) → EachMomentOfBoth (IsBeforeOrContinued j c copy) j j' c c' → LeaveBoth (IsPartOrWhole copy) j.file c.file → EachMomentOfBoth (IsPartOrWhole copy) j j' c c'
law j j' c c' copy moments leave =
    weaker (IsBeforeOrContinued j c copy) (IsPartOrWhole copy)
    (λ x y. ⊎_elim (λ before. of_before j c copy copy leave x y before.0 before.1) (λ later. later.0)) j j' c c' moments

-- and of disks that a copy can use
pub of_some_copy : (j c : State) → AreCopyDisks j c → (x y : List ℕ) → IsBefore j c x y → IsOfSomeCopy x y
of_some_copy j c are x y (one, two) =
    let of = are.leave one.1.0 one.1.1 two.2.0 two.2.1 in
    (of.0, of.1, moved of.0 one.1.0 x two.2.0 y one.0 two.0 one.1.2 one.2 two.2.2 two.1 of.2)

pub copy_disks : (j j' c c' : State) (copy : Copy) → last_of copy.entries ≢ ZERO → AreCopyDisks j c → EachMomentOfBoth (IsBeforeOrContinued j c copy) j j' c c' → AreCopyDisks j' c'
copy_disks j j' c c' copy above are moments = record {
  leave = λ x left y here. ⊎_elim
      (λ before. of_some_copy j c are x y before)
      (λ later. (copy, above, later.0))
      (at_the_end (IsBeforeOrContinued j c copy) j j' c c' moments x left y here);
}

-- ---- the moments of a copy

-- what opening both leaves at each moment
pub opened_so : (P : List ℕ → List ℕ → Type 0) (j j1 c c1 : State) → IsCheckpointDisk c → ((x y : List ℕ) → IsOneOfRenewed j x → IsOneCheckpoint c y → P x y) → OpensBoth j j1 c c1
    → EachMomentOfBoth P j j1 c c1
opened_so P j j1 c c1 disk so opens = record {
  journal = j1;
  checkpoints = c1;
  opens_journal = weakens (IsOneOfRenewed j) (BesideCheckpoints P c.file) (λ x one y left. so x y one (one_checkpoint c disk y left)) j j1 opens.journal;
  opens_checkpoints = weakens (IsOneCheckpoint c) (BesideJournal P j1.file) (λ y one x left. so x y (opens.journal.now x left) one) c c1 opens.checkpoints;
  writes_journal = starts (BesideCheckpoints P c1.file) j1 (λ x left y here. so x y (opens.journal.now x left) (opens.checkpoints.now y here));
  writes_checkpoints = starts (BesideJournal P j1.file) c1 (λ y here x left. so x y (opens.journal.now x left) (opens.checkpoints.now y here));
}

module _ (j j1 c c1 : State) (copy : Copy) (disk : IsCheckpointDisk c) (opens : OpensBoth j j1 c c1) where
  -- nothing more was done
  pub opened_only : EachMomentOfBoth (IsBeforeOrContinued j c copy) j j1 c c1
  opened_only = opened_so (IsBeforeOrContinued j c copy) j j1 c c1 disk (λ x y one two. inl (one, two)) opens

  module _ (found : Kept) (stable : Stable) (is : IsFound found stable j j1 c c1) (base : IsBase copy found stable) (order : AllPairs StandsBefore copy.entries) where
    abbrev items : List Record
    items = renewed is.items

    missing_is : missing copy found ≡ missing copy (kept is.items)
    missing_is = ap (missing copy) is.kept_is ∙ missing_renewed copy is.items

    split_as : (f g : List Record) → missing copy (kept is.items) ≡ f ++ g → missing copy found ≡ f ++ g
    split_as f g split = missing_is ∙ split

    shows : LeavesOnly (λ y. HasCheckpoint y stable) c1.file
    shows = rest_has c1 stable is.checkpoints

    later : (x : List ℕ) → HasFront items (missing copy (kept is.items)) x → IsContinued copy j c x
    later x front = record {
      items = is.items;
      stable = stable;
      records = is.records;
      documents = is.documents;
      this = this_as_it_was copy is.items stable.at (subst (λ (k : Kept). IsOfThis copy k stable.at) is.kept_is base.this);
      front = front;
    }

    -- the first of the missing records beside the checkpoint that was found
    beside_found : (x y : List ℕ) → HasFront items (missing copy (kept is.items)) x → HasCheckpoint y stable → IsBeforeOrContinued j c copy x y
    beside_found x y (f, g, split, has) here = ⊎_elim
        (λ none.
        let same : HasJournal x items = subst (HasJournal x) (ap (λ (l : List Record). items ++ l) none ∙ append-nil items) has in
        inl ((is.items, (contents j.file, read_is_image j.file, is.records), inr same), (stable, here, (contents c.file, read_is_image c.file, is.documents))))
        (λ come. inr (part_or_whole copy found stable items f x y base is.kept_is come has here, later x (f, g, split, has)))
        (come_to copy found base.is base.this.entries order f g (split_as f g split))

    all_of : (x : List ℕ) → HasJournal x (items ++ missing copy (kept is.items)) → HasFront items (missing copy (kept is.items)) x
    all_of x has = (missing copy (kept is.items), [], sym (append-nil (missing copy (kept is.items))), has)

    whole_journal : IsOf copy.term copy.entries (fold with_record found (missing copy (kept is.items)))
    whole_journal = come_whole copy found base.is base.this.entries order items (missing copy (kept is.items)) missing_is

    -- all of them beside the documents
    pub whole_now : (x y : List ℕ) → HasJournal x (items ++ missing copy (kept is.items)) → HasCheckpoint y (documents_of copy.entries) → IsWhole copy x y
    whole_now x y has here =
        record { log = gives copy.term copy.entries items (missing copy (kept is.items)) found x is.kept_is whole_journal has; documents = here }

    module _ {Done : Type 0} (j' c' : State) (fills : Fills copy items stable Done j1 j' c1 c') where
      adds : EachMoment (HasFront items (missing copy (kept is.items))) j1 j'
      adds = subst (λ (l : List Record). EachMoment (HasFront items l) j1 j') (missing_renewed copy is.items) fills.adds

      writes_first : EachMoment (BesideCheckpoints (IsBeforeOrContinued j c copy) c1.file) j1 j'
      writes_first =
          weakens (HasFront items (missing copy (kept is.items))) (BesideCheckpoints (IsBeforeOrContinued j c copy) c1.file)
          (λ x front y left. beside_found x y front (shows y left)) j1 j' adds

      writes_then : EachMoment (BesideJournal (IsBeforeOrContinued j c copy) j'.file) c1 c'
      writes_then = ⊎_elim
          (λ same. subst (λ (s : State). EachMoment (BesideJournal (IsBeforeOrContinued j c copy) j'.file) c1 s) (sym same)
          (starts (BesideJournal (IsBeforeOrContinued j c copy) j'.file) c1 (λ y here x left. writes_first.now x left y here)))
          (λ rests. weakens (IsBeforeOrAfter stable (documents_of copy.entries)) (BesideJournal (IsBeforeOrContinued j c copy) j'.file)
          (λ y either x left.
          let has = subst (λ (l : List Record). HasJournal x (items ++ l)) (missing_renewed copy is.items) (rest_only j' (items ++ missing copy (kept items)) rests x left) in
          ⊎_elim (λ before. beside_found x y (all_of x has) before) (λ after. inr (inr (whole_now x y has after), later x (all_of x has))) either) c1 c' fills.saves)
          fills.in_turn

      pub filled : EachMomentOfBoth (IsBeforeOrContinued j c copy) j j' c c'
      unfolding opened_only opened_so
      filled = record {
        journal = j1;
        checkpoints = c1;
        opens_journal = opened_only.opens_journal;
        opens_checkpoints = opened_only.opens_checkpoints;
        writes_journal = writes_first;
        writes_checkpoints = writes_then;
      }
