-- What a copy results in, by what it did.
use Rattle.std.proofs.Common.{◌≡◌, ◌∙◌, ◌⊎◌, ⊎_elim, inl, inr, List, ◌++◌, ap, sym, subst, refl, Option, None, Some, Ok, Err}
use Rattle.std.specs.Prelude.{◌≢◌, Result, IfOk, OnOk}
use Rattle.std.specs.List.{AllPairs}
use Rattle.rs_disk.specs.File.{contents}
use Rattle.rs_disk.specs.Images.{read_is_image}
use Rattle.rs_disk.specs.Moments.{EachMoment}
use Rattle.rs_disk.specs.State.{State}
use Rattle.record_file.specs.declared.error.FileError.{FileError}
use Rattle.record_file.specs.declared.error.FileError.TheVariants.{Disk as FileDisk, Memory as FileMemory}
use Rattle.oplog_entry.specs.Log.{StandsBefore}
use Rattle.oplog_entry.specs.Visible.{ZERO, last_of}
use Rattle.repl_msg.specs.Kept.{kept}
use Rattle.repl_msg.specs.declared.record.Kept.{Kept}
use Rattle.repl_msg.specs.declared.record.Record.{Record}
use Rattle.node_journal.specs.Files.{HasJournal, IsAtRest as JournalAtRest}
use Rattle.node_journal.specs.Renewed.{renewed}
use Rattle.node_journal.proofs.ApartLemmas.{one_journal}
use Rattle.node_journal.proofs.DiskLemmas.{rest_only}
use Rattle.checkpoint_store.specs.Files.{HasCheckpoint, IsAtRest as CheckpointsAtRest}
use Rattle.checkpoint_store.specs.declared.stable.Stable.{Stable}
use Rattle.checkpoint_store.proofs.OnceLemmas.{checkpoint_once, rest_has}
use Rattle.initial_sync.specs.Answers.{LeavesAsRead, checkpoints_after, copy_error, error_after, journal_after}
use Rattle.initial_sync.specs.Copies.{AreCopyDisks, Copy, IsWhole, LeaveBoth, documents_of}
use Rattle.initial_sync.specs.Missing.{HasFront, IsOfThis, missing}
use Rattle.initial_sync.specs.Moments.{EachMomentOfBoth, IsBeforeOrContinued}
use Rattle.initial_sync.specs.Runs.{Fills, Goes, IsFound, IsStop, OpensBoth, Ran, WentOn}
use Rattle.initial_sync.specs.declared.error.CopyError.{CopyError}
use Rattle.initial_sync.specs.declared.error.CopyError.TheVariants.{Disk, OtherCopy, Memory}
use Rattle.initial_sync.proofs.MomentLemmas.{checkpoint_disk, filled, opened_only, whole_now}
use Rattle.initial_sync.proofs.PartLemmas.{IsBase, base_of, missing_renewed, this_as_it_was, this_renewed}
use Rattle.initial_sync.proofs.WritingLemmas.{saved_none}

other_or_not : (error : Option CopyError) → (error ≡ Some OtherCopy) ⊎ (error ≢ Some OtherCopy)
other_or_not None = inr (λ is. cc)
other_or_not (Some Disk) = inr (λ is. cc)
other_or_not (Some Memory) = inr (λ is. cc)
other_or_not (Some OtherCopy) = inl refl

no_stop : (error : Option CopyError) → error ≡ None → IsStop error → ⊥
no_stop error done (inl is) = cc
no_stop error done (inr is) = cc

no_other_stop : (error : Option CopyError) → error ≡ Some OtherCopy → IsStop error → ⊥
no_other_stop error other (inl is) = cc
no_other_stop error other (inr is) = cc

not_other : (error : Option CopyError) → error ≡ None → error ≢ Some OtherCopy
not_other error done is = cc

pub found_base : (copy : Copy) (found : Kept) (stable : Stable) (j j1 c c1 : State) → AllPairs StandsBefore copy.entries → AreCopyDisks j c → IsFound found stable j j1 c c1 → IsOfThis copy found stable.at
    → IsBase copy found stable
found_base copy found stable j j1 c c1 order are is this =
    base_of copy found stable is.items (contents j.file) (contents c.file) order (are.leave (contents j.file) (read_is_image j.file) (contents c.file) (read_is_image c.file))
    is.records is.kept_is is.documents this

-- a checkpoint as of the last entry is that of the documents
pub there_so : (copy : Copy) (found : Kept) (stable : Stable) (j j1 c c1 : State) → AllPairs StandsBefore copy.entries → last_of copy.entries ≢ ZERO → AreCopyDisks j c → IsFound found stable j j1 c c1
    → IsOfThis copy found stable.at → stable.at ≡ last_of copy.entries → stable ≡ documents_of copy.entries
there_so copy found stable j j1 c c1 order above are is this at =
    ⊎_elim (λ none. absurd (above (sym at ∙ ap (λ (s : Stable). s.at) none))) (λ all. all.0) (found_base copy found stable j j1 c c1 order are is this).stable_is

pub ran_on : (copy : Copy) (error : Option CopyError) (found : Kept) (stable : Stable) (j j1 j' c c1 c' : State) → OpensBoth j j1 c c1 → IsFound found stable j j1 c c1
    → Goes copy found stable error j1 j' c1 c' → Ran copy error j j' c c'
ran_on copy error found stable j j1 j' c c1 c' opens is goes =
    record { journal = j1; checkpoints = c1; opens = opens; went = ⊎_elim (λ stop. inl stop) (λ went. inr (found, stable, is, went)) goes }

-- the records were not all added
pub fills_failed : (copy : Copy) (found : Kept) (items : List Record) (stable : Stable) {Done : Type 0} (j j' c : State) → (Done → ⊥) → CheckpointsAtRest c stable → found ≡ kept items
    → EachMoment (HasFront items (missing copy found)) j j' → Fills copy items stable Done j j' c c
fills_failed copy found items stable j j' c not_done rests is adds = record {
  adds = subst (λ (k : Kept). EachMoment (HasFront items (missing copy k)) j j') is adds;
  saves = saved_none c stable (documents_of copy.entries) (rest_has c stable rests);
  in_turn = inl refl;
  done = λ done. absurd (not_done done);
}

-- a file failed, or memory ran out
pub failed_on : (copy : Copy) (found : Kept) (stable : Stable) {Done : Type 0} (failed : FileError) (error : CopyError) (j j' c c' : State) → error ≡ copy_error failed → IsOfThis copy found stable.at
    → ((items : List Record) → JournalAtRest j items → found ≡ kept items → Fills copy items stable Done j j' c c') → Goes copy found stable (Some error) j j' c c'
failed_on copy found stable failed error j j' c c' is this fills = inr (record {
  other = λ other. absurd (never failed error is other);
  this = λ _. this;
  fills = λ _ items rest same.
      let so = fills items rest same in
      record { adds = so.adds; saves = so.saves; in_turn = so.in_turn; done = λ done. absurd (cc done) };
})
  where
    never : (failed : FileError) (error : CopyError) → error ≡ copy_error failed → Some error ≡ Some OtherCopy → ⊥
    never FileDisk error is other = cc
    never FileMemory error is other = cc

module _ (copy : Copy) (order : AllPairs StandsBefore copy.entries) (error : Option CopyError) (j j' c c' : State) (are : AreCopyDisks j c) (ran : Ran copy error j j' c c') where
  still : (j' ≡ ran.journal) → (c' ≡ ran.checkpoints) → EachMomentOfBoth (IsBeforeOrContinued j c copy) j j' c c'
  still one two =
      subst (λ (s : State). EachMomentOfBoth (IsBeforeOrContinued j c copy) j s c c') (sym one)
      (subst (λ (s : State). EachMomentOfBoth (IsBeforeOrContinued j c copy) j ran.journal c s) (sym two)
      (opened_only j ran.journal c ran.checkpoints copy (checkpoint_disk j c are) ran.opens))

  pub moments : EachMomentOfBoth (IsBeforeOrContinued j c copy) j j' c c'
  moments = ⊎_elim (λ stop. still stop.1 stop.2)
      (λ went.
      let found : Kept = went.0 in
      let stable : Stable = went.1 in
      let is : IsFound found stable j ran.journal c ran.checkpoints = went.2 in
      let on : WentOn copy found stable error ran.journal j' ran.checkpoints c' = went.3 in
      ⊎_elim (λ other. still (on.other other).1 (on.other other).2)
      (λ this. filled j ran.journal c ran.checkpoints copy (checkpoint_disk j c are) ran.opens found stable is
      (found_base copy found stable j ran.journal c ran.checkpoints order are is (on.this this)) order j' c' (on.fills this (renewed is.items) is.journal is.kept_is))
      (other_or_not error)) ran.went

  -- it was done
  module _ (done : error ≡ None) where
    found_so : (found : Kept) × (stable : Stable) × IsFound found stable j ran.journal c ran.checkpoints × WentOn copy found stable error ran.journal j' ran.checkpoints c'
    found_so = ⊎_elim (λ stop. absurd (no_stop error done stop.0)) (λ went. went) ran.went

    abbrev IsDone : List Record → Type 0
    IsDone items = JournalAtRest j' (renewed items ++ missing copy (kept items)) × CheckpointsAtRest c' (documents_of copy.entries)

    all_done : (items : List Record) → HasJournal (contents j.file) items → IsDone items
    all_done items has =
        let is = found_so.2 in
        let both = (found_so.3.fills (not_other error done) (renewed is.items) is.journal is.kept_is).done done in
        subst IsDone (one_journal (contents j.file) is.items items is.records has)
        (subst (λ (l : List Record). JournalAtRest j' (renewed is.items ++ l)) (missing_renewed copy is.items) both.0, both.1)

    pub goes_on : (items : List Record) → HasJournal (contents j.file) items → JournalAtRest j' (renewed items ++ missing copy (kept items))
    goes_on items has = (all_done items has).0

    pub this_found : (items : List Record) (stable : Stable) → HasJournal (contents j.file) items → HasCheckpoint (contents c.file) stable → IsOfThis copy (kept items) stable.at
    this_found items stable has shows =
        let is = found_so.2 in
        subst (λ (s : Stable). IsOfThis copy (kept items) s.at) (checkpoint_once (contents c.file) found_so.1 stable is.documents shows)
        (this_as_it_was copy items found_so.1.at
        (subst (λ (k : Kept). IsOfThis copy k found_so.1.at) (is.kept_is ∙ ap (λ (l : List Record). kept (renewed l)) (one_journal (contents j.file) is.items items is.records has))
        (found_so.3.this (not_other error done))))

    pub whole : LeaveBoth (IsWhole copy) j'.file c'.file
    whole x left y here =
        let is = found_so.2 in
        let both = all_done is.items is.records in
        let base = found_base copy found_so.0 found_so.1 j ran.journal c ran.checkpoints order are is (found_so.3.this (not_other error done)) in
        whole_now j ran.journal c ran.checkpoints copy (checkpoint_disk j c are) ran.opens found_so.0 found_so.1 is base order x y
        (rest_only j' (renewed is.items ++ missing copy (kept is.items)) both.0 x left) (rest_has c' (documents_of copy.entries) both.1 y here)

  -- it was refused
  module _ (other : error ≡ Some OtherCopy) where
    found_other : (found : Kept) × (stable : Stable) × IsFound found stable j ran.journal c ran.checkpoints × WentOn copy found stable error ran.journal j' ran.checkpoints c'
    found_other = ⊎_elim (λ stop. absurd (no_other_stop error other stop.0)) (λ went. went) ran.went

    pub other_found : (items : List Record) (stable : Stable) → HasJournal (contents j.file) items → HasCheckpoint (contents c.file) stable → ¬ IsOfThis copy (kept items) stable.at
    other_found items stable has shows this =
        let is = found_other.2 in
        (found_other.3.other other).0
        (subst (λ (s : Stable). IsOfThis copy found_other.0 s.at) (sym (checkpoint_once (contents c.file) found_other.1 stable is.documents shows))
        (subst (λ (k : Kept). IsOfThis copy k stable.at)
        (sym (is.kept_is ∙ ap (λ (l : List Record). kept (renewed l)) (one_journal (contents j.file) is.items items is.records has))) (this_renewed copy items stable.at this)))

    pub as_read : LeavesAsRead j j' c c'
    as_read = record {
      journal = λ items has.
          subst (λ (s : State). JournalAtRest s (renewed items)) (sym (found_other.3.other other).1)
          (subst (λ (l : List Record). JournalAtRest ran.journal (renewed l)) (one_journal (contents j.file) found_other.2.items items found_other.2.records has) found_other.2.journal);
      checkpoints = λ stable shows.
          subst (λ (s : State). CheckpointsAtRest s stable) (sym (found_other.3.other other).2)
          (subst (CheckpointsAtRest ran.checkpoints) (checkpoint_once (contents c.file) found_other.1 stable found_other.2.documents shows) found_other.2.checkpoints);
    }

-- ---- by the answer

module _ {D : Type 0} (state : D → State) (copy : Copy) (order : AllPairs StandsBefore copy.entries) (above : last_of copy.entries ≢ ZERO) (j c : State) (are : AreCopyDisks j c) where
  abbrev RanTo : Result (D × D) (D × D × CopyError) → Type 0
  RanTo result = Ran copy (error_after result) j (state (journal_after result)) c (state (checkpoints_after result))

  pub whole_of : (result : Result (D × D) (D × D × CopyError)) → RanTo result → IfOk result (λ disks. LeaveBoth (IsWhole copy) (state disks.0).file (state disks.1).file)
  whole_of (Ok disks) ran = whole copy order None j (state disks.0) c (state disks.1) are ran refl
  whole_of (Err refused) ran = tt

  pub goes_on_of : (result : Result (D × D) (D × D × CopyError)) → RanTo result
      → IfOk result (λ disks. (items : List Record) → HasJournal (contents j.file) items → JournalAtRest (state disks.0) (renewed items ++ missing copy (kept items)))
  goes_on_of (Ok disks) ran = goes_on copy order None j (state disks.0) c (state disks.1) are ran refl
  goes_on_of (Err refused) ran = tt

  pub this_of : (result : Result (D × D) (D × D × CopyError)) → RanTo result
      → OnOk result ((items : List Record) (stable : Stable) → HasJournal (contents j.file) items → HasCheckpoint (contents c.file) stable → IsOfThis copy (kept items) stable.at)
  this_of (Ok disks) ran = this_found copy order None j (state disks.0) c (state disks.1) are ran refl
  this_of (Err refused) ran = tt
