-- Two empty disks become a copy.
use Rattle.std.proofs.Common.{◌≡◌, ◌≤◌, arith, ◌∙◌, ⊎_elim, inl, inr, sym, subst, refl, append-nil, List, [], ap, Option, None, Some, Err}
use Rattle.std.specs.Prelude.{◌≢◌, ℕ, Result}
use Rattle.std.specs.Io.KnownBytes.{Keeps}
use Rattle.rs_io.specs.Fault.{CountRose}
use Rattle.rs_disk.specs.File.{IsEmpty, contents}
use Rattle.rs_disk.specs.Images.{read_is_image}
use Rattle.rs_disk.specs.Moments.{starts}
use Rattle.rs_disk.specs.State.{State}
use Rattle.record_file.proofs.KeepsLemmas.{keeps_then}
use Rattle.record_file.specs.declared.error.FileError.{FileError}
use Rattle.record_file.specs.declared.error.FileError.TheVariants.{Disk as FileDisk, Memory as FileMemory}
use Rattle.repl_msg.specs.Kept.{kept}
use Rattle.repl_msg.specs.declared.record.Record.{Record}
use Rattle.vote_store.specs.declared.vote.Vote.{Vote}
use Rattle.oplog_entry.specs.Log.{Begins}
use Rattle.oplog_entry.specs.declared.entry.Entry.{Entry}
use Rattle.node_journal.specs.Files.{HasJournal}
use Rattle.checkpoint_store.specs.Checkpoint.{no_stable}
use Rattle.checkpoint_store.specs.Files.{HasCheckpoint}
use Rattle.checkpoint_store.specs.declared.stable.Stable.{Stable}
use Rattle.initial_sync.specs.Answers.{RanBoth}
use Rattle.initial_sync.specs.Copies.{Copy, IsPartOrWhole, IsWhole, LeaveBoth, documents_of, empty_part}
use Rattle.initial_sync.specs.Missing.{IsOfThis}
use Rattle.initial_sync.specs.Moments.{EachMomentOfBoth}
use Rattle.initial_sync.specs.declared.error.CopyError.{CopyError}
use Rattle.initial_sync.specs.declared.error.CopyError.TheVariants.{Disk, OtherCopy, Memory as NoBytes}
use Rattle.initial_sync.proofs.MomentLemmas.{at_the_end, weaker}
use Rattle.sync_copy.specs.Making.{BecomesMember, of_copy, of_file}
use Rattle.sync_words.specs.declared.stop.SyncStop.{SyncStop}
use Rattle.sync_words.specs.declared.stop.SyncStop.TheVariants.{DiskFault, WriteFault}
use Rattle.sync_words.specs.Putting.{PutsText}

-- ---- empty disks have no other copy

abbrev Read : List ℕ → List ℕ → Copy → Type 0
Read x y copy = (items : List Record) × (stable : Stable) × HasJournal x items × HasCheckpoint y stable × IsOfThis copy (kept items) stable.at

of_this : (copy : Copy) (x y : List ℕ) → IsPartOrWhole copy x y → Read x y copy
of_this copy x y of = ⊎_elim
    (λ part. (
      part.log.records,
      no_stable,
      part.log.has,
      part.none,
      record {
        term = ⊎_elim (λ same. inr (ap (λ (v : Vote). v.term) part.log.is.vote ∙ same)) (λ none. inl (ap (λ (v : Vote). v.term) part.log.is.vote ∙ none.1)) part.term_is;
        entries = subst (λ (l : List Entry). Begins l copy.entries) (sym part.log.is.entries) part.begins;
        checkpoint = inl refl;
      },
    ))
    (λ whole. (
      whole.log.records,
      documents_of copy.entries,
      whole.log.has,
      whole.documents,
      record {
        term = inr (ap (λ (v : Vote). v.term) whole.log.is.vote);
        entries = subst (λ (l : List Entry). Begins l copy.entries) (sym whole.log.is.entries) ([], sym (append-nil copy.entries));
        checkpoint = inr refl;
      },
    )) of

pub no_other : (copy : Copy) (j c : State) → IsEmpty j.file → IsEmpty c.file → (error : Option CopyError)
    → (error ≡ Some OtherCopy → (items : List Record) (stable : Stable) → HasJournal (contents j.file) items → HasCheckpoint (contents c.file) stable → ¬ IsOfThis copy (kept items) stable.at)
    → error ≢ Some OtherCopy
no_other copy j c journal checkpoints error other is =
    let here = of_this copy (contents j.file) (contents c.file) (empty_part copy j c journal checkpoints (contents j.file) (read_is_image j.file) (contents c.file) (read_is_image c.file)) in
    other is here.0 here.1 here.2 here.3 here.4

-- ---- faults

pub fault_as : (F G : Type 0) (j j' c c' : State) → (G → F) → RanBoth F j j' c c' → RanBoth G j j' c c'
fault_as F G j j' c c' so ran = record {
  journal = ran.journal;
  checkpoints = ran.checkpoints;
  cause = λ fault. ran.cause (so fault);
  only_armed = λ fault. ran.only_armed (so fault);
}

-- what ran first had no fault of which more is said
pub ran_then : (F G : Type 0) (j mid j' c mid_too c' : State) → RanBoth F j mid c mid_too → RanBoth G mid j' mid_too c' → RanBoth G j j' c c'
ran_then F G j mid j' c mid_too c' first later = record {
  journal = keeps_then j mid j' first.journal later.journal;
  checkpoints = keeps_then c mid_too c' first.checkpoints later.checkpoints;
  cause = λ fault. ⊎_elim (λ rose. inl (rises j.faults mid.faults j'.faults first.journal.faults rose)) (λ rose. inr (rises c.faults mid_too.faults c'.faults first.checkpoints.faults rose)) (later.cause fault);
  only_armed = λ fault steady steady_too. ⊎_elim (λ armed. inl (first.journal.armed armed)) (λ armed. inr (first.checkpoints.armed armed))
      (later.only_armed fault (first.journal.steady steady) (first.checkpoints.steady steady_too));
}
  where
    rises : (before between now : ℕ) → before ≤ between → CountRose between now → CountRose before now
    rises before between now order rose = omega (arith, order, rose)

abbrev Stopped : SyncStop → Result (Unit {0}) SyncStop
Stopped stop = Err stop

pub copy_fault : (error : CopyError) → Some error ≢ Some OtherCopy → Stopped (of_copy error) ≡ Stopped DiskFault → Some error ≡ Some Disk
copy_fault Disk other is = refl
copy_fault OtherCopy other is = absurd (other refl)
copy_fault NoBytes other is = absurd (cc is)

pub file_fault : (error : FileError) → Stopped (of_file error) ≡ Stopped DiskFault → error ≡ FileDisk
file_fault FileDisk is = refl
file_fault FileMemory is = absurd (cc is)

-- ---- what is put

keeps_same : (held : Option (List ℕ)) → Keeps held held
keeps_same None = tt
keeps_same (Some held) = refl

pub copy_puts : (error : CopyError) (held : Option (List ℕ)) (text : List ℕ) → PutsText held held text (Err (of_copy error))
copy_puts Disk held text = keeps_same held
copy_puts OtherCopy held text = keeps_same held
copy_puts NoBytes held text = keeps_same held

pub file_puts : (error : FileError) (held : Option (List ℕ)) (text : List ℕ) → PutsText held held text (Err (of_file error))
file_puts FileDisk held text = keeps_same held
file_puts FileMemory held text = keeps_same held

-- ---- moments

pub made : (copy : Copy) (ended : Result (Unit {0}) SyncStop) (j mid j' c mid_too c' : State) → EachMomentOfBoth (IsPartOrWhole copy) j mid c mid_too → EachMomentOfBoth (IsWhole copy) mid j' mid_too c'
    → BecomesMember copy ended j j' c c'
made copy ended j mid j' c mid_too c' copied told = record {
  journal = mid;
  checkpoints = mid_too;
  copied = copied;
  told = weaker (IsWhole copy) (IsPartOrWhole copy) (λ x y whole. inr whole) mid j' mid_too c' told;
  whole = λ _. at_the_end (IsWhole copy) mid j' mid_too c' told;
}

-- a copy that fails isn't a sink that does
pub not_told : (error : CopyError) (stop : SyncStop) → stop ≡ of_copy error → stop ≢ WriteFault
not_told Disk stop is told = cc
not_told OtherCopy stop is told = cc
not_told NoBytes stop is told = cc

pub unmade : (copy : Copy) (stop : SyncStop) (j j' c c' : State) → stop ≢ WriteFault → EachMomentOfBoth (IsPartOrWhole copy) j j' c c' → BecomesMember copy (Err stop) j j' c c'
unmade copy stop j j' c c' untold copied = record {
  journal = j';
  checkpoints = c';
  copied = copied;
  told = stays (at_the_end (IsPartOrWhole copy) j j' c c' copied);
  whole = λ all. absurd (⊎_elim (λ done. cc done) (λ fault. untold (cc fault)) all);
}
  where
    stays : LeaveBoth (IsPartOrWhole copy) j'.file c'.file → EachMomentOfBoth (IsPartOrWhole copy) j' j' c' c'
    stays leave = record {
      journal = j';
      checkpoints = c';
      opens_journal = starts _ j' leave;
      opens_checkpoints = starts _ c' (λ y here x left. leave x left y here);
      writes_journal = starts _ j' leave;
      writes_checkpoints = starts _ c' (λ y here x left. leave x left y here);
    }
