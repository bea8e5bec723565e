-- A copy of a member's log and documents on the two disks of a new member: whole, or as far as it got.
use Rattle.std.specs.Prelude.{◌≡◌, ◌≢◌, ◌⊎◌, ℕ, List, [], ◌∷◌, None, length}
use Rattle.std.proofs.Common.{inl, inr, refl, ap, arith}
use Rattle.rs_disk.specs.File.{File, IsEmpty, LeavesOnly}
use Rattle.rs_disk.specs.State.{State}
use Rattle.rs_optime.specs.declared.optime.OpTime.{OpTime}
use Rattle.oplog_entry.specs.Docs.{docs}
use Rattle.oplog_entry.specs.Log.{Begins}
use Rattle.oplog_entry.specs.Visible.{ZERO, last_of}
use Rattle.oplog_entry.specs.declared.entry.Entry.{Entry}
use Rattle.oplog_entry.specs.declared.entry.Op.TheVariants.{Noop}
use Rattle.repl_msg.specs.Kept.{kept}
use Rattle.repl_msg.specs.declared.record.Kept.{Kept}
use Rattle.repl_msg.specs.declared.record.Record.{Record}
use Rattle.node_journal.specs.Files.{HasJournal}
use Rattle.checkpoint_store.specs.Checkpoint.{no_stable}
use Rattle.checkpoint_store.specs.Files.{HasCheckpoint}
use Rattle.checkpoint_store.specs.declared.stable.Stable.{Stable}

-- what is copied: a member's term, and the entries of its log
pub record Copy : Type 0 where
  pub term : ℕ
  pub entries : List Entry

-- this term without a vote, no configuration, and these entries up to the last one
pub record IsOf (term : ℕ) (log : List Entry) (state : Kept) : Type 0 where
  pub vote : state.vote ≡ record { term = term; candidate = None }
  pub config : state.config ≡ None
  pub entries : state.entries ≡ log
  pub point : state.point ≡ last_of log

-- the bytes are a journal whose records add up to that
pub record GivesBack (term : ℕ) (log : List Entry) (image : List ℕ) : Type 0 where
  pub records : List Record
  pub has : HasJournal image records
  pub is : IsOf term log (kept records)

-- the documents that the entries leave, as of the last one
abbrev pub documents_of : List Entry → Stable
documents_of entries = record { at = last_of entries; documents = docs entries }

-- the journal has the term and all entries, and the last completed checkpoint is that of their documents
pub record IsWhole (copy : Copy) (journal checkpoints : List ℕ) : Type 0 where
  pub log : GivesBack copy.term copy.entries journal
  pub documents : HasCheckpoint checkpoints (documents_of copy.entries)

-- where no entry was copied yet, the term may be missing too
abbrev pub IsTermOf : Copy → List Entry → ℕ → Type 0
IsTermOf copy front term = (term ≡ copy.term) ⊎ ((front ≡ []) × (term ≡ 0))

-- the journal has the first entries, and no checkpoint was completed
pub record IsPart (copy : Copy) (journal checkpoints : List ℕ) : Type 0 where
  pub front : List Entry
  pub begins : Begins front copy.entries
  pub term : ℕ
  pub term_is : IsTermOf copy front term
  pub log : GivesBack term front journal
  pub none : HasCheckpoint checkpoints no_stable

abbrev pub IsPartOrWhole : Copy → List ℕ → List ℕ → Type 0
IsPartOrWhole copy journal checkpoints = IsPart copy journal checkpoints ⊎ IsWhole copy journal checkpoints

-- Whatever a crash of both disks leaves now has this property. So does what they read as, which is
-- one of these.
abbrev pub LeaveBoth : (List ℕ → List ℕ → Type 0) → File → File → Type 0
LeaveBoth P journal checkpoints = LeavesOnly (λ image. LeavesOnly (P image) checkpoints) journal

-- a part or the whole of some copy that has an entry
abbrev pub IsOfSomeCopy : List ℕ → List ℕ → Type 0
IsOfSomeCopy journal checkpoints =
    (copy : Copy) × (last_of copy.entries ≢ ZERO) × IsPartOrWhole copy journal checkpoints

-- disks that a copy can use: they are empty, or a copy left them
pub record AreCopyDisks (journal checkpoints : State) : Type 0 where
  pub leave : LeaveBoth IsOfSomeCopy journal.file checkpoints.file

-- empty disks are a part of every copy, so a copy can use them
pub empty_part : (copy : Copy) (j c : State) → IsEmpty j.file → IsEmpty c.file
    → LeaveBoth (IsPartOrWhole copy) j.file c.file
empty_part copy j c no_journal no_checkpoints journal left checkpoints here = inl (record {
  front = [];
  begins = (copy.entries, refl);
  term = 0;
  term_is = inr (refl, refl);
  log = record {
    records = [];
    has = record {
      pieces = [];
      spelled = tt;
      has = inl (omega (arith, ap length (no_journal.leaves journal left)), refl);
    };
    is = record { vote = refl; config = refl; entries = refl; point = refl };
  };
  none = record {
    records = [];
    list = record {
      each = λ k d within. absurd (omega arith);
      has = inl (omega (arith, ap length (no_checkpoints.leaves checkpoints here)), refl);
    };
    last = refl;
  };
})

pub empty_disks : (j c : State) → IsEmpty j.file → IsEmpty c.file → AreCopyDisks j c
empty_disks j c no_journal no_checkpoints = record {
  leave = λ journal left checkpoints here. (
    one,
    λ zero. absurd (omega (arith, ap (λ (o : OpTime). o.ts) zero)),
    empty_part one j c no_journal
        no_checkpoints journal left checkpoints here,
  );
}
  where
    one : Copy
    one = record {
      term = 0;
      entries = record { optime = record { term = 0; ts = 1 }; op = Noop; session = None } ∷ [];
    }
