-- What is read from the disks of a copy.
use Rattle.std.proofs.Common.{◌≡◌, ◌∙◌, List, ap}
use Rattle.rs_disk.specs.File.{contents}
use Rattle.rs_disk.specs.Images.{read_is_image}
use Rattle.rs_disk.specs.State.{State}
use Rattle.repl_msg.specs.Kept.{kept}
use Rattle.repl_msg.specs.declared.record.Kept.{Kept}
use Rattle.repl_msg.specs.declared.record.Record.{Record}
use Rattle.node_journal.specs.Renewed.{renewed}
use Rattle.node_journal.proofs.ApartLemmas.{one_journal}
use Rattle.checkpoint_store.specs.declared.stable.Stable.{Stable}
use Rattle.checkpoint_store.proofs.OnceLemmas.{checkpoint_once}
use Rattle.initial_sync.specs.Copies.{AreCopyDisks, Copy, IsOf, IsPartOrWhole, IsWhole, LeaveBoth, documents_of}
use Rattle.initial_sync.specs.Moments.{EachMomentOfBoth, IsBefore}
use Rattle.initial_sync.specs.Reading.{AreRead, ReadsOver}
use Rattle.initial_sync.specs.Runs.{IsFound, OpensBoth}
use Rattle.initial_sync.proofs.MomentLemmas.{at_the_end, checkpoint_disk, of_before, of_some_copy, opened_so, whole_before}
use Rattle.initial_sync.proofs.PartLemmas.{given_back}

pub reads_over : (j j' c c' : State) → AreCopyDisks j c → OpensBoth j j' c c' → ReadsOver j j' c c'
reads_over j j' c c' are opens = record {
  moments = moments;
  part = λ copy leave. opened_so (IsPartOrWhole copy) j j' c c' (checkpoint_disk j c are) (of_before j c copy copy leave) opens;
  whole = λ copy leave. opened_so (IsWhole copy) j j' c c' (checkpoint_disk j c are) (whole_before j c copy leave) opens;
  left = record { leave = λ x left y here. of_some_copy j c are x y (at_the_end (IsBefore j c) j j' c c' moments x left y here) };
}
  where
    moments : EachMomentOfBoth (IsBefore j c) j j' c c'
    moments = opened_so (IsBefore j c) j j' c c' (checkpoint_disk j c are) (λ x y one two. (one, two)) opens

-- the records that are there, and the last checkpoint
pub read_so : (found : Kept) (stable : Stable) (j j' c c' : State) → IsFound found stable j j' c c' → AreRead j c found stable
read_so found stable j j' c c' is items last has shows = (
  is.kept_is ∙ ap (λ (l : List Record). kept (renewed l)) (one_journal (contents j.file) is.items items is.records has),
  checkpoint_once (contents c.file) stable last is.documents shows,
)

-- a whole copy was read
pub read_whole : (copy : Copy) (found : Kept) (stable : Stable) (j j' c c' : State) → IsFound found stable j j' c c' → LeaveBoth (IsWhole copy) j.file c.file
    → IsOf copy.term copy.entries found × (stable ≡ documents_of copy.entries)
read_whole copy found stable j j' c c' is leave =
    let whole : IsWhole copy (contents j.file) (contents c.file) = leave (contents j.file) (read_is_image j.file) (contents c.file) (read_is_image c.file) in
    (given_back copy.term copy.entries (contents j.file) is.items found whole.log is.records is.kept_is, checkpoint_once (contents c.file) stable (documents_of copy.entries) is.documents whole.documents)
