-- A journal's disk is a record file's, and a crash leaves of the one what it leaves of the other.
use Rattle.std.proofs.Common.{⊎_elim, inl, inr, ℕ, List, [], ◌∷◌, ◌++◌, subst}
use Rattle.std.specs.Prelude.{Result, Ok, Err, OnOk}
use Rattle.rs_disk.specs.File.{File, IsImage, LeavesOnly, contents}
use Rattle.rs_disk.specs.Images.{read_is_image, only_image}
use Rattle.rs_disk.specs.Moments.{EachMoment, weakens, starts}
use Rattle.rs_disk.specs.State.{State}
use Rattle.record_file.specs.Records.{HasRecords, body}
use Rattle.record_file.specs.declared.error.FileError.{FileError}
use Rattle.record_file.specs.Files as files
use Rattle.record_file.proofs.LayerLemmas as layers
use Rattle.record_file.proofs.ParseLemmas.{one_list}
use Rattle.repl_msg.specs.declared.record.Record.{Record}
use Rattle.node_journal.specs.Layout.{record_bytes}
use Rattle.node_journal.specs.Spelled.{IsWritten, AreSpelled}
use Rattle.node_journal.specs.Files.{HasJournal, IsAtRest, IsOpen, IsOneOf, IsJournalDisk, IsBeforeOrAfter}
use Rattle.node_journal.proofs.LoopLemmas.{spelled_push, written_spelled}

pub disk_is : (state : State) → IsJournalDisk state → files.IsRecordDisk state
disk_is state is = record { leaves = λ image left. let found = is.leaves image left in (found.1.pieces, found.1.has) }

pub open_is : (state : State) → IsOpen state → files.IsOpen state
open_is state is = record { records = is.rests.pieces; rests = is.rests.rests }

-- one record more
pub rests_push : (state : State) (records : List Record) (pieces : List (List ℕ)) (item : Record) (piece : List ℕ) → AreSpelled records pieces → IsWritten item piece
    → files.IsAtRest state (pieces ++ piece ∷ []) → IsAtRest state (records ++ item ∷ [])
rests_push state records pieces item piece spelled here rests = record {
  pieces = pieces ++ piece ∷ [];
  spelled = spelled_push records pieces item piece spelled (written_spelled item piece here);
  rests = rests;
}

either : (records : List Record) (pieces : List (List ℕ)) (item : Record) (piece : List ℕ) → AreSpelled records pieces → IsWritten item piece
    → (image : List ℕ) → files.IsBeforeOrAfter pieces piece image → IsBeforeOrAfter records item image
either records pieces item piece spelled here image (inl before) = inl (record { pieces = pieces; spelled = spelled; has = before })
either records pieces item piece spelled here image (inr after) =
    inr (record { pieces = pieces ++ piece ∷ []; spelled = spelled_push records pieces item piece spelled (written_spelled item piece here); has = after })

-- each moment of an append is one of an addition
pub adds : (records : List Record) (pieces : List (List ℕ)) (item : Record) (piece : List ℕ) (old new : State) → AreSpelled records pieces → IsWritten item piece
    → EachMoment (files.IsBeforeOrAfter pieces piece) old new → EachMoment (IsBeforeOrAfter records item) old new
adds records pieces item piece old new spelled here moments =
    weakens (files.IsBeforeOrAfter pieces piece) (IsBeforeOrAfter records item) (either records pieces item piece spelled here) old new moments

-- what an addition leaves is a journal's disk
pub either_left : (records : List Record) (item : Record) (old new : State) → EachMoment (IsBeforeOrAfter records item) old new → IsJournalDisk new
either_left records item old new moments =
    record { leaves = λ image is. ⊎_elim (λ before. (records, before)) (λ after. (records ++ item ∷ [], after)) (moments.now image is) }

-- a synced list of records is what every crash leaves
pub rest_leaves : (state : State) (records : List Record) → IsAtRest state records → LeavesOnly (λ image. HasJournal image records) state.file
rest_leaves state records rest image is = record {
  pieces = rest.pieces;
  spelled = rest.spelled;
  has = inr (rest.rests.front, [], rest.rests.open_records, only_image (rest.rests.front ++ 0 ∷ []) image (subst (λ (f : File). IsImage f image) rest.rests.file is));
}

-- where nothing was done yet
pub nothing_yet : (state : State) (records : List Record) (item : Record) → IsAtRest state records → EachMoment (IsBeforeOrAfter records item) state state
nothing_yet state records item rest =
    starts (IsBeforeOrAfter records item) state (λ image is. inl (rest_leaves state records rest image is))

pub open_left : (state : State) → IsOpen state → IsJournalDisk state
open_left state is = record { leaves = λ image left. (is.records, rest_leaves state is.records is.rests image left) }

-- the records that were read are those of the file
pub pieces_are : (bytes : List ℕ) (pieces : List (List ℕ)) (records : List Record) → HasRecords bytes pieces → HasJournal bytes records → AreSpelled records pieces
pieces_are bytes pieces records has journal =
    subst (λ (l : List (List ℕ)). AreSpelled records l) (one_list bytes journal.pieces pieces journal.has has) journal.spelled

-- an opening
moves : (one other : List ℕ) (pieces : List (List ℕ)) (records : List Record) → HasRecords one pieces → HasRecords other pieces → HasJournal one records → HasJournal other records
moves one other pieces records has there journal = record { pieces = pieces; spelled = pieces_are one pieces records has journal; has = there }

pub opens : (old new : State) → IsJournalDisk old → EachMoment (files.IsOneOf old) old new → EachMoment (IsOneOf old) old new
opens old new is moments = layers.opens HasJournal moves old new is.leaves moments

pub opened_left : (old new : State) → IsJournalDisk old → EachMoment (files.IsOneOf old) old new → IsJournalDisk new
opened_left old new is moments = record { leaves = layers.opened_left HasJournal moves old new is.leaves moments }

pub found_records : (state : State) (pieces : List (List ℕ)) → IsJournalDisk state → HasRecords (contents state.file) pieces → (records : List Record) × AreSpelled records pieces
found_records state pieces is has =
    let found = is.leaves (contents state.file) (read_is_image state.file) in (found.0, pieces_are (contents state.file) pieces found.0 has found.1)

pub rests_now : (state : State) (pieces : List (List ℕ)) (records : List Record) → AreSpelled records pieces → files.IsAtRest state pieces → IsAtRest state records
rests_now state pieces records spelled rests = record { pieces = pieces; spelled = spelled; rests = rests }

pub open_now : (old new : State) (pieces : List (List ℕ)) → IsJournalDisk old → HasRecords (contents old.file) pieces → files.IsAtRest new pieces → IsOpen new
open_now old new pieces is has rests =
    let found = found_records old pieces is has in record { records = found.0; rests = rests_now new pieces found.0 found.1 rests }

-- an addition that was done
pub rests_after : {X E : Type 0} (result : Result X E) (old new : State) (item : Record) (piece : List ℕ) → IsWritten item piece
    → OnOk result ((pieces : List (List ℕ)) → files.IsAtRest old pieces → files.IsAtRest new (pieces ++ piece ∷ []))
    → OnOk result ((records : List Record) → IsAtRest old records → IsAtRest new (records ++ item ∷ []))
rests_after (Ok x) old new item piece here appended = λ records rest. rests_push new records rest.pieces item piece rest.spelled here (appended rest.pieces rest.rests)
rests_after (Err e) old new item piece here appended = tt

pub open_after : {X E : Type 0} (result : Result X E) (old new : State) (item : Record) → IsOpen old
    → OnOk result ((records : List Record) → IsAtRest old records → IsAtRest new (records ++ item ∷ [])) → OnOk result (IsOpen new)
open_after (Ok x) old new item is added = record { records = is.records ++ item ∷ []; rests = added is.records is.rests }
open_after (Err e) old new item is added = tt

-- the calls of an addition
pub calls_of : {X : Type 0} (result : Result X FileError) (at : ℕ) (item : Record) (piece : List ℕ) (old new : State) → IsWritten item piece
    → files.EndsBy result (files.append_steps at (body piece ++ 0 ∷ [])) old new → files.EndsBy result (files.append_steps at (body (record_bytes item) ++ 0 ∷ [])) old new
calls_of result at item piece old new here calls =
    subst (λ (l : List ℕ). files.EndsBy result (files.append_steps at (body l ++ 0 ∷ [])) old new) here.spelled calls
