-- A checkpoint store's disk is a record file's, and a crash leaves of the one what it leaves of the other.
use Rattle.std.proofs.Common.{◌≡◌, inl, inr, ℕ, List, [], ◌∷◌, ◌++◌, ◌^◌, ◌<◌, length, map, suc, zero, refl, sym, ap, subst, ◌∙◌, arith, append-nil}
use Rattle.std.specs.Prelude.{All, Result, OnOk, Vec}
use Rattle.std.specs.declared.alloc.Global.{Global}
use Rattle.std.specs.FinMap.{entries}
use Rattle.bson_doc.proofs.BindLemmas.{on_ok}
use Rattle.rs_disk.specs.File.{contents}
use Rattle.rs_disk.specs.Images.{read_is_image}
use Rattle.rs_disk.specs.Moments.{EachMoment, starts, weakens}
use Rattle.rs_disk.specs.State.{State, SameButRoom}
use Rattle.record_file.specs.Records.{HasRecords, lists}
use Rattle.record_file.specs.Files.{EndsBy, adding_steps}
use Rattle.record_file.proofs.ItemLemmas.{same_head, same_tail}
use Rattle.record_file.specs.Files as files
use Rattle.record_file.specs.declared.error.FileError.{FileError}
use Rattle.record_file.proofs.LayerLemmas as layers
use Rattle.record_file.proofs.ParseLemmas.{one_list}
use Rattle.rs_optime.specs.declared.optime.OpTime.{OpTime}
use Rattle.oplog_entry.specs.Docs.{Documents}
use Rattle.version_store.specs.Store.{Store}
use Rattle.checkpoint_store.specs.Checkpoint.{last_whole, checkpoint}
use Rattle.checkpoint_store.specs.Files.{AreSpelled, HasList, HasCheckpoint, IsAtRestWith, IsAtRest, IsOpen, IsOneOf, IsCheckpointDisk, IsBeforeOrAfter}
use Rattle.checkpoint_store.specs.Layout.{Record, record_bytes}
use Rattle.checkpoint_store.specs.Shown.{Shows}
use Rattle.checkpoint_store.specs.Spelled.{IsRecord}
use Rattle.checkpoint_store.specs.declared.stable.Stable.{Stable}
use Rattle.checkpoint_store.proofs.CheckpointLemmas.{front_keeps, checkpoint_counts}
use Rattle.checkpoint_store.proofs.FileLemmas.{IsFront, fronts, rest_leaves, rests_still, rests_with}
use Rattle.checkpoint_store.proofs.SizeLemmas.{record_short}
use Rattle.checkpoint_store.proofs.OnceLemmas.{rest_has}

pub disk_is : (state : State) → IsCheckpointDisk state → files.IsRecordDisk state
disk_is state is = record { leaves = λ image left. let found = is.leaves image left in (map record_bytes found.1.records, found.1.list.has) }

list_has : (image : List ℕ) (records : List Record) → HasList image records → (stable : Stable) × HasCheckpoint image stable
list_has image records list = (last_whole records, record { records = records; list = list; last = refl })

pub open_left : (state : State) → IsOpen state → IsCheckpointDisk state
open_left state is = record { leaves = λ image left. list_has image is.records (rest_leaves state is.records is.rests image left) }

-- ---- an opening

moves : (one other : List ℕ) (pieces : List (List ℕ)) (stable : Stable) → HasRecords one pieces → HasRecords other pieces → HasCheckpoint one stable → HasCheckpoint other stable
moves one other pieces stable has there found =
    let same : pieces ≡ map record_bytes found.records = one_list one pieces (map record_bytes found.records) has found.list.has in
    record {
      records = found.records;
      list = record { each = found.list.each; has = subst (λ (l : List (List ℕ)). HasRecords other l) same there };
      last = found.last;
    }

pub opens : (old new : State) → IsCheckpointDisk old → EachMoment (files.IsOneOf old) old new → EachMoment (IsOneOf old) old new
opens old new is moments = layers.opens HasCheckpoint moves old new is.leaves moments

pub opened_left : (old new : State) → IsCheckpointDisk old → EachMoment (files.IsOneOf old) old new → IsCheckpointDisk new
opened_left old new is moments = record { leaves = layers.opened_left HasCheckpoint moves old new is.leaves moments }

-- the records that were read are those of the file
pub found_records : (state : State) (pieces : List (List ℕ)) → IsCheckpointDisk state → HasRecords (contents state.file) pieces
    → (records : List Record) × All IsRecord records × (pieces ≡ map record_bytes records)
found_records state pieces is has =
    let found = is.leaves (contents state.file) (read_is_image state.file) in
    (found.1.records, found.1.list.each, one_list (contents state.file) pieces (map record_bytes found.1.records) has found.1.list.has)

module _ (bytes : List ℕ) (new : State) (pieces : List (List ℕ)) (records : List Record) (each : All IsRecord records) (same : pieces ≡ map record_bytes records) (stable : Stable)
    (is : stable ≡ last_whole records) where
  pub reads_so : HasRecords bytes pieces → HasCheckpoint bytes stable
  reads_so has = record {
    records = records;
    list = record { each = each; has = subst (λ (l : List (List ℕ)). HasRecords bytes l) same has };
    last = sym is;
  }

  pub rests_so : files.IsAtRest new pieces → IsAtRest new stable
  rests_so rests = record {
    records = records;
    rests = record { each = each; rests = subst (λ (l : List (List ℕ)). files.IsAtRest new l) same rests };
    last = sym is;
  }

pub at_rest_open : (state : State) (stable : Stable) → IsAtRest state stable → IsOpen state
at_rest_open state stable rest = record { records = rest.records; rests = rest.rests }

-- ---- a checkpoint that is saved

-- nothing was done
pub before_all : (state : State) (before after : Stable) → IsAtRest state before → EachMoment (IsBeforeOrAfter before after) state state
before_all state before after rest = starts (IsBeforeOrAfter before after) state (λ image left. inl (rest_has state before rest image left))

either_is : (next before : Stable) {old : State} (rest : IsAtRest old before) (image : List ℕ) → IsFront rest.records (checkpoint next) image → IsBeforeOrAfter before next image
either_is next before rest image (front, [], is, list) = inr (record {
  records = rest.records ++ front;
  list = list;
  last = ap (λ (l : List Record). last_whole (rest.records ++ l)) (sym (is ∙ append-nil front)) ∙ checkpoint_counts rest.records next;
})
either_is next before rest image (front, r ∷ others, is, list) = inl (record {
  records = rest.records ++ front;
  list = list;
  last = front_keeps rest.records next.at (entries next.documents) front (r ∷ others) is (λ none. cc) ∙ rest.last;
})

module _ {X : Type 0} (result : Result X FileError) (old new : State) (store : Store) (at : OpTime) (pieces : List (List ℕ))
    (are : (documents : Documents) → Shows store at documents → AreSpelled (checkpoint (record { at = at; documents = documents })) pieces)
    (done : OnOk result ((before : List (List ℕ)) → files.IsAtRest old before → files.IsAtRest new (before ++ pieces)))
    (moments : (before : List (List ℕ)) → files.IsAtRest old before → EachMoment (files.HasFirst before pieces) old new) where
  -- all of the records were added
  pub saved_records : OnOk result ((documents : Documents) → Shows store at documents → (records : List Record) → IsAtRestWith old records
      → IsAtRestWith new (records ++ checkpoint (record { at = at; documents = documents })))
  saved_records = on_ok result (λ added documents shows records rest.
      rests_with (checkpoint (record { at = at; documents = documents })) pieces (are documents shows) new records rest.each (added (map record_bytes records) rest.rests)) done

  pub saved : OnOk result ((documents : Documents) → Shows store at documents → (stable : Stable) → IsAtRest old stable → IsAtRest new (record { at = at; documents = documents }))
  saved = on_ok result (λ added documents shows stable rest. record {
    records = rest.records ++ checkpoint (record { at = at; documents = documents });
    rests = added documents shows rest.records rest.rests;
    last = checkpoint_counts rest.records (record { at = at; documents = documents });
  }) saved_records

  pub saved_open : (documents : Documents) → Shows store at documents → IsOpen old → OnOk result (IsOpen new)
  saved_open documents shows is = on_ok result (λ added. record {
    records = is.records ++ checkpoint (record { at = at; documents = documents });
    rests = added documents shows is.records is.rests;
  }) saved_records

  pub saved_left : (documents : Documents) → Shows store at documents → IsOpen old → IsCheckpointDisk new
  saved_left documents shows open_before = record {
    leaves = λ image left.
        let added = checkpoint (record { at = at; documents = documents }) in
        let front = (fronts added pieces (are documents shows) old new moments open_before.records open_before.rests).now image left in list_has image (open_before.records ++ front.0) front.3;
  }

  pub saves : (documents : Documents) → Shows store at documents → (before : Stable) → IsAtRest old before
      → EachMoment (IsBeforeOrAfter before (record { at = at; documents = documents })) old new
  saves documents shows before rest =
      let next : Stable = record { at = at; documents = documents } in
      weakens (IsFront rest.records (checkpoint next)) (IsBeforeOrAfter before next) (either_is next before rest) old new
      (fronts (checkpoint next) pieces (are documents shows) old new moments rest.records rest.rests)

  pub saved_calls : EndsBy result (adding_steps (length (contents old.file)) pieces) old new → (documents : Documents) → Shows store at documents
      → EndsBy result (adding_steps (length (contents old.file)) (map record_bytes (checkpoint (record { at = at; documents = documents })))) old new
  saved_calls ends documents shows =
      subst (λ (l : List (List ℕ)). EndsBy result (adding_steps (length (contents old.file)) l) old new) (are documents shows).spelled ends

-- only the room has changed
pub open_still : (old new : State) → SameButRoom old new → IsOpen old → IsOpen new
open_still old new same is = record { records = is.records; rests = rests_still old new is.records same is.rests }

-- the records are short enough for a record file
pub records_short : (records : List Record) (pieces : List (Vec ℕ Global)) → AreSpelled records (lists pieces) → All (λ (v : Vec ℕ Global). length v.items < 2 ^ 32) pieces
records_short records pieces are = each records pieces are.each are.spelled
  where
    each : (records : List Record) (pieces : List (Vec ℕ Global)) → All IsRecord records → lists pieces ≡ map record_bytes records → All (λ (v : Vec ℕ Global). length v.items < 2 ^ 32) pieces
    each records [] lawful same k d within = absurd (omega arith)
    each [] (p ∷ pieces) lawful same k d within = absurd (omega (arith, ap length same))
    each (item ∷ records) (p ∷ pieces) lawful same zero d within =
        omega (arith, ap length (same_head p.items (record_bytes item) (lists pieces) (map record_bytes records) same), record_short item (lawful zero item (omega arith)))
    each (item ∷ records) (p ∷ pieces) lawful same (suc k) d within =
        each records pieces (λ j e inside. lawful (suc j) e (omega arith)) (same_tail p.items (record_bytes item) (lists pieces) (map record_bytes records) same) k d (omega (arith, within))

-- the same records, borrowed
pub are_laid : (store : Store) (at : OpTime) (laid pieces : List (Vec ℕ Global)) → pieces ≡ laid
    → ((documents : Documents) → Shows store at documents → AreSpelled (checkpoint (record { at = at; documents = documents })) (lists laid))
    → (documents : Documents) → Shows store at documents → AreSpelled (checkpoint (record { at = at; documents = documents })) (lists pieces)
are_laid store at laid pieces same are documents shows =
    subst (λ (l : List (Vec ℕ Global)). AreSpelled (checkpoint (record { at = at; documents = documents })) (lists l)) (sym same) (are documents shows)
