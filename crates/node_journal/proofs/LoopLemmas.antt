-- One more record, and what is known of its bytes.
use Rattle.std.proofs.Common.{◌≡◌, ◌<◌, inl, ℕ, zero, suc, ◌+◌, List, [], ◌∷◌, ◌++◌, length, take, refl, sym, ap, arith, subst, ◌∙◌}
use Rattle.std.specs.Prelude.{Vec, slice_index_or}
use Rattle.std.specs.declared.alloc.Global.{Global}
use Rattle.std.proofs.lemmas.List.{length-map, take_all}
use Rattle.std.proofs.lemmas.List.Sums.{fold-append}
use Rattle.repl_msg.specs.declared.record.Record.{Record}
use Rattle.repl_msg.specs.declared.record.Record.TheVariants as records
use Rattle.repl_msg.specs.declared.record.Kept.{Kept}
use Rattle.repl_msg.specs.Kept.{kept, nothing_kept, with_record}
use Rattle.record_file.specs.Records.{lists}
use Rattle.node_journal.specs.Spelled.{IsSpelled, IsWritten, AreSpelled}

pub spelled_as : (item : Record) (one other : List ℕ) → other ≡ one → IsSpelled item one → IsSpelled item other
spelled_as item one other same is = subst (λ (l : List ℕ). IsSpelled item l) (sym same) is

pub written_as : (item : Record) (one other : List ℕ) → other ≡ one → IsWritten item one → IsWritten item other
written_as item one other same is = subst (λ (l : List ℕ). IsWritten item l) (sym same) is

-- what is kept with one record more
pub kept_more : (records : List Record) (i : ℕ) (item : Record) → take (i + 1) records ≡ take i records ++ item ∷ []
    → with_record (kept (take i records)) item ≡ kept (take (i + 1) records)
kept_more records i item is = sym (ap kept is ∙ fold-append with_record nothing_kept (take i records) (item ∷ []))

pub count_more : (so_far : Kept) (item : Record) → (with_record so_far item).count ≡ so_far.count + 1
count_more so_far (records.Vote vote) = refl
count_more so_far (records.Config config) = refl
count_more so_far (records.Entries list point) = refl
count_more so_far (records.Cut at) = refl
count_more so_far (records.Form form) = refl

-- ---- the record of each piece

spelled_suc : (pieces : List (Vec ℕ Global)) (items : List Record) (i : ℕ) (d : Vec ℕ Global) → AreSpelled items (lists pieces) → i < length pieces
    → (item : Record) × IsSpelled item (slice_index_or pieces i d).items × (take (suc i) items ≡ take i items ++ item ∷ [])
spelled_suc [] items i d spelled within = absurd (omega arith)
spelled_suc (piece ∷ pieces) [] i d spelled within = absurd spelled
spelled_suc (piece ∷ pieces) (item ∷ items) zero d spelled within = (item, spelled.0, refl)
spelled_suc (piece ∷ pieces) (item ∷ items) (suc i) d spelled within =
    let found = spelled_suc pieces items i d spelled.1 (omega (arith, within)) in
    (found.0, found.1, ap (λ (l : List Record). item ∷ l) found.2)

pub spelled_at : (pieces : List (Vec ℕ Global)) (items : List Record) (i : ℕ) (d : Vec ℕ Global) → AreSpelled items (lists pieces) → i < length pieces
    → (item : Record) × IsSpelled item (slice_index_or pieces i d).items × (take (i + 1) items ≡ take i items ++ item ∷ [])
spelled_at pieces items i d spelled within =
    let found = spelled_suc pieces items i d spelled within in
    let one_more : i + 1 ≡ suc i = omega arith in
    (found.0, found.1, ap (λ (n : ℕ). take n items) one_more ∙ found.2)

pub spelled_length : (items : List Record) (pieces : List (List ℕ)) → AreSpelled items pieces → length pieces ≡ length items
spelled_length [] [] spelled = refl
spelled_length [] (piece ∷ pieces) spelled = absurd spelled
spelled_length (item ∷ items) [] spelled = absurd spelled
spelled_length (item ∷ items) (piece ∷ pieces) spelled = ap suc (spelled_length items pieces spelled.1)

pub spelled_push : (items : List Record) (pieces : List (List ℕ)) (item : Record) (piece : List ℕ) → AreSpelled items pieces → IsSpelled item piece → AreSpelled (items ++ item ∷ []) (pieces ++ piece ∷ [])
spelled_push [] [] item piece spelled here = (here, tt)
spelled_push [] (one ∷ pieces) item piece spelled here = absurd spelled
spelled_push (first ∷ items) [] item piece spelled here = absurd spelled
spelled_push (first ∷ items) (one ∷ pieces) item piece spelled here = (spelled.0, spelled_push items pieces item piece spelled.1 here)

pub all_spelled : (pieces : List (Vec ℕ Global)) (items : List Record) → AreSpelled items (lists pieces) → take (length pieces) items ≡ items
all_spelled pieces items spelled =
    take_all (length pieces) items (omega (arith, spelled_length items (lists pieces) spelled, length-map pieces (λ (v : Vec ℕ Global). v.items)))

-- as it is written it is a record's
pub written_spelled : (item : Record) (bytes : List ℕ) → IsWritten item bytes → IsSpelled item bytes
written_spelled item bytes is = record { lawful = is.lawful; spelled = inl is.spelled }
