-- One more record, and what is known of its bytes.
use Rattle.std.proofs.Common.{◌≡◌, ℕ, ◌+◌, ◌≤◌, List, [], ◌∷◌, ◌++◌, length, take, map, sym, ap, subst, ◌∙◌, arith}
use Rattle.std.specs.Prelude.{All}
use Rattle.std.specs.List.{flat_map}
use Rattle.std.proofs.lemmas.List.{length-map}
use Rattle.std.proofs.lemmas.List.Elements.{All-map}
use Rattle.std.proofs.lemmas.List.Folds.{flat_map-map}
use Rattle.std.proofs.lemmas.List.Sums.{fold-append}
use Rattle.checkpoint_store.specs.Checkpoint.{nothing_yet, with_record}
use Rattle.checkpoint_store.specs.Marked.{come_to}
use Rattle.version_store.specs.declared.shown.Shown.{Shown}
use Rattle.bson_codec.specs.Numbers.{number_bytes}
use Rattle.checkpoint_store.specs.Layout.{Record, Saved, holds, saved_bytes}
use Rattle.checkpoint_store.specs.Spelled.{PIECE, IsSaved, IsSpelled}

pub spelled_as : (item : Record) (one other : List ℕ) → other ≡ one → IsSpelled item one → IsSpelled item other
spelled_as item one other same is = subst (λ (l : List ℕ). IsSpelled item l) (sym same) is

-- what the records come to with one more
pub one_record_more : (records : List Record) (i : ℕ) (item : Record) → take (i + 1) records ≡ take i records ++ item ∷ []
    → with_record (come_to (take i records)) item ≡ come_to (take (i + 1) records)
one_record_more records i item is = sym (ap come_to is ∙ fold-append with_record nothing_yet (take i records) (item ∷ []))

-- the record of some documents
pub spelled_documents : (f : Shown → Saved) (places : List Shown) (bytes : List ℕ) → length places ≤ PIECE → All (λ place. IsSaved (f place)) places
    → bytes ≡ 2 ∷ (number_bytes 4 (length places) ++ flat_map (λ place. saved_bytes (f place)) places) → IsSpelled (holds (map f places)) bytes
spelled_documents f places bytes few each is = record {
  lawful = (omega (arith, few, length-map places f), All-map IsSaved f places each);
  spelled = is ∙ ap (λ (l : List ℕ). 2 ∷ (number_bytes 4 (length places) ++ l)) (sym (flat_map-map saved_bytes f places))
      ∙ ap (λ (n : ℕ). 2 ∷ (number_bytes 4 n ++ flat_map saved_bytes (map f places))) (sym (length-map places f));
}
