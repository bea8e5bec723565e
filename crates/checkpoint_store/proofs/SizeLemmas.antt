-- How long the bytes of a record are.
use Rattle.std.proofs.Common.{◌≡◌, ◌∙◌, ℕ, ◌+◌, ◌*◌, ◌≤◌, ◌<◌, ◌^◌, List, [], ◌∷◌, ◌++◌, length, suc, zero, ap, append_assoc, arith, length-append}
use Rattle.std.specs.Prelude.{All}
use Rattle.std.specs.List.{flat_map}
use Rattle.entry_bytes.specs.Optimes.{optime_bytes}
use Rattle.rs_optime.specs.declared.optime.OpTime.{OpTime}
use Rattle.bson_codec.specs.Numbers.{number_bytes}
use Rattle.bson_codec.specs.Spelling.{document_bytes}
use Rattle.bson_codec.proofs.SpellingLemmas.{length-number_bytes, length-value_bytes}
use Rattle.bson_doc.specs.Length.{document_length}
use Rattle.bson_doc.specs.Tree.{Fields, document}
use Rattle.checkpoint_store.specs.Layout.{Saved, Record, begins, holds, ends, sized, saved_bytes, record_bytes}
use Rattle.checkpoint_store.specs.Spelled.{IsSaved, IsRecord}

optime_size : (o : OpTime) → length (optime_bytes o) ≡ 16
optime_size o = omega (arith, length-append (number_bytes 8 o.term) (number_bytes 8 o.ts), length-number_bytes 8 o.term, length-number_bytes 8 o.ts)

sized_size : (bytes : List ℕ) → length (sized bytes) ≡ 4 + length bytes
sized_size bytes = omega (arith, length-append (number_bytes 4 (length bytes)) bytes, length-number_bytes 4 (length bytes))

saved_size : (saved : Saved) → IsSaved saved → length (saved_bytes saved) ≤ 1310728
saved_size saved is =
    let document = document_bytes saved.1 in
    omega (arith, length-append (sized saved.0.0) (sized document), sized_size saved.0.0, sized_size document, is.short, is.spelling.in_bytes)

documents_size : (documents : List Saved) → All IsSaved documents → length (flat_map saved_bytes documents) ≤ 1310728 * length documents
documents_size [] each = omega arith
documents_size (d ∷ documents) each =
    omega (
      arith,
      length-append (saved_bytes d) (flat_map saved_bytes documents),
      saved_size d (each zero d (omega arith)),
      documents_size documents (λ k e within. each (suc k) e (omega arith)),
    )

-- a record is no longer than a record file takes
pub record_short : (item : Record) → IsRecord item → length (record_bytes item) < 2 ^ 32
record_short (begins at) is = omega (arith, optime_size at)
record_short (holds documents) is =
    let count = number_bytes 4 (length documents) in
    omega (arith, length-append count (flat_map saved_bytes documents), length-number_bytes 4 (length documents), documents_size documents is.1, is.0)
record_short ends is = omega arith

-- a document after the room for its length
pub document_after : (d : Fields) (old before out : List ℕ) → before ≡ old ++ number_bytes 4 0 → out ≡ before ++ document_bytes d → out ≡ (old ++ number_bytes 4 0) ++ document_bytes d
document_after d old before out first second = second ∙ ap (λ (l : List ℕ). l ++ document_bytes d) first

pub document_room : (d : Fields) (old before out : List ℕ) → before ≡ old ++ number_bytes 4 0 → out ≡ before ++ document_bytes d → length out ≡ length old + 4 + document_length d
document_room d old before out first second =
    omega (
      arith,
      ap length (document_after d old before out first second),
      length-append (old ++ number_bytes 4 0) (document_bytes d),
      length-append old (number_bytes 4 0),
      length-number_bytes 4 0,
      length-value_bytes (document d),
    )

pub saved_whole : (saved : Saved) (old named : List ℕ) → named ≡ old ++ sized saved.0.0 → named ++ sized (document_bytes saved.1) ≡ old ++ saved_bytes saved
saved_whole saved old named is =
    ap (λ (l : List ℕ). l ++ sized (document_bytes saved.1)) is ∙ append_assoc old (sized saved.0.0) (sized (document_bytes saved.1))
