-- Bytes spell at most one record, and a file has one last whole checkpoint.
use Rattle.std.proofs.Common.{◌≡◌, ℕ, ◌^◌, ◌<◌, List, [], ◌∷◌, ◌++◌, length, take, drop, map, suc, zero, Some, refl, sym, ap, ◌∙◌, arith}
use Rattle.std.specs.Prelude.{All, slice_index}
use Rattle.std.specs.List.{flat_map}
use Rattle.std.proofs.lemmas.List.{take_at, drop_at}
use Rattle.entry_bytes.proofs.OptimeLemmas.{optime_once}
use Rattle.entry_bytes.specs.Optimes.{optime_bytes}
use Rattle.rs_disk.specs.File.{LeavesOnly}
use Rattle.rs_disk.specs.State.{State, SameButRoom}
use Rattle.record_file.proofs.ParseLemmas.{one_list}
use Rattle.record_file.proofs.ItemLemmas.{same_head, same_tail}
use Rattle.bson_doc.specs.declared.key.IdKey.{IdKey}
use Rattle.oplog_entry.specs.Step.{id_key}
use Rattle.bson_codec.specs.Spelling.{document_bytes}
use Rattle.bson_codec.proofs.AgainLemmas.{one_document}
use Rattle.bson_codec.proofs.NumberLemmas.{number_once}
use Rattle.checkpoint_store.specs.Checkpoint.{last_whole}
use Rattle.checkpoint_store.specs.Files.{HasCheckpoint, IsAtRest}
use Rattle.checkpoint_store.specs.Layout.{Saved, Record, begins, holds, ends, sized, saved_bytes, documents_bytes, record_bytes}
use Rattle.checkpoint_store.specs.Spelled.{IsSaved, AreSaved, IsRecord}
use Rattle.checkpoint_store.specs.declared.stable.Stable.{Stable}
use Rattle.checkpoint_store.proofs.FileLemmas.{rest_leaves, rests_still}
use Rattle.checkpoint_store.proofs.PartLemmas.{sized_parts, saved_parts, name_short, document_short, spelled_here}

sized_once : (a b more others : List ℕ) → length a < 2 ^ 32 → length b < 2 ^ 32 → sized a ++ more ≡ sized b ++ others → (a ≡ b) × (more ≡ others)
sized_once a b more others small short is =
    let parts = number_once 4 (length a) (length b) (a ++ more) (b ++ others) (omega (arith, small)) (omega (arith, short))
    (sym (sized_parts a more (sized a ++ more) refl) ∙ is ∙ sized_parts b others (sized b ++ others) refl) in (
      sym (take_at a more (length a) refl) ∙ ap (λ (l : List ℕ). take (length a) l) parts.1 ∙ take_at b others (length a) (sym parts.0),
      sym (drop_at a more (length a) refl) ∙ ap (λ (l : List ℕ). drop (length a) l) parts.1 ∙ drop_at b others (length a) (sym parts.0),
    )

some_once : (x y : IdKey) → Some x ≡ Some y → x ≡ y
some_once x y same = cc

saved_once : (a b : Saved) (more others : List ℕ) → IsSaved a → IsSaved b → saved_bytes a ++ more ≡ saved_bytes b ++ others → (a ≡ b) × (more ≡ others)
saved_once a b more others one two is =
    let names = sized_once a.0.0 b.0.0 (sized (document_bytes a.1) ++ more) (sized (document_bytes b.1) ++ others) (name_short a one) (name_short b two)
    (sym (saved_parts a more (saved_bytes a ++ more) refl) ∙ is ∙ saved_parts b others (saved_bytes b ++ others) refl) in
    let documents = sized_once (document_bytes a.1) (document_bytes b.1) more others (document_short a one) (document_short b two) names.1 in
    let same : a.1 ≡ b.1 = one_document 262144 100 (document_bytes a.1) a.1 b.1 (omega arith) one.sound two.sound one.spelling (spelled_here b (document_bytes a.1) two documents.0) in
    let keys : a.0.1 ≡ b.0.1 = some_once a.0.1 b.0.1 (sym one.key ∙ ap id_key same ∙ two.key) in
    (λ i. ((names.0 i, keys i), same i), documents.1)

each_once : (one two : List Saved) → All IsSaved one → All IsSaved two → length one ≡ length two → flat_map saved_bytes one ≡ flat_map saved_bytes two → one ≡ two
each_once [] [] ones twos long is = refl
each_once [] (b ∷ two) ones twos long is = absurd (omega (arith, long))
each_once (a ∷ one) [] ones twos long is = absurd (omega (arith, long))
each_once (a ∷ one) (b ∷ two) ones twos long is =
    let first = saved_once a b (flat_map saved_bytes one) (flat_map saved_bytes two) (ones zero a (omega arith)) (twos zero b (omega arith)) is in
    let rest = each_once one two (λ k d within. ones (suc k) d (omega arith)) (λ k d within. twos (suc k) d (omega arith)) (omega (arith, long)) first.1 in
    λ i. first.0 i ∷ rest i

documents_once : (one two : List Saved) → AreSaved one → AreSaved two → documents_bytes one ≡ documents_bytes two → one ≡ two
documents_once one two ones twos is =
    let parts = number_once 4 (length one) (length two) (flat_map saved_bytes one) (flat_map saved_bytes two) (omega (arith, ones.0)) (omega (arith, twos.0)) is in
    each_once one two ones.1 twos.1 parts.0 parts.1

first_byte : (x y : ℕ) (xs ys : List ℕ) → x ∷ xs ≡ y ∷ ys → x ≡ y
first_byte x y xs ys is = ap (λ (l : List ℕ). slice_index l 0) is

same_tails : (x y : ℕ) (xs ys : List ℕ) → x ∷ xs ≡ y ∷ ys → xs ≡ ys
same_tails x y xs ys is = ap (λ (l : List ℕ). drop 1 l) is

record_once : (one two : Record) → IsRecord one → IsRecord two → record_bytes one ≡ record_bytes two → one ≡ two
record_once (begins a) (begins b) first second is = ap begins (optime_once a b first second (same_tails 1 1 (optime_bytes a) (optime_bytes b) is))
record_once (holds a) (holds b) first second is = ap holds (documents_once a b first second (same_tails 2 2 (documents_bytes a) (documents_bytes b) is))
record_once ends ends first second is = refl
record_once (begins a) (holds b) first second is = absurd (omega (arith, first_byte 1 2 (optime_bytes a) (documents_bytes b) is))
record_once (begins a) ends first second is = absurd (omega (arith, first_byte 1 3 (optime_bytes a) [] is))
record_once (holds a) (begins b) first second is = absurd (omega (arith, first_byte 2 1 (documents_bytes a) (optime_bytes b) is))
record_once (holds a) ends first second is = absurd (omega (arith, first_byte 2 3 (documents_bytes a) [] is))
record_once ends (begins b) first second is = absurd (omega (arith, first_byte 3 1 [] (optime_bytes b) is))
record_once ends (holds b) first second is = absurd (omega (arith, first_byte 3 2 [] (documents_bytes b) is))

records_once : (one two : List Record) → All IsRecord one → All IsRecord two → map record_bytes one ≡ map record_bytes two → one ≡ two
records_once [] [] ones twos is = refl
records_once [] (b ∷ two) ones twos is = absurd (omega (arith, ap length is))
records_once (a ∷ one) [] ones twos is = absurd (omega (arith, ap length is))
records_once (a ∷ one) (b ∷ two) ones twos is =
    let first : a ≡ b = record_once a b (ones zero a (omega arith)) (twos zero b (omega arith)) (same_head (record_bytes a) (record_bytes b) (map record_bytes one) (map record_bytes two) is) in
    let rest : one ≡ two = records_once one two (λ k d within. ones (suc k) d (omega arith)) (λ k d within. twos (suc k) d (omega arith))
    (same_tail (record_bytes a) (record_bytes b) (map record_bytes one) (map record_bytes two) is) in
    λ i. first i ∷ rest i

-- bytes have one last whole checkpoint
pub checkpoint_once : (bytes : List ℕ) (one two : Stable) → HasCheckpoint bytes one → HasCheckpoint bytes two → one ≡ two
checkpoint_once bytes one two a b =
    let lists = one_list bytes (map record_bytes a.records) (map record_bytes b.records) a.list.has b.list.has in
    sym a.last ∙ ap last_whole (records_once a.records b.records a.list.each b.list.each lists) ∙ b.last

-- a file at rest reads so, and so does every image of it
pub rest_has : (state : State) (stable : Stable) → IsAtRest state stable → LeavesOnly (λ image. HasCheckpoint image stable) state.file
rest_has state stable rest image left =
    record { records = rest.records; list = rest_leaves state rest.records rest.rests image left; last = rest.last }

-- and where only the room has changed it stays at rest
pub rest_reserved : (old new : State) (stable : Stable) → SameButRoom old new → IsAtRest old stable → IsAtRest new stable
rest_reserved old new stable same rest =
    record { records = rest.records; rests = rests_still old new rest.records same rest.rests; last = rest.last }
