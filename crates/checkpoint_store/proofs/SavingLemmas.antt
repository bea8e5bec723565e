-- Some of the records of a checkpoint are laid out, and others are left.
use Rattle.std.proofs.Common.{◌≡◌, ℕ, ◌+◌, ◌-◌, ◌/◌, ◌<◌, List, [], ◌∷◌, ◌++◌, length, take, drop, map, suc, refl, sym, ap, subst, ◌∙◌, arith, append_assoc, append-nil, length-drop}
use Rattle.std.specs.Prelude.{Vec, ◌≤◌}
use Rattle.std.specs.Simd.{first_chunks}
use Rattle.std.specs.declared.alloc.Global.{Global}
use Rattle.std.proofs.lemmas.List.{take-map, drop-map, drop-drop, drop_all, length-map, map-append}
use Rattle.std.proofs.lemmas.List.Elements.{All-push}
use Rattle.record_file.specs.Records.{lists}
use Rattle.record_file.proofs.ItemLemmas.{pieces_push}
use Rattle.version_store.specs.declared.shown.Shown.{Shown}
use Rattle.checkpoint_store.specs.Checkpoint.{pieces}
use Rattle.checkpoint_store.specs.Files.{AreSpelled}
use Rattle.checkpoint_store.specs.Layout.{Saved, Record, holds, record_bytes}
use Rattle.checkpoint_store.specs.Spelled.{PIECE, IsRecord, IsSpelled}

pub record LaidSoFar (whole rest : List Record) (laid : List (Vec ℕ Global)) : Type 0 where
  pub done : List Record
  pub is : whole ≡ done ++ rest
  pub are : AreSpelled done (lists laid)

pub starts : (whole : List Record) (laid : List (Vec ℕ Global)) → laid ≡ [] → LaidSoFar whole whole laid
starts whole laid none = record {
  done = [];
  is = refl;
  are = record { each = λ k d within. absurd (omega arith); spelled = ap lists none };
}

-- the next record
pub goes : (item : Record) (whole rest : List Record) (laid more : List (Vec ℕ Global)) (next : Vec ℕ Global) → IsSpelled item next.items → more ≡ laid ++ next ∷ []
    → LaidSoFar whole (item ∷ rest) laid → LaidSoFar whole rest more
goes item whole rest laid more next here pushed so_far = record {
  done = so_far.done ++ item ∷ [];
  is = so_far.is ∙ sym (append_assoc so_far.done (item ∷ []) rest);
  are = record {
    each = All-push IsRecord so_far.done item so_far.are.each here.lawful;
    spelled = ap lists pushed ∙ map-append (λ (v : Vec ℕ Global). v.items) laid (next ∷ []) ∙ ap (λ (l : List (List ℕ)). l ++ next.items ∷ []) so_far.are.spelled
        ∙ pieces_push record_bytes so_far.done item next.items here.spelled;
  };
}

-- all of them
pub all : (whole : List Record) (laid : List (Vec ℕ Global)) → LaidSoFar whole [] laid → AreSpelled whole (lists laid)
all whole laid so_far = subst (λ (l : List Record). AreSpelled l (lists laid)) (sym (so_far.is ∙ append-nil so_far.done)) so_far.are

-- ---- the pieces of some documents

one_fewer : (n : ℕ) → 0 < n → (n + 999) / 1000 ≡ suc ((n - 1000 + 999) / 1000)
one_fewer n some = omega arith

first_piece : (documents : List Saved) → 0 < length documents → pieces documents ≡ holds (take PIECE documents) ∷ pieces (drop PIECE documents)
first_piece documents some =
    ap (λ (k : ℕ). map holds (first_chunks PIECE k documents))
    (one_fewer (length documents) some ∙ ap (λ (n : ℕ). suc ((n + 999) / 1000)) (sym (length-drop PIECE documents)))

-- the piece at a place, and those after it
next_piece : (f : Shown → Saved) (documents piece : List Shown) (place : ℕ) → piece ≡ take PIECE (drop place documents) → place < length documents
    → pieces (map f (drop place documents)) ≡ holds (map f piece) ∷ pieces (map f (drop (place + PIECE) documents))
next_piece f documents piece place is within =
    let rest = drop place documents in
    let here : take PIECE (map f rest) ≡ map f piece = take-map f PIECE rest ∙ ap (map f) (sym is) in
    let there : drop PIECE (map f rest) ≡ map f (drop (place + PIECE) documents) = drop-map f PIECE rest ∙ ap (map f) (drop-drop PIECE place documents) in
    first_piece (map f rest) (omega (arith, within, length-map rest f, length-drop place documents))
    ∙ (λ i. holds (here i) ∷ pieces (there i))

pub with_next : (f : Shown → Saved) (documents piece : List Shown) (place : ℕ) (whole last : List Record) (laid : List (Vec ℕ Global)) → piece ≡ take PIECE (drop place documents)
    → place < length documents → LaidSoFar whole (pieces (map f (drop place documents)) ++ last) laid
    → LaidSoFar whole (holds (map f piece) ∷ (pieces (map f (drop (place + PIECE) documents)) ++ last)) laid
with_next f documents piece place whole last laid is within so_far =
    subst (λ (l : List Record). LaidSoFar whole (l ++ last) laid) (next_piece f documents piece place is within) so_far

pub none_left : (f : Shown → Saved) (documents : List Shown) (place : ℕ) (whole last : List Record) (laid : List (Vec ℕ Global)) → length documents ≤ place
    → LaidSoFar whole (pieces (map f (drop place documents)) ++ last) laid → LaidSoFar whole last laid
none_left f documents place whole last laid after so_far =
    subst (λ (l : List Shown). LaidSoFar whole (pieces (map f l) ++ last) laid) (drop_all place documents after) so_far
