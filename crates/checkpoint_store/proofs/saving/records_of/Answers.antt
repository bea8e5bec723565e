use Rattle.std.proofs.Common.{◌≡◌, ◌<◌, ◌≤◌, ◌++◌, [], ◌∷◌, length, map, refl, arith, rules}
use Rattle.std.proofs.lemmas.List.Elements.{All-drop, All-take}
use Rattle.version_store.specs.Shown.{place_of, placed}
use Rattle.version_store.specs.declared.shown.Shown.{Shown}
use Rattle.checkpoint_store.specs.Checkpoint.{checkpoint_of}
use Rattle.checkpoint_store.specs.Layout.{begins, ends, holds}
use Rattle.checkpoint_store.specs.Shown.{CanBeSaved}
use Rattle.checkpoint_store.proofs.SavingLemmas.{all, goes, none_left, starts, with_next}
use Rattle.checkpoint_store.proofs.saving.records_of.Goals as goal

pub documents_bytes-requires-clause-can : goal.documents_bytes-requires-clause-can
documents_bytes-requires-clause-can c =
    let can = λ (one : Shown). CanBeSaved (place_of one) one.document.now in
    rw c.piece_at.ensures.piece (All-take can 1000 _ (All-drop can c.loop-place.place _ c.requires))

pub loop-place-init : goal.loop-place-init
loop-place-init c =
    let pushed : c.push.new.self.items ≡ [] ++ c.in_ok-begin_bytes.field-0 ∷ [] = search rules in
    goes (begins c.args.at) (checkpoint_of c.args.at (map placed c.args.documents.now)) _ [] _ c.in_ok-begin_bytes.field-0 c.in_ok-begin_bytes.ensures pushed
    (starts (checkpoint_of c.args.at (map placed c.args.documents.now)) [] refl)

pub loop-place-preserved : goal.loop-place-preserved
loop-place-preserved c =
    let within : c.loop-place.place < length c.args.documents.now = omega arith in
    let pushed : c.push-in-loop-place.new.self.items ≡ c.loop-place.records.items ++ c.in_ok-documents_bytes.field-0 ∷ [] = search rules in
    goes (holds (map placed c.piece_at.result.now)) _ _ _ _ c.in_ok-documents_bytes.field-0 c.in_ok-documents_bytes.ensures pushed
    (with_next placed c.args.documents.now c.piece_at.result.now c.loop-place.place _ (ends ∷ []) _ c.piece_at.ensures.piece within c.loop-place.invariant)

pub returns : goal.returns
returns c =
    let after : length c.args.documents.now ≤ c.loop-place.place = omega arith in
    let pushed : c.push-2.new.self.items ≡ c.loop-place.records.items ++ c.in_ok-end_bytes.field-0 ∷ [] = search rules in
    all _ _ (goes ends _ [] _ _ c.in_ok-end_bytes.field-0 c.in_ok-end_bytes.ensures pushed (none_left placed c.args.documents.now c.loop-place.place _ (ends ∷ []) _ after c.loop-place.invariant))
