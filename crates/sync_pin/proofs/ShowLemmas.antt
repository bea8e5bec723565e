-- A prefix of a log, and documents with their keys.
use Rattle.std.proofs.Common.{◌≡◌, ◌∙◌, ◌<◌, ◌+◌, ap, ap₂, sym, arith, take, length, ℕ, suc, Some, List, [], ◌∷◌, ◌++◌}
use Rattle.std.proofs.Math.Seq.{take-append_seam, take-suc}
use Rattle.std.proofs.lemmas.List.{map-append}
use Rattle.std.proofs.lemmas.List.Elements.{All-push}
use Rattle.std.specs.List.{All}
use Rattle.std.specs.Prelude.{slice_index_or}
use Rattle.bson_doc.specs.Tree.{Fields}
use Rattle.rs_optime.specs.declared.optime.OpTime.{OpTime}
use Rattle.oplog_entry.specs.Log.{IsOplog}
use Rattle.oplog_entry.specs.Step.{id_key}
use Rattle.oplog_entry.specs.Visible.{log_up_to}
use Rattle.oplog_entry.specs.declared.entry.Entry.{Entry}
use Rattle.commit_machine.specs.Words.{Begins}
use Rattle.commit_machine.proofs.Lists.{up_to_begins}
use Rattle.initial_sync.specs.Pinned.{listed_of}
use Rattle.initial_sync.specs.declared.pinned.Kept1.{Kept1}
use Rattle.safety_laws.proofs.Orders.{rises_of}
use Rattle.sync_pin.proofs.PinLemmas.{IsOwn}

pub front_is : (log : List Entry) (at : OpTime) (count : ℕ) → IsOplog log → count ≡ length (log_up_to at log) → take count log ≡ log_up_to at log
front_is log at count oplog is =
    let begins : Begins (log_up_to at log) log = up_to_begins at log (rises_of log oplog.order) in
    ap (λ n. take n log) is ∙ ap (take (length (log_up_to at log))) begins.1 ∙ take-append_seam (log_up_to at log) begins.0

-- one document more
pub keyed_next : (documents : List (List ℕ × Fields)) (i : ℕ) (given : List ℕ × Fields) (kept : List Kept1) (one : Kept1) → i < length documents → given ≡ slice_index_or documents i given
    → (listed_of kept ≡ take i documents) × All IsOwn kept → one.ns ≡ given.0 → one.doc ≡ given.1 → id_key given.1 ≡ Some one.id
    → (listed_of (kept ++ one ∷ []) ≡ take (i + 1) documents) × All IsOwn (kept ++ one ∷ [])
keyed_next documents i given kept one within is so ns doc key = (
  map-append (λ (k : Kept1). (k.ns, k.doc)) kept (one ∷ [])
      ∙ ap₂ (λ (xs : List (List ℕ × Fields)) (x : List ℕ × Fields). xs ++ x ∷ []) so.0 (ap₂ (λ (n : List ℕ) (d : Fields). (n, d)) ns doc ∙ is)
      ∙ sym (take-suc documents i given within) ∙ ap (λ n. take n documents) (let same : suc i ≡ i + 1 = omega arith in same),
  All-push IsOwn kept one so.1 (ap id_key doc ∙ key),
)
