-- Lawful entries with rising optimes are a batch for a new store. For callers.
use Rattle.std.proofs.Common.{◌≡◌, ◌∙◌, ◌<◌, ◌+◌, inl, inr, ap, sym, subst, refl, arith, true, List, [], ◌∷◌, ◌++◌, ℕ, length, length-append}
use Rattle.std.proofs.lemmas.Bool.{cases_lt}
use Rattle.std.proofs.lemmas.List.{get_or_append_left, get_or_push}
use Rattle.std.specs.Prelude.{slice_index_or}
use Rattle.std.specs.List.{All}
use Rattle.rs_optime.proofs.Optimes.{earlier_time}
use Rattle.bson_doc.specs.Place.{Place}
use Rattle.oplog_entry.specs.declared.entry.Entry.{Entry}
use Rattle.oplog_entry.specs.Lawful.{IsLawful}
use Rattle.version_store.specs.declared.history.Version.{Version}
use Rattle.version_store.specs.Past.{Past, no_past, is_before}
use Rattle.version_store.specs.Store.{Store, past_at}
use Rattle.batch_applier.specs.Applied.{IsBatch}

-- lawful entries, numbered from 1 by their timestamps
abbrev pub AreNumbered : List Entry → Type 0
AreNumbered entries = (k : ℕ) (d : Entry) → k < length entries → IsLawful (slice_index_or entries k d) × ((slice_index_or entries k d).optime ≡ record { term = 1; ts = k + 1 })

pub numbered_more : (entries : List Entry) (entry : Entry) → AreNumbered entries → IsLawful entry × (entry.optime ≡ record { term = 1; ts = length entries + 1 }) → AreNumbered (entries ++ entry ∷ [])
numbered_more entries entry all own k d within = elim (cases_lt k (length entries)) [
  | inl less ↦ rw (get_or_append_left entries (entry ∷ []) d k less) (all k d less)
  | inr late ↦
      let same : length entries ≡ k = omega (arith, length-append entries (entry ∷ [])) in
      rw (get_or_push entries entry d k same) (own.0, own.1 ∙ ap (λ n. record { term = 1; ts = n + 1 }) same)
]

pub fresh_batch : (store : Store) (entries : List Entry) → ((place : Place) → past_at store place ≡ no_past)
    → AreNumbered entries → IsBatch store entries
fresh_batch store entries fresh each = record {
  lawful = λ k d within. (each k d within).0;
  rising = λ i j d less within.
      subst (λ o. is_before o (slice_index_or entries j d).optime ≡ true) (sym (each i d (omega arith)).1)
      (subst (λ o. is_before (record { term = 1; ts = i + 1 }) o ≡ true) (sym (each j d within).1) (earlier_time (record { term = 1; ts = i + 1 }) (record { term = 1; ts = j + 1 }) refl (omega arith)));
  later = λ place. subst (λ (past : Past). All (λ (version : Version). All (λ (entry : Entry). is_before version.at entry.optime ≡ true) entries) past.versions) (sym (fresh place)) (λ k d within. absurd (omega arith));
}
