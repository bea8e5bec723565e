-- The last of some entries, and whether a log has an entry.
use Rattle.std.proofs.Common.{◌≡◌, ◌∙◌, ◌-◌, ◌<◌, ◌==◌, ℕ, zero, suc, refl, arith, inl, inr, ap, sym, subst, true, false, List, [], ◌∷◌, length, None, Some, slice_get}
use Rattle.std.proofs.lemmas.Bool.{and_from, cases_Bool, eq-eqb}
use Rattle.rs_optime.specs.declared.optime.OpTime.{OpTime}
use Rattle.oplog_entry.specs.declared.entry.Entry.{Entry}
use Rattle.oplog_entry.specs.Log.{IsOplog}
use Rattle.oplog_entry.specs.Visible.{last_of, log_up_to}
use Rattle.oplog_store.proofs.LogLemmas.{last_is}
use Rattle.repl_msg.specs.Logs.{has_entry, same_optime}
use Rattle.repl_msg.proofs.HasLemmas.{same_is}
use Rattle.rs_optime.proofs.Optimes.{at_most_refl}
use Rattle.commit_machine.specs.Words.{Has, Rises}
use Rattle.commit_machine.proofs.Lists.{has_last, has_up_to, last_up_to, up_to_has}
use Rattle.safety_laws.proofs.Fetches.{entry_is}
use Rattle.safety_laws.proofs.Merges.{has_entry_of}
use Rattle.change_stream.specs.Calls.{token_of_last}
use Rattle.safety_laws.proofs.Orders.{rises_of}
use Rattle.change_stream.proofs.PartLemmas.{last_is_token}

pub token_is : (token : OpTime) (entries : List Entry) (last : Entry) → Some last ≡ slice_get entries (length entries - 1) → last.optime ≡ token_of_last token entries
token_is token [] last is = cc is
token_is token (entry ∷ rest) last is = last_is (entry ∷ rest) last is ∙ sym (last_is_token token entry rest)

has_last_place : (entries : List Entry) (last : Entry) → Some last ≡ slice_get entries (length entries - 1) → Has (last_of entries) entries
has_last_place [] last is = absurd (cc is)
has_last_place (entry ∷ rest) last is = has_last entry rest

has_none : (entries : List Entry) (at : OpTime) → None ≡ slice_get entries (length entries - 1) → Has at entries → ⊥
has_none [] at none has = absurd has
has_none (entry ∷ rest) at none has = past (length (entry ∷ rest) - 1) (entry ∷ rest) (omega arith) none
  where
    past : (n : ℕ) (l : List Entry) → n < length l → None ≡ slice_get l n → ⊥
    past n [] within none = omega (arith, within)
    past zero (x ∷ l) within none = absurd (cc none)
    past (suc n) (x ∷ l) within none = past n l (omega (arith, within)) none

-- the last entry up to an optime tells whether the log has one there
pub has_by_last : (log : List Entry) (at : OpTime) (last : Entry) → IsOplog log → Some last ≡ slice_get (log_up_to at log) (length (log_up_to at log) - 1) → same_optime last.optime at ≡ has_entry log at
has_by_last log at last oplog is = elim (cases_Bool (has_entry log at)) [
  | inl has ↦ ap (λ o. same_optime o at) (last_here ∙ last_up_to at log rises (entry_is log at has)) ∙ same_itself ∙ sym has
  | inr none ↦ elim (cases_Bool (same_optime last.optime at)) [
    | inl same ↦
        let here : Has at (log_up_to at log) = subst (λ o. Has o (log_up_to at log)) (sym last_here ∙ same_is last.optime at same) (has_last_place (log_up_to at log) last is) in
        let has : has_entry log at ≡ true = has_entry_of log at (up_to_has at at log here).0 in
        absurd (cc (has, none))
    | inr other ↦ other ∙ sym none
  ]
]
  where
    rises : Rises log
    rises = rises_of log oplog.order

    last_here : last.optime ≡ last_of (log_up_to at log)
    last_here = last_is (log_up_to at log) last is

    same_itself : same_optime at at ≡ true
    same_itself = and_from (at.term == at.term) (at.ts == at.ts) (eq-eqb at.term at.term refl) (eq-eqb at.ts at.ts refl)

pub has_by_none : (log : List Entry) (at : OpTime) → None ≡ slice_get (log_up_to at log) (length (log_up_to at log) - 1) → false ≡ has_entry log at
has_by_none log at none = elim (cases_Bool (has_entry log at)) [
  | inl has ↦ absurd (has_none (log_up_to at log) at none (has_up_to at at log (entry_is log at has) (at_most_refl at)))
  | inr other ↦ sym other
]
