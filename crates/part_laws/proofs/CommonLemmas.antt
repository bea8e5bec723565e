-- The last entry that two logs have in common.
use Rattle.std.proofs.Common.{◌≡◌, ◌∙◌, ap, sym, refl, Bool, true, false, not, ◌&&◌, ◌||◌, cond, filter, List, [], ◌∷◌}
use Rattle.std.proofs.lemmas.Bool.{or_left, or_right}
use Rattle.std.specs.List.{list_any}
use Rattle.rs_optime.specs.declared.optime.OpTime.{OpTime}
use Rattle.oplog_entry.specs.declared.entry.Entry.{Entry}
use Rattle.oplog_entry.specs.Visible.{is_before, last_of, log_up_to}
use Rattle.repl_msg.specs.Logs.{same_optime, has_entry, log_after}
use Rattle.repl_msg.specs.Rollback.{is_common}
use Rattle.repl_msg.proofs.HasLemmas.{same_is, same_itself, has_filter}
use Rattle.set_model.specs.Rollback.{optimes_of}
use Rattle.part_laws.specs.Logs.{CommonPointsAreLast}

same_if_swapped : (a b : OpTime) → same_optime a b ≡ true → same_optime b a ≡ true
same_if_swapped a b same = ap (same_optime b) (same_is a b same) ∙ same_itself b

both_ways : (x y : Bool) → (x ≡ true → y ≡ true) → (y ≡ true → x ≡ true) → x ≡ y
both_ways true y one two = sym (one refl)
both_ways false true one two = two refl
both_ways false false one two = refl

same_swapped : (a b : OpTime) → same_optime a b ≡ same_optime b a
same_swapped a b = both_ways (same_optime a b) (same_optime b a) (same_if_swapped a b) (same_if_swapped b a)

listed : (at : OpTime) (shown : List Entry) → list_any (same_optime at) (optimes_of shown) ≡ has_entry shown at
listed at [] = refl
listed at (entry ∷ shown) =
    ap (λ b. b || list_any (same_optime at) (optimes_of shown)) (same_swapped at entry.optime)
    ∙ ap (λ b. same_optime entry.optime at || b) (listed at shown)

-- an entry of the one log is common just where the other log has it
common_is_had : (log shown : List Entry) (after at : OpTime) → log_up_to after log ≡ log_up_to after shown → has_entry log at ≡ true
    → is_common after (optimes_of (log_after after shown)) at ≡ has_entry shown at
common_is_had log shown after at front has = go (is_before after at) refl
  where
    go : (b : Bool) → is_before after at ≡ b → is_common after (optimes_of (log_after after shown)) at ≡ has_entry shown at
    go true is =
        ap (λ b. not b || list_any (same_optime at) (optimes_of (log_after after shown))) is ∙ listed at (log_after after shown)
        ∙ has_filter (λ o. is_before after o) shown at ∙ ap (λ b. b && has_entry shown at) is
    go false is =
        let own : has_entry (log_up_to after log) at ≡ true = has_filter (λ o. not (is_before after o)) log at ∙ ap (λ b. not b && has_entry log at) is ∙ has in
        let other : has_entry (log_up_to after shown) at ≡ has_entry shown at = has_filter (λ o. not (is_before after o)) shown at ∙ ap (λ b. not b && has_entry shown at) is in
        ap (λ b. not b || list_any (same_optime at) (optimes_of (log_after after shown))) is ∙ sym own ∙ ap (λ l. has_entry l at) front ∙ other

same_filter : (p q : Entry → Bool) (whole rest : List Entry) → ((entry : Entry) → has_entry whole entry.optime ≡ true → p entry ≡ q entry)
    → ((o : OpTime) → has_entry rest o ≡ true → has_entry whole o ≡ true) → filter p rest ≡ filter q rest
same_filter p q whole [] each within = refl
same_filter p q whole (entry ∷ rest) each within =
    ap (λ b. cond b (entry ∷ filter p rest) (filter p rest)) (each entry (within entry.optime (or_left _ _ (same_itself entry.optime))))
    ∙ ap (λ kept. cond (q entry) (entry ∷ kept) kept) (same_filter p q whole rest each (λ o has. within o (or_right _ _ has)))

pub common_points_are_last : CommonPointsAreLast
common_points_are_last log shown after front =
    ap last_of (same_filter (λ entry. is_common after (optimes_of (log_after after shown)) entry.optime) (λ entry. has_entry shown entry.optime) log log
    (λ entry has. common_is_had log shown after entry.optime front has) (λ o has. has))
