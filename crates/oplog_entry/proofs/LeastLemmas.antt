-- The least of some slots is one of them, and no later than each.
use Rattle.std.proofs.Common.{◌≡◌, ◌∙◌, inl, inr, ap, subst, refl, Bool, true, false, cond, Option, None, Some, List, [], ◌∷◌}
use Rattle.std.proofs.lemmas.Option.{same_Some}
use Rattle.rs_optime.specs.Membership.{In}
use Rattle.rs_optime.specs.Order.{is_before, AtMost}
use Rattle.rs_optime.specs.declared.optime.OpTime.{OpTime}
use Rattle.rs_optime.proofs.Optimes.{at_most_refl, at_most_of_same, at_most_trans, before_at_most}
use Rattle.oplog_entry.specs.Visible.{least, earlier}

pub least_in : (slots : List OpTime) (slot : OpTime) → least slots ≡ Some slot → In slot slots
least_in [] slot is = absurd (cc is)
least_in (one ∷ slots) slot is = go (least slots) refl (least_in slots) (same_Some _ slot is)
  where
    go : (found : Option OpTime) → least slots ≡ found → ((s : OpTime) → least slots ≡ Some s → In s slots) → earlier one found ≡ slot → In slot (one ∷ slots)
    go None found_is rest same = inl same
    go (Some other) found_is rest same = pick (is_before other one) same
      where
        pick : (b : Bool) → cond b other one ≡ slot → In slot (one ∷ slots)
        pick true same = inr (rest slot (found_is ∙ ap (λ s. Some s) same))
        pick false same = inl same

earlier_first : (one : OpTime) (found : Option OpTime) → AtMost (earlier one found) one
earlier_first one None = at_most_refl one
earlier_first one (Some other) = go (is_before other one) refl
  where
    go : (b : Bool) → is_before other one ≡ b → AtMost (cond b other one) one
    go true is = before_at_most other one is
    go false is = at_most_refl one

earlier_other : (one other : OpTime) (found : Option OpTime) → found ≡ Some other → AtMost (earlier one found) other
earlier_other one other None is = absurd (cc is)
earlier_other one other (Some next) is = subst (λ o. AtMost (earlier one (Some next)) o) (same_Some next other is) (go (is_before next one) refl)
  where
    go : (b : Bool) → is_before next one ≡ b → AtMost (cond b next one) next
    go true before = at_most_refl next
    go false before = before

-- where there is a slot, one is the least, and no later
pub least_of : (slots : List OpTime) (o : OpTime) → In o slots → (slot : OpTime) × (least slots ≡ Some slot) × AtMost slot o
least_of [] o there = absurd there
least_of (one ∷ slots) o (inl same) = (earlier one (least slots), refl, at_most_trans (earlier one (least slots)) one o (earlier_first one (least slots)) (at_most_of_same one o same))
least_of (one ∷ slots) o (inr there) =
    let rest : (slot : OpTime) × (least slots ≡ Some slot) × AtMost slot o = least_of slots o there in
    (earlier one (least slots), refl, at_most_trans (earlier one (least slots)) rest.0 o (earlier_other one rest.0 (least slots) rest.1) rest.2)
