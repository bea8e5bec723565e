-- The least of some slots.
use Rattle.std.proofs.Common.{◌≡◌, ◌∙◌, ◌⊎◌, inl, inr, ap, sym, refl, arith, Bool, true, false, cond, ◌||◌, IsTrue, List, [], ◌∷◌, Option, None, Some, IfSome}
use Rattle.std.specs.List.{list_any, filter}
use Rattle.std.specs.Ordering.{is_eq, is_lt, is_gt, eq_by_cmp, ordering_reverse}
use Rattle.std.specs.declared.cmp.Ordering.{Ordering}
use Rattle.std.specs.declared.cmp.Ordering.TheVariants.{Less, Equal, Greater}
use Rattle.std.specs.Cmp.{Equal-is, tied_itself}
use Rattle.std.specs.FinSet.{FinSet, empty, contains, from_list, items, contains-empty, contains-from_list, contains-items, same_set}
use Rattle.rs_optime.specs.declared.optime.OpTime.{OpTime}
use Rattle.rs_optime.proofs.Optimes.{later_time, before_at_most, at_most_trans}
use Rattle.oplog_entry.specs.Visible.{is_before, least, earlier, last_of, entries_before, visible}
use Rattle.oplog_entry.specs.declared.entry.Entry.{Entry}
use Rattle.optime_slots.specs.Reserved.{Reserved, optime_cmp, IsLeast}
use Rattle.optime_slots.proofs.SlotLemmas.{optime_total, optime_exact}

-- an optime is in a list
abbrev pub is_listed : OpTime → List OpTime → Bool
is_listed at xs = list_any (eq_by_cmp optime_cmp at) xs

either : (a b : Bool) → IsTrue (a || b) → IsTrue a ⊎ ((a ≡ false) × IsTrue b)
either true b h = inl refl
either false b h = inr (refl, h)

right_too : (a b : Bool) → IsTrue b → IsTrue (a || b)
right_too true b h = refl
right_too false b h = h

left_too : (a b : Bool) → IsTrue a → IsTrue (a || b)
left_too true b h = refl
left_too false b h = cc h

turned : (r : Ordering) → is_gt r ≡ false → is_lt (ordering_reverse r) ≡ false
turned Less h = refl
turned Equal h = refl
turned Greater h = cc h

left_over : (r : Ordering) → is_gt r ≡ false → is_eq r ≡ false → is_lt r ≡ true
left_over Less h k = refl
left_over Equal h k = cc k
left_over Greater h k = cc h

-- what an optime is not after is not before it
pub not_after : (a b : OpTime) → is_gt (optime_cmp a b) ≡ false → is_before b a ≡ false
not_after a b h = ap is_lt (optime_total.antisymm b a) ∙ turned (optime_cmp a b) h

pub itself : (a : OpTime) → is_before a a ≡ false
itself a = later_time a a refl (omega arith)

-- the least is one of the list
pub least_listed : (xs : List OpTime) → IfSome (least xs) (λ o. IsTrue (is_listed o xs))
least_listed [] = tt
least_listed (x ∷ xs) = go (least xs) (least_listed xs)
  where
    here : (o : OpTime) → o ≡ x → IsTrue (is_listed o (x ∷ xs))
    here o same = left_too _ _ (ap is_eq (ap (λ (y : OpTime). optime_cmp o y) (sym same) ∙ tied_itself optime_total o))

    go : (r : Option OpTime) → IfSome r (λ o. IsTrue (is_listed o xs)) → IsTrue (is_listed (earlier x r) (x ∷ xs))
    go None h = here x refl
    go (Some o) h =
        elim (is_before o x) as (λ b. IsTrue (is_listed (cond b o x) (x ∷ xs))) [ true ↦ right_too _ _ h | false ↦ here x refl ]

-- one of the list that no other is before is the least
pub least_one : (xs : List OpTime) (at : OpTime) → IsTrue (is_listed at xs)
    → ((q : OpTime) → IsTrue (is_listed q xs) → is_gt (optime_cmp at q) ≡ false) → least xs ≡ Some at
least_one [] at here first = cc here
least_one (x ∷ xs) at here first = elim (either (eq_by_cmp optime_cmp at x) (is_listed at xs) here) [
  | inl same ↦ found (sym (optime_exact at x ((Equal-is _).0 same))) (least xs) (least_listed xs)
  | inr rest ↦
      let there : least xs ≡ Some at = least_one xs at rest.1 (λ q h. first q (right_too _ _ h)) in
      let less : is_before at x ≡ true = left_over (optime_cmp at x) (first x (left_too _ _ (ap is_eq (tied_itself optime_total x)))) rest.0 in
      ap (λ r. Some (earlier x r)) there ∙ ap (λ b. Some (cond b at x)) less
]
  where
    found : x ≡ at → (r : Option OpTime) → IfSome r (λ o. IsTrue (is_listed o xs)) → ◌≡◌ {A = Option OpTime} (Some (earlier x r)) (Some at)
    found same None h = ap (λ (y : OpTime). Some y) same
    found same (Some o) h =
        let late : is_before o x ≡ false = ap (is_before o) same ∙ not_after at o (first o (right_too _ _ h)) in
        ap (λ b. Some (cond b o x)) late ∙ ap (λ (y : OpTime). Some y) same

-- no list of no slots has one
pub none_listed : (xs : List OpTime) → from_list {R = optime_cmp} xs ≡ empty → xs ≡ []
none_listed [] h = refl
none_listed (x ∷ xs) h =
    let none : contains (from_list {R = optime_cmp} (x ∷ xs)) x ≡ false = ap (λ s. contains s x) h ∙ contains-empty optime_cmp x in
    let some : contains (from_list {R = optime_cmp} (x ∷ xs)) x ≡ true =
    contains-from_list optime_total (x ∷ xs) x ∙ left_too (eq_by_cmp optime_cmp x x) (is_listed x xs) (ap is_eq (tied_itself optime_total x)) in
    absurd (cc)

-- the slots in order make the set again
pub items_again : (s : FinSet optime_cmp) → from_list (items s) ≡ s
items_again s = same_set optime_total optime_exact _ _ (λ q. contains-from_list optime_total (items s) q ∙ sym (contains-items s q))

-- the least slot is the least of any list of them
pub least_of_listed : (reserved : Reserved) (at : OpTime) (xs : List OpTime) → IsLeast reserved at → from_list xs ≡ reserved.slots → least xs ≡ Some at
least_of_listed reserved at xs is same =
    let listed : (q : OpTime) → contains reserved.slots q ≡ is_listed q xs = λ q. ap (λ s. contains s q) (sym same) ∙ contains-from_list optime_total xs q in
    least_one xs at (sym (listed at) ∙ is.here) (λ q h. is.first q (listed q ∙ h))

-- where an optime is in a list, there is a least one, and it is not before that
pub least_is_first : (xs : List OpTime) (at : OpTime) → IsTrue (is_listed at xs) → (s : OpTime) × (least xs ≡ Some s) × (is_before at s ≡ false)
least_is_first [] at here = absurd (cc here)
least_is_first (x ∷ xs) at here = elim (either (eq_by_cmp optime_cmp at x) (is_listed at xs) here) [
  | inl same ↦ first (optime_exact at x ((Equal-is _).0 same)) (least xs)
  | inr rest ↦ after (least_is_first xs at rest.1)
]
  where
    first : at ≡ x → (r : Option OpTime) → (s : OpTime) × (◌≡◌ {A = Option OpTime} (Some (earlier x r)) (Some s)) × (is_before at s ≡ false)
    first same None = (x, refl, ap (λ (y : OpTime). is_before y x) same ∙ itself x)
    first same (Some o) = choose (is_before o x) refl
      where
        choose : (b : Bool) → is_before o x ≡ b → (s : OpTime) × (◌≡◌ {A = Option OpTime} (Some (cond (is_before o x) o x)) (Some s)) × (is_before at s ≡ false)
        choose true is = (o, ap (λ b. Some (cond b o x)) is, ap (λ (y : OpTime). is_before y o) same ∙ before_at_most o x is)
        choose false is = (x, ap (λ b. Some (cond b o x)) is, ap (λ (y : OpTime). is_before y x) same ∙ itself x)

    after : ((s : OpTime) × (least xs ≡ Some s) × (is_before at s ≡ false)) → (s : OpTime) × (least (x ∷ xs) ≡ Some s) × (is_before at s ≡ false)
    after found = choose (is_before found.0 x) refl
      where
        choose : (b : Bool) → is_before found.0 x ≡ b → (s : OpTime) × (least (x ∷ xs) ≡ Some s) × (is_before at s ≡ false)
        choose true is = (found.0, ap (λ r. Some (earlier x r)) found.1 ∙ ap (λ b. Some (cond b found.0 x)) is, found.2)
        choose false is = (x, ap (λ r. Some (earlier x r)) found.1 ∙ ap (λ b. Some (cond b found.0 x)) is, at_most_trans x found.0 at is found.2)

-- what is visible where no slot is open
pub visible_whole : (log : List Entry) (reserved : FinSet optime_cmp) (xs : List OpTime) → reserved ≡ empty → from_list xs ≡ reserved → last_of log ≡ visible log xs
visible_whole log reserved xs none same = ap (λ ys. visible log ys) (sym (none_listed xs (same ∙ none)))

-- and where one is the least
pub visible_before : (log : List Entry) (reserved : Reserved) (at : OpTime) (xs : List OpTime) → IsLeast reserved at → from_list xs ≡ reserved.slots
    → last_of (filter (λ entry. is_before entry.optime at) log) ≡ visible log xs
visible_before log reserved at xs is same = ap (λ slot. last_of (entries_before slot log)) (sym (least_of_listed reserved at xs is same))

-- what is answered is visible, whatever the list of the slots
pub whole_is_visible : (result : OpTime) (log : List Entry) (slots : FinSet optime_cmp) (xs : List OpTime) → result ≡ last_of log → slots ≡ empty → from_list xs ≡ slots → result ≡ visible log xs
whole_is_visible result log slots xs is none same = is ∙ visible_whole log slots xs none same
