-- A set of slots after one is opened or closed.
use Rattle.std.proofs.Common.{◌≡◌, ◌∙◌, ◌≤◌, ◌<◌, ◌↔◌, ◌⊎◌, inl, inr, ap, sym, subst, refl, arith, Bool, true, false, cond, not, ◌&&◌, ◌||◌, List, [], ◌∷◌, ℕ, length, Option, None, Some, IsTrue, IsSome, IfSome, MatchOption}
use Rattle.std.specs.List.{list_any}
use Rattle.std.specs.Ordering.{is_gt, eq_by_cmp}
use Rattle.std.specs.Cmp.{Equal-is, eq_by_cmp_equiv}
use Rattle.std.specs.FinSet.{FinSet, empty, contains, from_list, insert, remove, contains-empty, contains-from_list, contains-insert, contains-remove, same_set}
use Rattle.std.specs.BTreeMap.{is_at}
pub use Rattle.rs_optime.proofs.OrderLemmas.{optime_total, optime_exact}
use Rattle.rs_optime.specs.declared.optime.OpTime.{OpTime}
use Rattle.optime_slots.specs.Reserved.{optime_cmp, IsSeen, AreSeen, IsLeast}
use Rattle.std.specs.Option.{option_copied}
use Rattle.std.specs.Borrow.{Bor}

cond-or : (b c : Bool) → cond b true c ≡ (b || c)
cond-or true c = refl
cond-or false c = refl

cond-and : (b c : Bool) → cond b false c ≡ (not b && c)
cond-and true c = refl
cond-and false c = refl

-- the keys with one more are the set with it
pub slots_with : (old new : List OpTime) (at : OpTime)
    → ((q : OpTime) → list_any (is_at (optime_cmp q)) new ≡ cond (is_at (optime_cmp at) q) true (list_any (is_at (optime_cmp q)) old))
    → from_list {R = optime_cmp} new ≡ insert (from_list old) at
slots_with old new at h =
    same_set optime_total optime_exact _ _ (λ q.
    contains-from_list optime_total new q ∙ h q ∙ cond-or (eq_by_cmp optime_cmp at q) (list_any (is_at (optime_cmp q)) old)
    ∙ ap (λ b. b || list_any (is_at (optime_cmp q)) old) ((eq_by_cmp_equiv optime_total).symm at q)
    ∙ sym (contains-insert optime_total (from_list old) at q ∙ ap (λ b. eq_by_cmp optime_cmp q at || b) (contains-from_list optime_total old q)))

-- the keys with one less are the set without it
pub slots_without : (old new : List OpTime) (at : OpTime)
    → ((q : OpTime) → list_any (is_at (optime_cmp q)) new ≡ cond (is_at (optime_cmp at) q) false (list_any (is_at (optime_cmp q)) old))
    → from_list {R = optime_cmp} new ≡ remove (from_list old) at
slots_without old new at h =
    same_set optime_total optime_exact _ _ (λ q.
    contains-from_list optime_total new q ∙ h q ∙ cond-and (eq_by_cmp optime_cmp at q) (list_any (is_at (optime_cmp q)) old)
    ∙ ap (λ b. not b && list_any (is_at (optime_cmp q)) old) ((eq_by_cmp_equiv optime_total).symm at q)
    ∙ sym (contains-remove optime_total (from_list old) at q ∙ ap (λ b. not (eq_by_cmp optime_cmp q at) && b) (contains-from_list optime_total old q)))

-- no slot at all
pub seen_none : (mark : ℕ) → AreSeen (empty {R = optime_cmp}) mark
seen_none mark at here = let no : IsTrue false = subst IsTrue (contains-empty optime_cmp at) here in absurd (cc no)

at_or_among : (a b : Bool) → IsTrue (a || b) → (P : Type 0) → (IsTrue a → P) → (IsTrue b → P) → P
at_or_among true b h P one two = one refl
at_or_among false b h P one two = two h

-- the mark is raised
pub seen_raised : (slots : FinSet optime_cmp) (mark raised : ℕ) → AreSeen slots mark → mark ≤ raised → AreSeen slots raised
seen_raised slots mark raised seen up at here =
    let old : IsSeen mark at = seen at here in record { positive = old.positive; seen = omega (arith, old.seen) }

-- what is open once a slot more is
pub open_with : (slots : FinSet optime_cmp) (at q : OpTime) → IsTrue (contains (insert slots at) q) → (q ≡ at) ⊎ IsTrue (contains slots q)
open_with slots at q here =
    at_or_among (eq_by_cmp optime_cmp q at) (contains slots q) (subst IsTrue (contains-insert optime_total slots at q) here) ((q ≡ at) ⊎ IsTrue (contains slots q))
    (λ e. inl (optime_exact q at ((Equal-is _).0 e))) (λ h. inr h)

one_of_two : (a b : Bool) → IsTrue (a && b) → IsTrue b
one_of_two true b h = h
one_of_two false b h = absurd (cc h)

-- what is open once a slot is closed
pub open_without : (slots : FinSet optime_cmp) (at q : OpTime) → IsTrue (contains (remove slots at) q) → IsTrue (contains slots q)
open_without slots at q here =
    one_of_two (not (eq_by_cmp optime_cmp q at)) (contains slots q) (subst IsTrue (contains-remove optime_total slots at q) here)

-- one slot more, up to which the mark is raised
pub seen_with : (slots : FinSet optime_cmp) (mark raised : ℕ) (at : OpTime)
    → AreSeen slots mark → mark ≤ raised → 0 < at.ts → at.ts ≤ raised → AreSeen (insert slots at) raised
seen_with slots mark raised at seen up positive within q here = elim (open_with slots at q here) [
  | inl same ↦ let times : q.ts ≡ at.ts = ap (λ (o : OpTime). o.ts) same in record { positive = omega arith; seen = omega arith }
  | inr there ↦ seen_raised slots mark raised seen up q there
]

-- one slot less
pub seen_without : (slots : FinSet optime_cmp) (mark : ℕ) (at : OpTime) → AreSeen slots mark → AreSeen (remove slots at) mark
seen_without slots mark at seen q here = seen q (open_without slots at q here)

-- the first key of the set is the least slot
pub least_of : (keys : List OpTime) (mark : ℕ) (found : Option (Bor OpTime))
    → (IsSome found ↔ (0 < length keys))
    → IfSome found (λ k. IsTrue (list_any (is_at (optime_cmp k.now)) keys))
    → IfSome found (λ k. (q : OpTime) → IsTrue (list_any (is_at (optime_cmp q)) keys) → is_gt (optime_cmp k.now q) ≡ false)
    → MatchOption (option_copied found) (from_list keys ≡ empty {R = optime_cmp}) (IsLeast (record { slots = from_list keys; mark = mark }))
least_of [] mark None variant here first = refl
least_of (k ∷ ks) mark None variant here first = let some : IsSome {T = Bor OpTime} None = variant.1 (omega arith) in absurd (cc some)
least_of keys mark (Some k) variant here first = record {
  here = subst IsTrue (sym (contains-from_list optime_total keys k.now)) here;
  first = λ q h. first q (subst IsTrue (contains-from_list optime_total keys q) h);
}
