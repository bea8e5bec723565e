-- Documents in a row, in order of their keys.
use Rattle.std.proofs.Common.{◌≡◌, ◌≢◌, ◌∙◌, ◌<◌, ◌≤◌, ◌-◌, ap, sym, subst, refl, arith, inl, inr, Bool, true, false, cond, List, [], ◌∷◌, ◌++◌, ℕ, suc, zero, length, drop, Option, None, Some}
use Rattle.std.specs.Prelude.{All, unwrap_or, slice_get, slice_index_or, slice_set}
use Rattle.std.specs.List.{AllByRecursion, AllWithin}
use Rattle.std.specs.List.Sorted.{IsPartitionedBy, IsStrictlySortedBy}
use Rattle.std.specs.Map.{lookup, keys_of}
use Rattle.std.specs.Ordering.{is_eq, is_lt, eq_by_cmp, ordering_reverse}
use Rattle.std.specs.declared.cmp.Ordering.{Ordering}
use Rattle.std.specs.declared.cmp.Ordering.TheVariants.{Less, Equal, Greater}
use Rattle.std.specs.Cmp.{Equal-is, eq_by_cmp_equiv, tied_itself}
use Rattle.std.proofs.Math.ListN.{get_or-map}
use Rattle.std.proofs.Math.Nat.{eq-or-lt_of_le}
use Rattle.std.proofs.lemmas.Map.Entries.{length-keys_of, lookup_at_gap}
use Rattle.std.proofs.lemmas.Map.Keys.{Less-from_sorted, sorted_head, sorted_tail}
use Rattle.std.proofs.lemmas.Option.{get_or_from_slice_get, slice_get-get_or, slice_get_past, slice_get_read, slice_get_within}
use Rattle.rs_optime.specs.declared.optime.OpTime.{OpTime}
use Rattle.bson_doc.specs.Key.{key_cmp}
use Rattle.bson_doc.specs.Place.{Place, place_cmp}
use Rattle.bson_doc.specs.Tree.{Fields}
use Rattle.bson_doc.specs.declared.key.IdKey.{IdKey}
use Rattle.bson_doc.proofs.KeyLemmas.{key_cmp-total, key_cmp-antisymmetric}
use Rattle.version_store.specs.Past.{Past, shown}
use Rattle.version_store.specs.Documents.{Documents}
use Rattle.version_store.specs.Row.{IsInOrder, StandsIn, changed_at}
use Rattle.version_store.specs.Shown.{one_at, shown_here}
use Rattle.version_store.specs.declared.shown.Shown.{Shown}
use Rattle.version_store.proofs.ShownLemmas.{left_in, named_at, once_keyed, shown_in, turn_shown}

-- ---- keys that are equal

pub tie_is : (a b : IdKey) → eq_by_cmp key_cmp a b ≡ true → a ≡ b
tie_is a b tie = key_cmp-antisymmetric a b ((Equal-is _).0 tie)

pub ties_flip : (a b : IdKey) → eq_by_cmp key_cmp a b ≡ eq_by_cmp key_cmp b a
ties_flip a b = (eq_by_cmp_equiv key_cmp-total).symm a b

lt_less : (o : Ordering) → is_lt o ≡ true → o ≡ Less
lt_less Less h = refl
lt_less Equal h = absurd (cc h)
lt_less Greater h = absurd (cc h)

greater_is : (o : Ordering) → is_lt o ≡ false → o ≢ Equal → o ≡ Greater
greater_is Less h apart = absurd (cc h)
greater_is Equal h apart = absurd (apart refl)
greater_is Greater h apart = refl

-- ---- where a key stands in a row

pub order_none : IsInOrder []
unfolding IsStrictlySortedBy
order_none = tt

pub rising_places : (row : Documents) (i j : ℕ) (d : IdKey × Past) → IsInOrder row → i < j → j < length row
    → key_cmp (slice_index_or row i d).0 (slice_index_or row j d).0 ≡ Less
rising_places row i j d order less inside =
    let first = get_or-map (λ (e : IdKey × Past). e.0) row i d in
    let second = get_or-map (λ (e : IdKey × Past). e.0) row j d in
    sym (λ t. key_cmp (first t) (second t))
    ∙ Less-from_sorted key_cmp (keys_of row) i j d.0 order less (omega (arith, length-keys_of row))

pub parted_keys : (row : Documents) (id : IdKey) → IsInOrder row → IsPartitionedBy (λ entry. is_lt (key_cmp entry.0 id)) row
parted_keys row id order i j d within inside early = elim (eq-or-lt_of_le within) [
  | inr less ↦ ap is_lt (key_cmp-total.trans _ _ id (rising_places row i j d order less inside) (lt_less _ early))
  | inl same ↦ rw same early
]

pub found_at : (row : Documents) (id : IdKey) (i : ℕ) (entry : IdKey × Past) → i < length row → entry ≡ slice_index_or row i entry
    → key_cmp entry.0 id ≡ Equal → StandsIn row id i
found_at row id i entry within is tie =
    (entry.1, subst (λ (k : IdKey). slice_get row i ≡ Some (k, entry.1)) (key_cmp-antisymmetric entry.0 id tie) (slice_get_read row (length row) i entry refl within is))

gap : (row : Documents) (id : IdKey) (i : ℕ) → IsInOrder row → AllWithin (λ entry. is_lt (key_cmp entry.0 id) ≡ true) row 0 i
    → ((entry : IdKey × Past) → slice_get row i ≡ Some entry → key_cmp entry.0 id ≡ Greater) → lookup (eq_by_cmp key_cmp id) row ≡ None
gap row id i order front below =
    lookup_at_gap key_cmp-total id row i order
    (λ j entry less at. key_cmp-total.antisymm id entry.0
    ∙ ap ordering_reverse (lt_less _ (subst (λ (e : IdKey × Past). is_lt (key_cmp e.0 id) ≡ true) (get_or_from_slice_get row j entry entry at) (front j entry (omega arith) less))))
    (λ entry at. key_cmp-total.antisymm id entry.0 ∙ ap ordering_reverse (below entry at))

-- no key is at the end of those before it
pub missing_past : (row : Documents) (id : IdKey) (i : ℕ) → IsInOrder row → AllWithin (λ entry. is_lt (key_cmp entry.0 id) ≡ true) row 0 i
    → length row ≤ i → lookup (eq_by_cmp key_cmp id) row ≡ None
missing_past row id i order front past =
    gap row id i order front (λ entry at. let none = slice_get_past row i past in absurd (cc none))

-- nor is it where another comes after them
pub missing_at : (row : Documents) (id : IdKey) (i : ℕ) (entry : IdKey × Past) → IsInOrder row
    → AllWithin (λ e. is_lt (key_cmp e.0 id) ≡ true) row 0 i → AllWithin (λ e. is_lt (key_cmp e.0 id) ≡ false) row i (length row)
    → i < length row → entry ≡ slice_index_or row i entry → key_cmp entry.0 id ≢ Equal → lookup (eq_by_cmp key_cmp id) row ≡ None
missing_at row id i entry order front back within is apart =
    gap row id i order front
    (λ e at. let same : e ≡ entry = sym (get_or_from_slice_get row i e entry at) ∙ sym is in
    subst (λ (x : IdKey × Past). key_cmp x.0 id ≡ Greater) (sym same)
    (greater_is _ (subst (λ (x : IdKey × Past). is_lt (key_cmp x.0 id) ≡ false) (sym is) (back i entry (omega arith) within)) apart))

-- where the last key is before another, so is each
pub last_before : (row : Documents) (id : IdKey) (entry : IdKey × Past) → IsInOrder row → Some entry ≡ slice_get row (length row - 1)
    → key_cmp entry.0 id ≡ Less → All (λ e. key_cmp e.0 id ≡ Less) row
last_before row id entry order at less k d within =
    let inside : length row - 1 < length row = slice_get_within row (length row - 1) entry (sym at) in
    let last : key_cmp (slice_index_or row (length row - 1) d).0 id ≡ Less =
    subst (λ (e : IdKey × Past). key_cmp e.0 id ≡ Less) (sym (get_or_from_slice_get row (length row - 1) entry d (sym at))) less in
    let most : k ≤ length row - 1 = omega arith in
    elim (eq-or-lt_of_le most) [
      | inr before ↦ key_cmp-total.trans _ _ id (rising_places row k (length row - 1) d order before inside) last
      | inl same ↦ rw same last
    ]

-- a row without a last entry has none
pub none_last : (P : IdKey × Past → Type 0) (row : Documents) → None ≡ slice_get row (length row - 1) → All P row
none_last P [] none k d within = absurd (omega arith)
none_last P (e ∷ row) none k d within =
    let there = slice_get-get_or (e ∷ row) (length row) e (omega arith) in
    let place : length (e ∷ row) - 1 ≡ length row = omega arith in
    absurd (cc (none ∙ ap (slice_get (e ∷ row)) place ∙ there))

pub after_none : (row : Documents) (id : IdKey) → All (λ e. key_cmp e.0 id ≡ Less) row → lookup (eq_by_cmp key_cmp id) row ≡ None
after_none [] id all = refl
after_none (entry ∷ row) id all =
    ap (λ b. cond b (Some entry.1) (lookup (eq_by_cmp key_cmp id) row))
    (ap is_eq (key_cmp-total.antisymm id entry.0 ∙ ap ordering_reverse (all 0 entry (omega arith))))
    ∙ after_none row id (λ k d within. all (suc k) d (omega arith))

-- ---- a document of the row changes

among : (P : IdKey → Type 0) (row : Documents) (i : ℕ) (k : IdKey) (p : Past) → AllByRecursion P (keys_of row) → slice_get row i ≡ Some (k, p) → P k
among P [] i k p all at = absurd (cc at)
among P (e ∷ row) zero k p all at = subst P (ap (λ (o : Option (IdKey × Past)). (unwrap_or o e).0) at) all.0
among P (e ∷ row) (suc i) k p all at = among P row i k p all.1 at

pub keys_changed : (row : Documents) (i : ℕ) (change : Past → Past) → keys_of (changed_at row i change) ≡ keys_of row
keys_changed [] i change = refl
keys_changed (e ∷ row) zero change = refl
keys_changed (e ∷ row) (suc i) change = ap (λ (ks : List IdKey). e.0 ∷ ks) (keys_changed row i change)

pub order_changed : (row : Documents) (i : ℕ) (change : Past → Past) → IsInOrder row → IsInOrder (changed_at row i change)
order_changed row i change order = subst (IsStrictlySortedBy key_cmp) (sym (keys_changed row i change)) order

-- as it is written into a list
pub changed_is : (row : Documents) (i : ℕ) (entry : IdKey × Past) (change : Past → Past) → i < length row → entry ≡ slice_index_or row i entry
    → slice_set row i (entry.0, change entry.1) ≡ changed_at row i change
changed_is [] i entry change within is = absurd (omega arith)
changed_is (x ∷ row) zero entry change within is = ap (λ (e : IdKey × Past). (e.0, change e.1) ∷ row) is
changed_is (x ∷ row) (suc i) entry change within is = ap (λ (l : Documents). x ∷ l) (changed_is row i entry change (omega arith) is)

pub changed_none : (row : Documents) (i : ℕ) → changed_at row i (λ past. past) ≡ row
changed_none [] i = refl
changed_none (e ∷ row) zero = refl
changed_none (e ∷ row) (suc i) = ap (λ (l : Documents). e ∷ l) (changed_none row i)

pub lookup_changed : (row : Documents) (i : ℕ) (k : IdKey) (p : Past) (change : Past → Past) → IsInOrder row → slice_get row i ≡ Some (k, p)
    → (q : IdKey) → lookup (eq_by_cmp key_cmp q) (changed_at row i change) ≡ cond (eq_by_cmp key_cmp k q) (Some (change p)) (lookup (eq_by_cmp key_cmp q) row)
lookup_changed [] i k p change order at q = absurd (cc at)
lookup_changed (e ∷ row) zero k p change order at q =
    ap (λ b. cond b (Some (change e.1)) (lookup (eq_by_cmp key_cmp q) row)) (ap (λ (x : IdKey). eq_by_cmp key_cmp q x) here.0 ∙ ties_flip q k)
    ∙ ap (λ (v : Past). cond (eq_by_cmp key_cmp k q) (Some (change v)) (lookup (eq_by_cmp key_cmp q) row)) here.1
    ∙ go (eq_by_cmp key_cmp k q)
    ∙ ap (λ b. cond (eq_by_cmp key_cmp k q) (Some (change p)) (cond b (Some e.1) (lookup (eq_by_cmp key_cmp q) row)))
    (ties_flip k q ∙ ap (λ (x : IdKey). eq_by_cmp key_cmp q x) (sym here.0))
  where
    here : (e.0 ≡ k) × (e.1 ≡ p)
    here = (ap (λ (o : Option (IdKey × Past)). (unwrap_or o e).0) at, ap (λ (o : Option (IdKey × Past)). (unwrap_or o e).1) at)

    go : (b : Bool) → cond b (Some (change p)) (lookup (eq_by_cmp key_cmp q) row) ≡ cond b (Some (change p)) (cond b (Some e.1) (lookup (eq_by_cmp key_cmp q) row))
    go true = refl
    go false = refl
lookup_changed (e ∷ row) (suc i) k p change order at q =
    ap (λ (o : Option Past). cond (eq_by_cmp key_cmp q e.0) (Some e.1) o) (lookup_changed row i k p change (sorted_tail key_cmp e.0 (keys_of row) order) at q)
    ∙ swap (eq_by_cmp key_cmp q e.0) refl (eq_by_cmp key_cmp k q) refl
  where
    less : key_cmp e.0 k ≡ Less
    less = among (λ y. key_cmp e.0 y ≡ Less) row i k p (sorted_head key_cmp e.0 (keys_of row) order) at

    swap : (b : Bool) → eq_by_cmp key_cmp q e.0 ≡ b → (c : Bool) → eq_by_cmp key_cmp k q ≡ c
        → cond b (Some e.1) (cond c (Some (change p)) (lookup (eq_by_cmp key_cmp q) row)) ≡ cond c (Some (change p)) (cond b (Some e.1) (lookup (eq_by_cmp key_cmp q) row))
    swap true one true two =
        let h : Less ≡ Equal = sym less ∙ ap (λ (x : IdKey). key_cmp e.0 x) (tie_is k q two ∙ tie_is q e.0 one) ∙ tied_itself key_cmp-total e.0 in
        absurd (cc h)
    swap true one false two = refl
    swap false one true two = refl
    swap false one false two = refl

-- ---- a document goes after the row

all_push : (P : IdKey → Type 0) (row : Documents) (id : IdKey) (w : Past) → AllByRecursion P (keys_of row) → P id → AllByRecursion P (keys_of (row ++ (id, w) ∷ []))
all_push P [] id w all last = (last, tt)
all_push P (e ∷ row) id w all last = (all.0, all_push P row id w all.1 last)

pub order_push : (row : Documents) (id : IdKey) (w : Past) → IsInOrder row → All (λ e. key_cmp e.0 id ≡ Less) row → IsInOrder (row ++ (id, w) ∷ [])
unfolding IsStrictlySortedBy
order_push [] id w order all = (tt, tt)
order_push (e ∷ row) id w order all =
    (all_push (λ y. key_cmp e.0 y ≡ Less) row id w order.0 (all 0 e (omega arith)), order_push row id w order.1 (λ k d within. all (suc k) d (omega arith)))

-- ---- one entry of a row

drop_step : (row : Documents) (i : ℕ) (entry : IdKey × Past) → i < length row → entry ≡ slice_index_or row i entry → drop i row ≡ entry ∷ drop (suc i) row
drop_step [] i entry within is = absurd (omega arith)
drop_step (x ∷ row) zero entry within is = ap (λ (e : IdKey × Past). e ∷ row) (sym is)
drop_step (x ∷ row) (suc i) entry within is = drop_step row i entry (omega arith) is

-- a document that is shown, and one that isn't
pub row_shown : (at : OpTime) (place : Place) (row : Documents) (i n : ℕ) (entry : IdKey × Past) (old more : List Shown) (one : Shown)
    → more ≡ old ++ one ∷ [] → Some one.document.now ≡ shown at entry.1.versions → entry.0 ≡ one.id.now
    → n ≡ suc i → i < length row → entry ≡ slice_index_or row i entry
    → shown_here place more ++ left_in one.ns.now at (drop n row) place ≡ shown_here place old ++ left_in one.ns.now at (drop i row) place
row_shown at place row i n entry old more one pushed shows key next within is =
    turn_shown at place old more one entry.1 (drop i row) (drop n row) pushed shows
    (drop_step row i entry within is ∙ ap (λ (k : IdKey). (k, entry.1) ∷ drop (suc i) row) key ∙ ap (λ m. (one.id.now, entry.1) ∷ drop m row) (sym next))

pub row_hidden : (ns : List ℕ) (at : OpTime) (place : Place) (row : Documents) (i n : ℕ) (entry : IdKey × Past) (old : List Shown) → n ≡ suc i
    → i < length row → entry ≡ slice_index_or row i entry → None ≡ shown at entry.1.versions
    → shown_here place old ++ left_in ns at (drop n row) place ≡ shown_here place old ++ left_in ns at (drop i row) place
row_hidden ns at place row i n entry old next within is hides =
    ap (λ m. shown_here place old ++ left_in ns at (drop m row) place) next
    ∙ sym (ap (λ (es : Documents). shown_here place old ++ left_in ns at es place) (drop_step row i entry within is)
    ∙ ap (λ (o : Option Fields). shown_here place old ++ (cond (eq_by_cmp place_cmp place (ns, entry.0)) (one_at place o) [] ++ left_in ns at (drop (suc i) row) place)) (sym hides)
    ∙ ap (λ (l : List (Place × Fields)). shown_here place old ++ (l ++ left_in ns at (drop (suc i) row) place)) (either (eq_by_cmp place_cmp place (ns, entry.0)) []))
  where
    either : (b : Bool) (l : List (Place × Fields)) → cond b l l ≡ l
    either true l = refl
    either false l = refl

-- a row is shown once
pub row_left : (ns : List ℕ) (at : OpTime) (row : Documents) (place : Place) → IsInOrder row → left_in ns at row place ≡ one_at place (named_at at ns row place)
row_left ns at row place order = shown_in ns at row place (once_keyed place.1 row order)
