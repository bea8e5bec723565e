-- Documents in two parts: those in a row, and the others.
use Rattle.std.proofs.Common.{◌≡◌, ◌≢◌, ◌∙◌, ap, sym, subst, refl, Bool, true, false, cond, List, [], ◌∷◌, ◌++◌, ℕ, Option, None, Some, append_assoc, append-nil}
use Rattle.std.specs.Prelude.{is_some, unwrap_or, slice_get}
use Rattle.std.specs.Option.{option_or}
use Rattle.std.specs.List.{list_any}
use Rattle.std.specs.Map.{lookup, keys_of}
use Rattle.std.specs.Ordering.{is_eq, eq_by_cmp, nat_cmp}
use Rattle.std.specs.Cmp.{eq_by_cmp_equiv, tied_itself}
use Rattle.std.specs.Cmp.Lexicographic.{slice_cmp}
use Rattle.std.proofs.lemmas.Map.Entries.{lookup_from_place}
use Rattle.std.proofs.lemmas.Map.Keys.{IsDistinct-from_sorted}
use Rattle.std.proofs.lemmas.Map.Made.{is_some-lookup}
use Rattle.rs_optime.specs.declared.optime.OpTime.{OpTime}
use Rattle.bson_doc.specs.Key.{key_cmp}
use Rattle.bson_doc.specs.Place.{Place}
use Rattle.bson_doc.specs.Tree.{Fields}
use Rattle.bson_doc.specs.declared.key.IdKey.{IdKey}
use Rattle.bson_doc.proofs.KeyLemmas.{key_cmp-total}
use Rattle.version_store.specs.Past.{Past, no_past, shown}
use Rattle.version_store.specs.Documents.{Documents, past_in, ChangesIn, ChangesEachIn}
use Rattle.version_store.specs.Row.{IsInOrder, StandsIn, changed_at, AreApart, GoesAfter, AddsNoKey}
use Rattle.version_store.specs.Shown.{one_at, shown_here, AddsShown}
use Rattle.version_store.specs.declared.shown.Shown.{Shown}
use Rattle.version_store.proofs.DocumentsLemmas.{set_past}
use Rattle.version_store.proofs.ShownLemmas.{named_at}
use Rattle.version_store.proofs.RowLemmas.{tie_is, lookup_changed, keys_changed, after_none}

-- ---- documents in two parts

pub lookup_both : {K X : Type 0} (test : K → Bool) (one two : List (K × X)) → lookup test (one ++ two) ≡ option_or (lookup test one) (lookup test two)
lookup_both test [] two = refl
lookup_both {X = X} test (e ∷ one) two = go (lookup_both test one two) (test e.0)
  where
    go : lookup test (one ++ two) ≡ option_or (lookup test one) (lookup test two) → (b : Bool)
        → cond b (Some e.1) (lookup test (one ++ two)) ≡ option_or (cond b (Some e.1) (lookup test one)) (lookup test two)
    go again true = refl
    go again false = again

pub front_empty : (row others : Documents) → row ++ others ≡ [] → row ≡ []
front_empty [] others is = refl
front_empty (entry ∷ row) others is = absurd (cc is)

or_nothing : (o n : Option Past) → unwrap_or n no_past ≡ no_past → unwrap_or (option_or o n) no_past ≡ unwrap_or o no_past
or_nothing None n nothing = nothing
or_nothing (Some past) n nothing = refl

-- a past is that of the others where the key isn't in the row, and that of the row where the others have none
pub past_after : (row others : Documents) (id : IdKey) → lookup (eq_by_cmp key_cmp id) row ≡ None → past_in (row ++ others) id ≡ past_in others id
past_after row others id is =
    ap (λ (o : Option Past). unwrap_or o no_past)
    (lookup_both (eq_by_cmp key_cmp id) row others ∙ ap (λ (o : Option Past). option_or o (lookup (eq_by_cmp key_cmp id) others)) is)

pub past_front : (row others : Documents) (id : IdKey) → past_in others id ≡ no_past → past_in (row ++ others) id ≡ past_in row id
past_front row others id nothing =
    ap (λ (o : Option Past). unwrap_or o no_past) (lookup_both (eq_by_cmp key_cmp id) row others)
    ∙ or_nothing (lookup (eq_by_cmp key_cmp id) row) (lookup (eq_by_cmp key_cmp id) others) nothing

-- where the row has the key, that is its past, whatever the others have
past_there : (row others : Documents) (id : IdKey) (past : Past) → lookup (eq_by_cmp key_cmp id) row ≡ Some past → past_in (row ++ others) id ≡ past
past_there row others id past is =
    ap (λ (o : Option Past). unwrap_or o no_past)
    (lookup_both (eq_by_cmp key_cmp id) row others ∙ ap (λ (o : Option Past). option_or o (lookup (eq_by_cmp key_cmp id) others)) is)

lookup_placed : (row : Documents) (id : IdKey) (i : ℕ) (past : Past) → IsInOrder row → slice_get row i ≡ Some (id, past)
    → lookup (eq_by_cmp key_cmp id) row ≡ Some past
lookup_placed row id i past order at =
    lookup_from_place (eq_by_cmp_equiv key_cmp-total) row i id past (IsDistinct-from_sorted key_cmp (keys_of row) order) at

-- the place of a document in the row has its past
pub past_placed : (row others : Documents) (id : IdKey) (i : ℕ) (past : Past) → IsInOrder row → slice_get row i ≡ Some (id, past)
    → past_in (row ++ others) id ≡ past
past_placed row others id i past order at = past_there row others id past (lookup_placed row id i past order at)

-- ---- a document of the row changes

or_spread : (b : Bool) (w : Past) (o n : Option Past) → option_or (cond b (Some w) o) n ≡ cond b (Some w) (option_or o n)
or_spread true w o n = refl
or_spread false w o n = refl

pub changes_row : (row others : Documents) (id : IdKey) (i : ℕ) (change : Past → Past) → IsInOrder row → StandsIn row id i
    → ChangesIn (row ++ others) (changed_at row i change ++ others) id (change (past_in (row ++ others) id))
changes_row row others id i change order stands =
    set_past (row ++ others) (changed_at row i change ++ others) id stands.0 (change stands.0) change (past_placed row others id i stands.0 order stands.1) refl
    (λ q. lookup_both (eq_by_cmp key_cmp q) (changed_at row i change) others
    ∙ ap (λ (o : Option Past). option_or o (lookup (eq_by_cmp key_cmp q) others)) (lookup_changed row i id stands.0 change order stands.1 q)
    ∙ or_spread (eq_by_cmp key_cmp id q) (change stands.0) (lookup (eq_by_cmp key_cmp q) row) (lookup (eq_by_cmp key_cmp q) others)
    ∙ ap (λ (o : Option Past). cond (eq_by_cmp key_cmp id q) (Some (change stands.0)) o) (sym (lookup_both (eq_by_cmp key_cmp q) row others)))

pub apart_row : (row others : Documents) (i : ℕ) (change : Past → Past) → AreApart row others → AreApart (changed_at row i change) others
apart_row row others i change apart id there =
    apart id
    (is_some-lookup (eq_by_cmp key_cmp id) row ∙ ap (list_any (eq_by_cmp key_cmp id)) (sym (keys_changed row i change))
    ∙ sym (is_some-lookup (eq_by_cmp key_cmp id) (changed_at row i change)) ∙ there)

-- ---- a document goes after the row

pub changes_push : (row others : Documents) (id : IdKey) (w : Past) (change : Past → Past) → GoesAfter row others id → w ≡ change no_past
    → ChangesIn (row ++ others) ((row ++ (id, w) ∷ []) ++ others) id (change (past_in (row ++ others) id))
changes_push row others id w change goes is = record {
  here = past_there (row ++ (id, w) ∷ []) others id w (pushed id ∙ ap (λ (o : Option Past). option_or o (lookup (eq_by_cmp key_cmp id) ((id, w) ∷ []))) absent
      ∙ ap (λ b. cond b (Some w) None) (ap is_eq (tied_itself key_cmp-total id)))
      ∙ is ∙ ap change (sym (past_after row others id absent ∙ goes.absent));
  others = λ q apart. past_same q (pushed q ∙ ap (λ b. option_or (lookup (eq_by_cmp key_cmp q) row) (cond b (Some w) None)) (other q apart (eq_by_cmp key_cmp q id) refl)
      ∙ or_none (lookup (eq_by_cmp key_cmp q) row));
}
  where
    absent : lookup (eq_by_cmp key_cmp id) row ≡ None
    absent = after_none row id goes.after

    pushed : (q : IdKey) → lookup (eq_by_cmp key_cmp q) (row ++ (id, w) ∷ []) ≡ option_or (lookup (eq_by_cmp key_cmp q) row) (lookup (eq_by_cmp key_cmp q) ((id, w) ∷ []))
    pushed q = lookup_both (eq_by_cmp key_cmp q) row ((id, w) ∷ [])

    or_none : (o : Option Past) → option_or o None ≡ o
    or_none None = refl
    or_none (Some past) = refl

    other : (q : IdKey) → q ≢ id → (b : Bool) → eq_by_cmp key_cmp q id ≡ b → eq_by_cmp key_cmp q id ≡ false
    other q apart true tie = absurd (apart (tie_is q id tie))
    other q apart false tie = tie

    past_same : (q : IdKey) → lookup (eq_by_cmp key_cmp q) (row ++ (id, w) ∷ []) ≡ lookup (eq_by_cmp key_cmp q) row
        → past_in ((row ++ (id, w) ∷ []) ++ others) q ≡ past_in (row ++ others) q
    past_same q same =
        ap (λ (o : Option Past). unwrap_or o no_past)
        (lookup_both (eq_by_cmp key_cmp q) (row ++ (id, w) ∷ []) others ∙ ap (λ (o : Option Past). option_or o (lookup (eq_by_cmp key_cmp q) others)) same
        ∙ sym (lookup_both (eq_by_cmp key_cmp q) row others))

pub apart_push : (row others : Documents) (id : IdKey) (w : Past) → AreApart row others → GoesAfter row others id → AreApart (row ++ (id, w) ∷ []) others
apart_push row others id w apart goes q there = go (lookup (eq_by_cmp key_cmp q) row) refl
  where
    last : (b : Bool) → eq_by_cmp key_cmp q id ≡ b → is_some (cond b (Some w) None) ≡ true → past_in others q ≡ no_past
    last true tie h = subst (λ (x : IdKey). past_in others x ≡ no_past) (sym (tie_is q id tie)) goes.absent
    last false tie h = absurd (cc h)

    go : (o : Option Past) → lookup (eq_by_cmp key_cmp q) row ≡ o → past_in others q ≡ no_past
    go (Some past) is = apart q (ap is_some is)
    go None is =
        last (eq_by_cmp key_cmp q id) refl
        (sym (ap is_some (lookup_both (eq_by_cmp key_cmp q) row ((id, w) ∷ []) ∙ ap (λ (o : Option Past). option_or o (cond (eq_by_cmp key_cmp q id) (Some w) None)) is)) ∙ there)

-- ---- one of the others changes

pub changes_other : (row others new : Documents) (id : IdKey) (change : Past → Past) → lookup (eq_by_cmp key_cmp id) row ≡ None
    → ChangesIn others new id (change (past_in others id)) → ChangesIn (row ++ others) (row ++ new) id (change (past_in (row ++ others) id))
changes_other row others new id change absent changes = record {
  here = past_after row new id absent ∙ changes.here ∙ ap change (sym (past_after row others id absent));
  others = λ q apart. go q apart (lookup (eq_by_cmp key_cmp q) row) refl;
}
  where
    go : (q : IdKey) → q ≢ id → (o : Option Past) → lookup (eq_by_cmp key_cmp q) row ≡ o → past_in (row ++ new) q ≡ past_in (row ++ others) q
    go q apart None is = past_after row new q is ∙ changes.others q apart ∙ sym (past_after row others q is)
    go q apart (Some past) is = past_there row new q past is ∙ sym (past_there row others q past is)

pub apart_other : (row others new : Documents) (id : IdKey) (w : Past) → AreApart row others → lookup (eq_by_cmp key_cmp id) row ≡ None → ChangesIn others new id w
    → AreApart row new
apart_other row others new id w apart absent changes q there = changes.others q differs ∙ apart q there
  where
    differs : q ≢ id
    differs same =
        let none : lookup (eq_by_cmp key_cmp q) row ≡ None = subst (λ (x : IdKey). lookup (eq_by_cmp key_cmp x) row ≡ None) (sym same) absent in
        cc (sym (ap is_some none) ∙ there)

-- ---- each is cut

pub apart_cut : (row others row' others' : Documents) (change : Past → Past) → change no_past ≡ no_past → AreApart row others → AddsNoKey row row'
    → ChangesEachIn others others' change → AreApart row' others'
apart_cut row others row' others' change none apart kept each q there = each q ∙ ap change (apart q (go (lookup (eq_by_cmp key_cmp q) row) refl)) ∙ none
  where
    go : (o : Option Past) → lookup (eq_by_cmp key_cmp q) row ≡ o → is_some (lookup (eq_by_cmp key_cmp q) row) ≡ true
    go (Some past) is = ap is_some is
    go None is = absurd (cc (sym (ap is_some (kept q is)) ∙ there))

pub changes_cut : (row others row' others' : Documents) (change : Past → Past) → change no_past ≡ no_past → AreApart row others → AddsNoKey row row'
    → ChangesEachIn row row' change → ChangesEachIn others others' change → ChangesEachIn (row ++ others) (row' ++ others') change
changes_cut row others row' others' change none apart kept each each' id = go (lookup (eq_by_cmp key_cmp id) row) refl
  where
    go : (o : Option Past) → lookup (eq_by_cmp key_cmp id) row ≡ o → past_in (row' ++ others') id ≡ change (past_in (row ++ others) id)
    go None is = past_after row' others' id (kept id is) ∙ each' id ∙ ap change (sym (past_after row others id is))
    go (Some past) is =
        let nothing : past_in others id ≡ no_past = apart id (ap is_some is) in
        past_front row' others' id (each' id ∙ ap change nothing ∙ none) ∙ each id ∙ ap change (sym (past_front row others id nothing))

-- ---- what a read shows

pub shown_both : (ns : List ℕ) (at : OpTime) (row others : Documents) (place : Place) → AreApart row others
    → one_at place (named_at at ns row place) ++ one_at place (named_at at ns others place) ≡ one_at place (named_at at ns (row ++ others) place)
shown_both ns at row others place apart = go (eq_by_cmp (slice_cmp nat_cmp) place.0 ns)
  where
    here : (o : Option Past) → lookup (eq_by_cmp key_cmp place.1) row ≡ o
        → one_at place (shown at (past_in row place.1).versions) ++ one_at place (shown at (past_in others place.1).versions)
        ≡ one_at place (shown at (past_in (row ++ others) place.1).versions)
    here None is =
        ap (λ (p : Past). one_at place (shown at p.versions) ++ one_at place (shown at (past_in others place.1).versions)) (ap (λ (o : Option Past). unwrap_or o no_past) is)
        ∙ ap (λ (p : Past). one_at place (shown at p.versions)) (sym (past_after row others place.1 is))
    here (Some past) is =
        let nothing : past_in others place.1 ≡ no_past = apart place.1 (ap is_some is) in
        ap (λ (p : Past). one_at place (shown at (past_in row place.1).versions) ++ one_at place (shown at p.versions)) nothing
        ∙ append-nil (one_at place (shown at (past_in row place.1).versions))
        ∙ ap (λ (p : Past). one_at place (shown at p.versions)) (sym (past_front row others place.1 nothing))

    go : (b : Bool)
        → one_at place (cond b (shown at (past_in row place.1).versions) None) ++ one_at place (cond b (shown at (past_in others place.1).versions) None)
        ≡ one_at place (cond b (shown at (past_in (row ++ others) place.1).versions) None)
    go true = here (lookup (eq_by_cmp key_cmp place.1) row) refl
    go false = refl

pub adds_both : (ns : List ℕ) (at : OpTime) (row others : Documents) (old middle new : List Shown) → AreApart row others
    → AddsShown old middle (λ place. named_at at ns row place) → AddsShown middle new (λ place. named_at at ns others place)
    → AddsShown old new (λ place. named_at at ns (row ++ others) place)
adds_both ns at row others old middle new apart one two place =
    two place
    ∙ ap (λ (l : List (Place × Fields)). l ++ one_at place (named_at at ns others place)) (one place)
    ∙ append_assoc (shown_here place old) (one_at place (named_at at ns row place)) (one_at place (named_at at ns others place))
    ∙ ap (λ (l : List (Place × Fields)). shown_here place old ++ l) (shown_both ns at row others place apart)
