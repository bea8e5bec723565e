-- The documents that some writers hold, as they release them one after another.
use Rattle.std.proofs.Common.{◌≡◌, ◌≢◌, ◌⊎◌, ◌∙◌, inl, inr, ℕ, Bool, true, false, cond, List, [], ◌∷◌, Option, None, Some, refl, sym, ap, subst}
use Rattle.std.specs.Ordering.{is_eq, nat_cmp}
use Rattle.std.specs.Cmp.{nat_cmp_total}
use Rattle.std.specs.FinMap.{find, from_entries, get, get-from_entries}
use Rattle.bson_doc.specs.Place.{Place}
use Rattle.version_store.specs.Past.{Past, held_by}
use Rattle.version_store.specs.Store.{Store, Changes, holder_at, past_at, versions_at}
use Rattle.oplog_entry.specs.Step.{place_of}
use Rattle.oplog_entry.proofs.PlaceLemmas.{is_at-only, same_place}
use Rattle.set_model.specs.declared.writer.Writer.{Writer}
use Rattle.set_model.specs.declared.writer.Writer.TheVariants.{Open, Done, Lost}
use Rattle.set_model.specs.Holds.{holds}
use Rattle.node_data.specs.Kept.{IsHolder, is_held_by}
use Rattle.node_data.specs.Writers.{Writers, held_place}

-- one of them holds the document
abbrev pub SomeHeld : Place → List (ℕ × Writer) → Type 0
SomeHeld place [] = ⊥
SomeHeld place (e ∷ es) = (holds e.1 place ≡ true) ⊎ SomeHeld place es

holds_place : (writer : Writer) (place : Place) → holds writer place ≡ true → held_place writer ≡ Some place
holds_place (Open at op) place held = is_at-only (place_of op) place held
holds_place (Done at) place held = cc held
holds_place (Lost term) place held = cc held

some_found : (es : List (ℕ × Writer)) (number : ℕ) (place : Place) → is_held_by (find nat_cmp number es) place ≡ true → SomeHeld place es
some_found [] number place held = cc held
some_found (e ∷ es) number place held = by_test (is_eq (nat_cmp number e.0)) (some_found es number place) held
  where
    by_test : (b : Bool) → (is_held_by (find nat_cmp number es) place ≡ true → SomeHeld place es)
        → is_held_by (cond b (Some e.1) (find nat_cmp number es)) place ≡ true → (holds e.1 place ≡ true) ⊎ SomeHeld place es
    by_test true again here = inl here
    by_test false again rest = inr (again rest)

-- a document is held by none of them or by one
pub none_or_some : (es : List (ℕ × Writer)) (writers : Writers) (store : Store) → from_entries {R = nat_cmp} es ≡ writers
    → ((place : Place) → IsHolder writers place (holder_at store place))
    → (place : Place) → (holder_at store place ≡ None) ⊎ SomeHeld place es
none_or_some es writers store is holders place = by_holder (holder_at store place) refl (holders place)
  where
    by_holder : (holder : Option ℕ) → holder_at store place ≡ holder → IsHolder writers place holder → (holder_at store place ≡ None) ⊎ SomeHeld place es
    by_holder None none held = inl none
    by_holder (Some number) some held =
        inr (some_found es number place (ap (λ w. is_held_by w place) (sym (get-from_entries nat_cmp_total es number) ∙ ap (λ (m : Writers). get m number) is) ∙ held))

-- the first of them lets its document go
pub let_go : (store later : Store) (own : Place) (es rest : List (ℕ × Writer)) (e : ℕ × Writer) → held_place e.1 ≡ Some own
    → Changes store later own (held_by (past_at store own) None) → es ≡ e ∷ rest
    → ((place : Place) → (holder_at store place ≡ None) ⊎ SomeHeld place es)
    → (place : Place) → (holder_at later place ≡ None) ⊎ SomeHeld place rest
let_go store later own es rest e has changes is free place =
    elim (same_place own place) [
      | inl same ↦ inl (subst (λ p. holder_at later p ≡ None) same (ap (λ (x : Past). x.holder) changes.here))
      | inr apart ↦ elsewhere apart (free place)
    ]
  where
    by_first : own ≢ place → SomeHeld place (e ∷ rest) → (holder_at later place ≡ None) ⊎ SomeHeld place rest
    by_first apart (inl here) = let both : Some own ≡ Some place = sym has ∙ holds_place e.1 place here in let same : own ≡ place = cc in absurd (apart same)
    by_first apart (inr others) = inr others

    elsewhere : own ≢ place → (holder_at store place ≡ None) ⊎ SomeHeld place es → (holder_at later place ≡ None) ⊎ SomeHeld place rest
    elsewhere apart (inl none) = inl (ap (λ (x : Past). x.holder) (changes.others place (λ same. apart (sym same))) ∙ none)
    elsewhere apart (inr some) = by_first apart (subst (λ l. SomeHeld place l) is some)

pub let_versions : (store later : Store) (own : Place) → Changes store later own (held_by (past_at store own) None)
    → (place : Place) → versions_at later place ≡ versions_at store place
let_versions store later own changes place =
    elim (same_place own place) [
      | inl same ↦ subst (λ p. versions_at later p ≡ versions_at store p) same (ap (λ (x : Past). x.versions) changes.here)
      | inr apart ↦ ap (λ (x : Past). x.versions) (changes.others place (λ same. apart (sym same)))
    ]
