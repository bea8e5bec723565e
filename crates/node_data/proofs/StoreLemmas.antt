-- A store whose documents are held and released.
use Rattle.std.proofs.Common.{◌≡◌, inl, inr, ◌∙◌, ℕ, Option, None, Some, Result, Ok, Err, is_ok, IsTrue, OnOk, sym, ap, subst}
use Rattle.std.specs.FinSet as sets
use Rattle.bson_doc.specs.Place.{Place}
use Rattle.rs_optime.specs.declared.optime.OpTime.{OpTime}
use Rattle.oplog_entry.proofs.PlaceLemmas.{same_place}
use Rattle.optime_slots.specs.Reserved.{Reserved, closed}
use Rattle.optime_slots.specs.declared.slots.NoSuchSlot.{NoSuchSlot}
use Rattle.version_store.specs.Past.{Past, held_by}
use Rattle.version_store.specs.Store.{Store, past_at, versions_at, holder_at, Changes}

pub versions_stay : (store later : Store) (place : Place) (past : Past) → Changes store later place past → past.versions ≡ versions_at store place → (p : Place) → versions_at later p ≡ versions_at store p
versions_stay store later place past changes same p = elim (same_place place p) [
  | inl here ↦ subst (λ q. versions_at later q ≡ versions_at store q) here (ap (λ (x : Past). x.versions) changes.here ∙ same)
  | inr apart ↦ ap (λ (x : Past). x.versions) (changes.others p (λ e. apart (sym e)))
]

pub holders_stay : (store later : Store) (place : Place) (past : Past) → Changes store later place past → past.holder ≡ holder_at store place → (p : Place) → holder_at later p ≡ holder_at store p
holders_stay store later place past changes same p = elim (same_place place p) [
  | inl here ↦ subst (λ q. holder_at later q ≡ holder_at store q) here (ap (λ (x : Past). x.holder) changes.here ∙ same)
  | inr apart ↦ ap (λ (x : Past). x.holder) (changes.others p (λ e. apart (sym e)))
]

pub changes_twice : (one two three : Store) (place : Place) (a b : Past) → Changes one two place a → Changes two three place b → Changes one three place b
changes_twice one two three place a b first second = record {
  here = second.here;
  others = λ p apart. second.others p apart ∙ first.others p apart;
  count = second.count ∙ first.count;
}

-- a document that is held and let go again is as it was
pub past_same : (store between later : Store) (place : Place) (writer : ℕ) → holder_at store place ≡ None → Changes store between place (held_by (past_at store place) (Some writer))
    → Changes between later place (held_by (past_at between place) None) → (p : Place) → past_at later p ≡ past_at store p
past_same store between later place writer free held released p = elim (same_place place p) [
  | inl same ↦
      subst (λ q. past_at later q ≡ past_at store q) same
      (released.here ∙ ap (λ (x : Past). held_by x None) held.here ∙ ap (λ (h : Option ℕ). held_by (past_at store place) h) (sym free))
  | inr apart ↦ released.others p (λ e. apart (sym e)) ∙ held.others p (λ e. apart (sym e))
]

-- the slot of an open writer is closed, whatever closing it answers
pub slot_closed : (result : Result (Unit {0}) NoSuchSlot) (old new : Reserved) (at : OpTime) → is_ok result ≡ sets.contains old.slots at → OnOk result (new ≡ closed old at) → IsTrue (sets.contains old.slots at) → new ≡ closed old at
slot_closed (Ok u) old new at is done there = done
slot_closed (Err e) old new at is done there = cc
