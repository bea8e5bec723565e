-- How late the documents of a log are touched, as entries come to it.
use Rattle.std.proofs.Common.{◌≡◌, ◌∙◌, inl, inr, ℕ, true, false, not, List, [], ◌∷◌, ◌++◌, drop, length, Option, None, Some, refl, sym, ap, subst}
use Rattle.std.specs.BTreeMap.{BTreeMap, get}
use Rattle.std.specs.List.{All, filter}
use Rattle.std.proofs.lemmas.List.Elements.{All-append, All-cons, All-filter, All-nil}
use Rattle.rs_optime.specs.Order.{AtMost}
use Rattle.rs_optime.specs.declared.optime.OpTime.{OpTime}
use Rattle.rs_optime.proofs.MembershipLemmas.{all_in, in_all}
use Rattle.rs_optime.proofs.Optimes.{at_most_before_trans, at_most_refl, at_most_trans, before_at_most}
use Rattle.bson_doc.specs.Place.{Place, place_cmp}
use Rattle.doc_shelf.specs.Shelf.{AreApart}
use Rattle.oplog_entry.specs.Step.{is_at, place_of}
use Rattle.oplog_entry.specs.Visible.{is_before, log_up_to}
use Rattle.oplog_entry.specs.declared.entry.Entry.{Entry}
use Rattle.oplog_entry.proofs.LogLemmas.{with_in}
use Rattle.oplog_entry.proofs.PlaceLemmas.{same_place}
use Rattle.oplog_store.specs.Log.{IsOplog, with_entry}
use Rattle.checker_tables.specs.Touching.{EndAll, EndAlso, Ends, IsByEnd, ends_before}
use Rattle.checker_tables.proofs.HoldingLemmas.{apart_at}
use Rattle.checker_tables.proofs.LogLemmas.{late_after}

abbrev Known : Type 0
Known = BTreeMap Place OpTime

some_same : (p q : Place) → Some p ≡ Some q → p ≡ q
some_same p q e = cc

-- ---- the end of one document

-- it isn't before the optime already
pub end_there : (ends : Known) (place : Place) (at : OpTime) → ends_before (get place_cmp ends place) at ≡ false → EndAlso place at ends ends
end_there ends place at late = record { same = λ other end is. (end, is, at_most_refl end); own = by_end (get place_cmp ends place) refl late }
  where
    by_end : (found : Option OpTime) → get place_cmp ends place ≡ found → ends_before found at ≡ false → (end : OpTime) × (get place_cmp ends place ≡ Some end) × AtMost at end
    by_end None is late = absurd (cc late)
    by_end (Some end) is late = (end, is, late)

-- the optime takes its place
pub end_put : (old new : Known) (place : Place) (at : OpTime) → ends_before (get place_cmp old place) at ≡ true → get place_cmp new place ≡ Some at
    → ((q : Place) → is_at (Some place) q ≡ false → get place_cmp new q ≡ get place_cmp old q) → EndAlso place at old new
end_put old new place at early here stay = record { same = same; own = (at, here, at_most_refl at) }
  where
    same : (other : Place) (end : OpTime) → get place_cmp old other ≡ Some end → (later : OpTime) × (get place_cmp new other ≡ Some later) × AtMost end later
    same other end is = elim (same_place place other) [
      | inl one ↦
          let before : is_before end at ≡ true =
          sym (ap (λ (e : Option OpTime). ends_before e at) (ap (get place_cmp old) one ∙ is)) ∙ early in
          (at, ap (get place_cmp new) (sym one) ∙ here, before_at_most end at before)
      | inr apart ↦ (end, stay other (apart_at place other apart) ∙ is, at_most_refl end)
    ]

-- ---- the ends of a log

later_end : (old new : Known) (place : Place) (at : OpTime) → EndAlso place at old new → (entry : Entry) → IsByEnd old entry → IsByEnd new entry
later_end old new place at also entry by q is =
    let found = by q is in let more = also.same q found.0 found.1 in (more.0, more.1, at_most_trans entry.optime found.0 more.0 found.2 more.2)

all_later : (old new : Known) (place : Place) (at : OpTime) (log : List Entry) → EndAlso place at old new → All (IsByEnd old) log → All (IsByEnd new) log
all_later old new place at log also all = in_all (IsByEnd new) log (λ e there. later_end old new place at also e (all_in (IsByEnd old) log e all there))

own_end : (old new : Known) (place : Place) (entry : Entry) → EndAlso place entry.optime old new → place_of entry.op ≡ Some place → IsByEnd new entry
own_end old new place entry also is_place q is =
    subst (λ (p : Place). (end : OpTime) × (get place_cmp new p ≡ Some end) × AtMost entry.optime end) (some_same place q (sym is_place ∙ is)) also.own

no_end : (ends : Known) (entry : Entry) → place_of entry.op ≡ None → IsByEnd ends entry
no_end ends entry none q is = absurd (cc (none, is))

all_after : (P : Entry → Type 0) (log : List Entry) (entry : Entry) → All P log → P entry → All P (log ++ entry ∷ [])
all_after P log entry all own = All-append P log (entry ∷ []) all (All-cons P entry [] own (All-nil P))

all_placed : (P : Entry → Type 0) (log : List Entry) (entry : Entry) → All P log → P entry → All P (with_entry log entry)
all_placed P log entry all own = in_all P (with_entry log entry) (λ e there. elim (with_in log entry e there) [
  | inl before ↦ all_in P log e all before
  | inr same ↦ subst P same own
])

-- with an entry that touches no document
pub passed_after : (ends : Known) (entry : Entry) (log : List Entry) → place_of entry.op ≡ None → EndAll log (Some ends) → EndAll (log ++ entry ∷ []) (Some ends)
passed_after ends entry log none all = all_after (IsByEnd ends) log entry all (no_end ends entry none)

pub passed_placed : (ends : Known) (entry : Entry) (log : List Entry) → place_of entry.op ≡ None → EndAll log (Some ends) → EndAll (with_entry log entry) (Some ends)
passed_placed ends entry log none all = all_placed (IsByEnd ends) log entry all (no_end ends entry none)

-- with one that touches the document at a place
pub noted_after : (old new : Known) (place : Place) (entry : Entry) (log : List Entry) → place_of entry.op ≡ Some place → EndAlso place entry.optime old new
    → EndAll log (Some old) → EndAll (log ++ entry ∷ []) (Some new)
noted_after old new place entry log is also all =
    all_after (IsByEnd new) log entry (all_later old new place entry.optime log also all) (own_end old new place entry also is)

pub noted_placed : (old new : Known) (place : Place) (entry : Entry) (log : List Entry) → place_of entry.op ≡ Some place → EndAlso place entry.optime old new
    → EndAll log (Some old) → EndAll (with_entry log entry) (Some new)
noted_placed old new place entry log is also all =
    all_placed (IsByEnd new) log entry (all_later old new place entry.optime log also all) (own_end old new place entry also is)

-- of fewer entries
pub ends_cut : (at : OpTime) (log : List Entry) (ends : Ends) → EndAll log ends → EndAll (log_up_to at log) ends
ends_cut at log None all = tt
ends_cut at log (Some ends) all = All-filter (λ (e : Entry). not (is_before at e.optime)) (IsByEnd ends) log all

-- ---- an entry that comes late

-- it touches another document than each that isn't before it
abbrev pub IsApartAfter : Entry → List Entry → Type 0
IsApartAfter entry log = All (λ (other : Entry). is_before other.optime entry.optime ≡ false → AreApart entry other) log

pub apart_none : (entry : Entry) (log : List Entry) → place_of entry.op ≡ None → IsApartAfter entry log
apart_none entry log none =
    in_all (λ (other : Entry). is_before other.optime entry.optime ≡ false → AreApart entry other) log (λ other there late p is_own is_other. absurd (cc (is_own, none)))

pub apart_of : (ends : Known) (place : Place) (entry : Entry) (log : List Entry) → place_of entry.op ≡ Some place → ends_before (get place_cmp ends place) entry.optime ≡ true
    → EndAll log (Some ends) → IsApartAfter entry log
apart_of ends place entry log own early all = in_all (λ (other : Entry). is_before other.optime entry.optime ≡ false → AreApart entry other) log (λ other there late p is_own is_other.
    let found = all_in (IsByEnd ends) log other all there p is_other in
    let same : p ≡ place = some_same p place (sym is_own ∙ own) in
    let before : is_before found.0 entry.optime ≡ true =
    sym (ap (λ (e : Option OpTime). ends_before e entry.optime) (ap (get place_cmp ends) (sym same) ∙ found.1)) ∙ early in
    absurd (cc (late, at_most_before_trans other.optime found.0 entry.optime found.2 before)))

-- so it is for all from the place that the entry gets
pub apart_from_place : (entry : Entry) (log : List Entry) (place : ℕ) → place ≡ length (filter (λ (e : Entry). is_before e.optime entry.optime) log) → IsOplog (with_entry log entry)
    → IsApartAfter entry log → All (AreApart entry) (drop place log)
apart_from_place entry log place is oplog apart =
    subst (λ (k : ℕ). All (AreApart entry) (drop k log)) (sym is) (late_after (AreApart entry) log entry oplog.order apart)
