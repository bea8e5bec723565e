-- How the place of a document leads to its holder, as writers come and go.
use Rattle.std.proofs.Common.{◌≡◌, ◌≢◌, inl, inr, ◌∙◌, ℕ, Bool, T, true, false, cond, ◌&&◌, List, [], ◌∷◌, Option, None, Some, IfSome, refl, sym, ap, subst}
use Rattle.std.specs.BTreeMap.{BTreeMap, get}
use Rattle.std.specs.Cmp.{nat_cmp_total, tied_itself}
use Rattle.std.specs.FinMap as maps
use Rattle.std.specs.FinMap.Entries.{below_all}
use Rattle.std.specs.Prelude.{is_some}
use Rattle.std.specs.Ordering.{is_eq, is_lt, nat_cmp}
use Rattle.std.specs.declared.cmp.Ordering.{Ordering}
use Rattle.std.specs.declared.cmp.Ordering.TheVariants.{Less, Equal, Greater}
use Rattle.bson_doc.specs.Place.{Place, place_cmp}
use Rattle.oplog_entry.specs.Step.{is_at}
use Rattle.oplog_entry.proofs.PlaceLemmas.{is_at-only, is_at-other, same_place}
use Rattle.set_model.specs.Changes.{all_lost}
use Rattle.set_model.specs.Holds.{holder_among, holds}
use Rattle.set_model.specs.declared.writer.Writer.{Writer}
use Rattle.set_model.specs.declared.writer.Writer.TheVariants.{Open, Done, Lost}
use Rattle.set_model.proofs.LostLemmas.{none_open}
use Rattle.node_data.specs.Kept.{is_held_by}
use Rattle.node_data.proofs.HolderLemmas.{nobody_holds}
use Rattle.node_data.proofs.MapLemmas.{get-with-other, get-with-same, get-without-other, get-without-same, same_or_apart}
use Rattle.checker_tables.specs.Holding.{Holders, LeadAlso, LeadsTo, LeadToAll, LeadToOthers}

abbrev Writers : Type 0
Writers = maps.FinMap nat_cmp Writer

abbrev Numbers : Type 0
Numbers = BTreeMap Place ℕ

-- ---- a place more, and one less

-- the others lead where they led
abbrev StayElsewhere : Place → Numbers → Numbers → Type 0
StayElsewhere place old new = (q : Place) → is_at (Some place) q ≡ false → get place_cmp new q ≡ get place_cmp old q

pub apart_at : (place q : Place) → place ≢ q → is_at (Some place) q ≡ false
apart_at place q apart = is_at-other (Some place) q (λ e. apart (some_same e))
  where
    some_same : Some place ≡ Some q → place ≡ q
    some_same e = cc

none_there : (found : Option ℕ) → is_some found ≡ false → found ≡ None
none_there None is = refl
none_there (Some number) is = cc is

pub led_more : (old new : Numbers) (place : Place) (number : ℕ) → is_some (get place_cmp old place) ≡ false → get place_cmp new place ≡ Some number
    → StayElsewhere place old new → LeadAlso (Some place) number (Some old) (Some new)
led_more old new place number free here stay = record { same = same; own = here }
  where
    same : (q : Place) (writer : ℕ) → get place_cmp old q ≡ Some writer → get place_cmp new q ≡ Some writer
    same q writer led = elim (same_place place q) [
      | inl one ↦
          let none : get place_cmp old q ≡ None = ap (get place_cmp old) (sym one) ∙ none_there (get place_cmp old place) free in
          absurd (cc (none, led))
      | inr apart ↦ stay q (apart_at place q apart) ∙ led
    ]

pub led_less : (old new : Numbers) (place : Place) (number : ℕ) (led : Option ℕ) → led ≡ get place_cmp old place → ((writer : ℕ) → led ≡ Some writer → writer ≡ number)
    → StayElsewhere place old new → LeadToOthers number (Some old) (Some new)
led_less old new place number led found own stay q other differs leads = elim (same_place place q) [
  | inl one ↦ absurd (differs (own other (found ∙ ap (get place_cmp old) one ∙ leads)))
  | inr apart ↦ stay q (apart_at place q apart) ∙ leads
]

-- ---- writers that come and go

pub led_none : (holders : Holders) → LeadToAll holders maps.empty
led_none holders number writer place there held = let none = maps.get-empty {X = Writer} nat_cmp number in absurd (cc (there, none))

pub led_with : (writers : Writers) (number : ℕ) (writer : Writer) (own : Option Place) (old left new : Holders)
    → ((place : Place) → is_at own place ≡ holds writer place) → LeadToAll old writers → LeadToOthers number old left → LeadAlso own number left new
    → LeadToAll new (maps.insert writers number writer)
led_with writers number writer own old left new is_own all others also n w place there held = elim (same_or_apart n number) [
  | inl same ↦
      let one : writer ≡ w =
      some_same (sym (get-with-same writers number writer) ∙ ap (maps.get (maps.insert writers number writer)) (sym same.0) ∙ there) in
      let at : own ≡ Some place = is_at-only own place (is_own place ∙ ap (λ (v : Writer). holds v place) one ∙ held) in
      subst (LeadsTo new place) (sym same.0) (subst (λ (o : Option Place). IfSome o (λ p. LeadsTo new p number)) at also.own)
  | inr differ ↦ also.same place n (others place n differ.0 (all n w place (sym (get-with-other writers number n writer differ.0) ∙ there) held))
]
  where
    some_same : Some writer ≡ Some w → writer ≡ w
    some_same e = cc

pub led_without : (writers : Writers) (number : ℕ) (old new : Holders) → LeadToAll old writers → LeadToOthers number old new → LeadToAll new (maps.remove writers number)
led_without writers number old new all others n w place there held = elim (same_or_apart n number) [
  | inl same ↦
      let none : maps.get (maps.remove writers number) n ≡ None = ap (maps.get (maps.remove writers number)) same.0 ∙ get-without-same writers number in
      absurd (cc (there, none))
  | inr differ ↦ others place n differ.0 (all n w place (sym (get-without-other writers number n differ.0) ∙ there) held)
]

pub led_lost : (holders : Holders) (es : List (ℕ × Writer)) → LeadToAll holders (maps.from_entries (all_lost es))
led_lost holders es number (Open at op) place there held = absurd (none_open es number at op there)
led_lost holders es number (Done at) place there held = absurd (cc held)
led_lost holders es number (Lost term) place there held = absurd (cc held)

-- ---- the first writer that holds a document

first_of : (a b : Bool) → T (a && b) → T a
first_of true b all = tt
first_of false b all = absurd all

second_of : (a b : Bool) → T (a && b) → T b
second_of true b all = all
second_of false b all = absurd all

-- no number below all others is there
absent : (number : ℕ) (es : List (ℕ × Writer)) → T (below_all nat_cmp number es) → maps.find nat_cmp number es ≡ None
absent number [] all = refl
absent number (e ∷ es) all = by_order (nat_cmp number e.0) refl (absent number es) all
  where
    by_order : (r : Ordering) → nat_cmp number e.0 ≡ r → (T (below_all nat_cmp number es) → maps.find nat_cmp number es ≡ None) → T (is_lt r && below_all nat_cmp number es)
        → cond (is_eq (nat_cmp number e.0)) (Some e.1) (maps.find nat_cmp number es) ≡ None
    by_order Less is again all = ap (λ r. cond (is_eq r) (Some e.1) (maps.find nat_cmp number es)) is ∙ again all
    by_order Equal is again all = absurd all
    by_order Greater is again all = absurd all

-- a writer of this number holds the document
abbrev HoldsAt : List (ℕ × Writer) → Place → ℕ → Type 0
HoldsAt es place number = (writer : Writer) × (maps.find nat_cmp number es ≡ Some writer) × (holds writer place ≡ true)

first_holds : (es : List (ℕ × Writer)) (place : Place) (number : ℕ) → T (maps.is_sorted nat_cmp es) → holder_among es place ≡ Some number → HoldsAt es place number
first_holds [] place number sorted is = cc is
first_holds (e ∷ es) place number sorted is = by_test (holds e.1 place) refl is (first_holds es place number (second_of _ _ sorted))
  where
    here : maps.find nat_cmp e.0 (e ∷ es) ≡ Some e.1
    here = ap (λ r. cond (is_eq r) (Some e.1) (maps.find nat_cmp e.0 es)) (tied_itself nat_cmp_total e.0)

    some_same : Some e.0 ≡ Some number → e.0 ≡ number
    some_same same = cc

    after : (writer : Writer) → maps.find nat_cmp number es ≡ Some writer → maps.find nat_cmp number (e ∷ es) ≡ Some writer
    after writer found = elim (same_or_apart number e.0) [
      | inl same ↦
          let none : maps.find nat_cmp number es ≡ None = ap (λ (n : ℕ). maps.find nat_cmp n es) same.0 ∙ absent e.0 es (first_of _ _ sorted) in
          absurd (cc (found, none))
      | inr differ ↦ ap (λ b. cond b (Some e.1) (maps.find nat_cmp number es)) differ.1 ∙ found
    ]

    by_test : (b : Bool) → holds e.1 place ≡ b → cond b (Some e.0) (holder_among es place) ≡ Some number
        → (holder_among es place ≡ Some number → HoldsAt es place number) → HoldsAt (e ∷ es) place number
    by_test true held found again = subst (HoldsAt (e ∷ es) place) (some_same found) (e.1, here, held)
    by_test false free found again = let there = again found in (there.0, after there.0 there.1, there.2)

-- where a place leads to a writer that holds it, that one is the first, and where to none that does, there is none
abbrev IsHeldBy : Writers → Place → ℕ → Type 0
IsHeldBy writers place number = (writer : Writer) × (maps.get writers number ≡ Some writer) × (holds writer place ≡ true)

in_map : (writers : Writers) (place : Place) (number : ℕ) → holder_among (maps.entries writers) place ≡ Some number → IsHeldBy writers place number
in_map writers place number is =
    let there = first_holds (maps.entries writers) place number (maps.entries_sorted writers) is in
    (there.0, maps.get-entries writers number ∙ there.1, there.2)

pub first_led : (numbers : Numbers) (writers : Writers) (place : Place) (number : ℕ) (writer : Writer) → LeadToAll (Some numbers) writers
    → get place_cmp numbers place ≡ Some number → maps.get writers number ≡ Some writer → holds writer place ≡ true
    → holder_among (maps.entries writers) place ≡ Some number
first_led numbers writers place number writer all led there held = by_found (holder_among (maps.entries writers) place) refl
  where
    same_number : (one two : ℕ) (found : Option ℕ) → found ≡ Some one → found ≡ Some two → one ≡ two
    same_number one two found a b = cc (a, b)

    by_found : (found : Option ℕ) → holder_among (maps.entries writers) place ≡ found → found ≡ Some number
    by_found None is =
        let free = nobody_holds writers place is number in
        let own = ap (λ (w : Option Writer). is_held_by w place) there ∙ held in
        absurd (cc (free, own))
    by_found (Some first) is =
        let has = in_map writers place first is in
        ap (λ (n : ℕ). Some n) (same_number first number (get place_cmp numbers place) (all first has.0 place has.1 has.2) led)

none_led : (numbers : Numbers) (writers : Writers) (place : Place) → LeadToAll (Some numbers) writers
    → ((number : ℕ) → get place_cmp numbers place ≡ Some number → IsHeldBy writers place number → ⊥) → holder_among (maps.entries writers) place ≡ None
none_led numbers writers place all none = by_found (holder_among (maps.entries writers) place) refl
  where
    by_found : (found : Option ℕ) → holder_among (maps.entries writers) place ≡ found → found ≡ None
    by_found None is = refl
    by_found (Some first) is =
        let has = in_map writers place first is in
        absurd (none first (all first has.0 place has.1 has.2) has)

-- where a place leads to no writer
pub led_to_none : (numbers : Numbers) (writers : Writers) (place : Place) → LeadToAll (Some numbers) writers → get place_cmp numbers place ≡ None
    → holder_among (maps.entries writers) place ≡ None
led_to_none numbers writers place all none = none_led numbers writers place all (λ number led has. cc (none, led))

-- and where to one that doesn't hold it
pub led_astray : (numbers : Numbers) (writers : Writers) (place : Place) (number : ℕ) → LeadToAll (Some numbers) writers
    → get place_cmp numbers place ≡ Some number → (IsHeldBy writers place number → ⊥) → holder_among (maps.entries writers) place ≡ None
led_astray numbers writers place number all led not_held =
    none_led numbers writers place all (λ other also has. not_held (subst (IsHeldBy writers place) (same other also) has))
  where
    same : (other : ℕ) → get place_cmp numbers place ≡ Some other → other ≡ number
    same other also = cc (also, led)
