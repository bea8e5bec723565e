-- Who holds a document, as writers come and go.
use Rattle.std.proofs.Common.{◌≡◌, ◌≢◌, inl, inr, ℕ, Bool, true, false, cond, ◌&&◌, List, [], ◌∷◌, Option, None, Some, MatchOption, refl, sym, ap, subst, ◌∙◌}
use Rattle.std.specs.Ordering.{is_eq, is_lt, nat_cmp}
use Rattle.std.specs.Cmp.{nat_cmp_total, tied_itself}
use Rattle.std.specs.declared.cmp.Ordering.{Ordering}
use Rattle.std.specs.declared.cmp.Ordering.TheVariants.{Less, Equal, Greater}
use Rattle.std.specs.FinMap.{find, get, get-entries, entries, entries_sorted, insert, is_sorted}
use Rattle.std.specs.FinMap.Entries.{below_all}
use Rattle.std.proofs.Common.{T}
use Rattle.bson_doc.specs.Place.{Place}
use Rattle.rs_optime.specs.declared.optime.OpTime.{OpTime}
use Rattle.oplog_entry.specs.declared.entry.Op.{Op}
use Rattle.oplog_entry.specs.Step.{place_of}
use Rattle.oplog_entry.proofs.PlaceLemmas.{is_at-here, is_at-only, is_at-other, same_place}
use Rattle.version_store.specs.Store.{Store, holder_at, Changes}
use Rattle.version_store.specs.Past.{Past}
use Rattle.set_model.specs.declared.writer.Writer.{Writer}
use Rattle.set_model.specs.declared.writer.Writer.TheVariants.{Open, Done, Lost}
use Rattle.set_model.specs.Holds.{holds, holder_among}
use Rattle.set_model.specs.Node.{Node}
use Rattle.node_data.specs.Writers.{HasOpen}
use Rattle.node_data.specs.Kept.{is_held_by, IsHolder, IsKept}
use Rattle.node_data.specs.Writers.{Writers}
use Rattle.node_data.proofs.MapLemmas.{same_or_apart, get-with-same, get-with-other}

-- ---- one writer

-- who holds a document is open, for an op that touches it
pub held_open : (writer : Option Writer) (place : Place) → is_held_by writer place ≡ true → (at : OpTime) × (op : Op) × (writer ≡ Some (Open at op)) × (place_of op ≡ Some place)
held_open None place held = cc held
held_open (Some (Open at op)) place held = (at, op, refl, is_at-only (place_of op) place held)
held_open (Some (Done at)) place held = cc held
held_open (Some (Lost term)) place held = cc held

pub open_held : (writer : Option Writer) (at : OpTime) (op : Op) (place : Place) → writer ≡ Some (Open at op) → place_of op ≡ Some place → is_held_by writer place ≡ true
open_held writer at op place opens own = ap (λ w. is_held_by w place) opens ∙ is_at-here (place_of op) place own

-- and it holds no other
pub open_other : (writer : Option Writer) (at : OpTime) (op : Op) (place other : Place) → writer ≡ Some (Open at op) → place_of op ≡ Some place → place ≢ other → is_held_by writer other ≡ false
open_other writer at op place other opens own apart =
    ap (λ w. is_held_by w other) opens ∙ is_at-other (place_of op) other (λ same. apart (some_same (sym own ∙ same)))
  where
    some_same : Some place ≡ Some other → place ≡ other
    some_same e = cc

-- ---- the writer that is found

absent_below : (number : ℕ) (es : List (ℕ × Writer)) → T (below_all nat_cmp number es) → find nat_cmp number es ≡ None
absent_below number [] below = refl
absent_below number (e ∷ es) below = by_order (nat_cmp number e.0) refl (λ h. absent_below number es h) below
  where
    by_order : (r : Ordering) → nat_cmp number e.0 ≡ r → (T (below_all nat_cmp number es) → find nat_cmp number es ≡ None) → T (is_lt r && below_all nat_cmp number es) → find nat_cmp number (e ∷ es) ≡ None
    by_order Less is again below = ap (λ r. cond (is_eq r) (Some e.1) (find nat_cmp number es)) is ∙ again below
    by_order Equal is again below = absurd below
    by_order Greater is again below = absurd below

second : (a b : Bool) → T (a && b) → T b
second true b both = both
second false b both = absurd both

first : (a b : Bool) → T (a && b) → T a
first true b both = tt
first false b both = absurd both

found_among : (es : List (ℕ × Writer)) (place : Place) → T (is_sorted nat_cmp es)
    → MatchOption (holder_among es place) ((writer : ℕ) → is_held_by (find nat_cmp writer es) place ≡ false) (λ writer. is_held_by (find nat_cmp writer es) place ≡ true)
found_among [] place sorted = λ writer. refl
found_among (e ∷ es) place sorted = by_test (found_among es place (second _ _ sorted)) (holds e.1 place) refl
  where
    here : find nat_cmp e.0 (e ∷ es) ≡ Some e.1
    here = ap (λ r. cond (is_eq r) (Some e.1) (find nat_cmp e.0 es)) (tied_itself nat_cmp_total e.0)

    rest : (writer : ℕ) → writer ≢ e.0 → find nat_cmp writer (e ∷ es) ≡ find nat_cmp writer es
    rest writer apart = elim (same_or_apart writer e.0) [
      | inl same ↦ absurd (apart same.0)
      | inr differ ↦ ap (λ b. cond b (Some e.1) (find nat_cmp writer es)) differ.1
    ]

    nobody : holds e.1 place ≡ false → ((writer : ℕ) → is_held_by (find nat_cmp writer es) place ≡ false) → (writer : ℕ) → is_held_by (find nat_cmp writer (e ∷ es)) place ≡ false
    nobody free others writer = elim (same_or_apart writer e.0) [
      | inl same ↦ ap (λ (w : ℕ). is_held_by (find nat_cmp w (e ∷ es)) place) same.0 ∙ ap (λ w. is_held_by w place) here ∙ free
      | inr differ ↦ ap (λ w. is_held_by w place) (rest writer differ.0) ∙ others writer
    ]

    somebody : (writer : ℕ) → is_held_by (find nat_cmp writer es) place ≡ true → is_held_by (find nat_cmp writer (e ∷ es)) place ≡ true
    somebody writer held = elim (same_or_apart writer e.0) [
      | inl same ↦
          let none : is_held_by (find nat_cmp writer es) place ≡ false =
          ap (λ (w : ℕ). is_held_by (find nat_cmp w es) place) same.0 ∙ ap (λ w. is_held_by w place) (absent_below e.0 es (first _ _ sorted)) in
          cc
      | inr differ ↦ ap (λ w. is_held_by w place) (rest writer differ.0) ∙ held
    ]

    by_found : holds e.1 place ≡ false → (found : Option ℕ)
        → MatchOption found ((writer : ℕ) → is_held_by (find nat_cmp writer es) place ≡ false) (λ writer. is_held_by (find nat_cmp writer es) place ≡ true)
        → MatchOption found ((writer : ℕ) → is_held_by (find nat_cmp writer (e ∷ es)) place ≡ false) (λ writer. is_held_by (find nat_cmp writer (e ∷ es)) place ≡ true)
    by_found free None others = nobody free others
    by_found free (Some writer) held = somebody writer held

    by_test : MatchOption (holder_among es place) ((writer : ℕ) → is_held_by (find nat_cmp writer es) place ≡ false) (λ writer. is_held_by (find nat_cmp writer es) place ≡ true)
        → (b : Bool) → holds e.1 place ≡ b
        → MatchOption (cond b (Some e.0) (holder_among es place)) ((writer : ℕ) → is_held_by (find nat_cmp writer (e ∷ es)) place ≡ false) (λ writer. is_held_by (find nat_cmp writer (e ∷ es)) place ≡ true)
    by_test again true held = ap (λ w. is_held_by w place) here ∙ held
    by_test again false free = by_found free (holder_among es place) again

holder_found : (writers : Writers) (place : Place) → IsHolder writers place (holder_among (entries writers) place)
holder_found writers place = by_found (holder_among (entries writers) place) (found_among (entries writers) place (entries_sorted writers))
  where
    by_found : (found : Option ℕ)
        → MatchOption found ((writer : ℕ) → is_held_by (find nat_cmp writer (entries writers)) place ≡ false) (λ writer. is_held_by (find nat_cmp writer (entries writers)) place ≡ true)
        → IsHolder writers place found
    by_found None others = λ writer. ap (λ w. is_held_by w place) (get-entries writers writer) ∙ others writer
    by_found (Some writer) held = ap (λ w. is_held_by w place) (get-entries writers writer) ∙ held

-- no two writers hold one document
abbrev pub AreAlone : Writers → Type 0
AreAlone writers = (one two : ℕ) (at by : OpTime) (op other : Op) → HasOpen writers one at op → HasOpen writers two by other → place_of op ≡ place_of other → one ≡ two

one_holder : (writers : Writers) → AreAlone writers → (place : Place) (one two : ℕ) → is_held_by (get writers one) place ≡ true → is_held_by (get writers two) place ≡ true → one ≡ two
one_holder writers alone place one two held too =
    let a = held_open (get writers one) place held in
    let b = held_open (get writers two) place too in
    alone one two a.0 b.0 a.1 b.1 a.2 b.2 (a.3 ∙ sym b.3)

same_holder : (writers : Writers) → AreAlone writers → (place : Place) (one two : Option ℕ) → IsHolder writers place one → IsHolder writers place two → one ≡ two
same_holder writers alone place None None a b = refl
same_holder writers alone place None (Some two) a b = let free = a two in cc
same_holder writers alone place (Some one) None a b = let free = b one in cc
same_holder writers alone place (Some one) (Some two) a b = ap (λ (w : ℕ). Some w) (one_holder writers alone place one two a b)

-- the store's holder of a document is the writer that holds it
pub holder_is : (node : Node) (store : Store) (place : Place) → IsKept node store → holder_at store place ≡ holder_among (entries node.writers) place
holder_is node store place kept =
    same_holder node.writers kept.writers.alone place _ _ (kept.holders place) (holder_found node.writers place)

-- where nobody is found, no writer holds the document
pub nobody_holds : (writers : Writers) (place : Place) → holder_among (entries writers) place ≡ None → (writer : ℕ) → is_held_by (get writers writer) place ≡ false
nobody_holds writers place none = subst (λ h. IsHolder writers place h) none (holder_found writers place)

-- ---- writers that come and go

-- a writer that was not open holds a document that nobody held
pub holders_opened : (writers : Writers) (store later : Store) (place : Place) (past : Past) (writer : ℕ) (at : OpTime) (op : Op)
    → ((p : Place) → IsHolder writers p (holder_at store p))
    → ((w : ℕ) → is_held_by (get writers w) place ≡ false)
    → ((p : Place) → is_held_by (get writers writer) p ≡ false)
    → place_of op ≡ Some place → past.holder ≡ Some writer → Changes store later place past
    → (p : Place) → IsHolder (insert writers writer (Open at op)) p (holder_at later p)
holders_opened writers store later place past writer at op holders free closed own held changes p =
    elim (same_place place p) [
      | inl same ↦
          subst (λ q. IsHolder (insert writers writer (Open at op)) q (holder_at later q)) same
          (subst (λ h. IsHolder (insert writers writer (Open at op)) place h) (sym (ap (λ (x : Past). x.holder) changes.here ∙ held))
          (open_held _ at op place (get-with-same writers writer (Open at op)) own))
      | inr apart ↦
          subst (λ h. IsHolder (insert writers writer (Open at op)) p h) (sym (ap (λ (x : Past). x.holder) (changes.others p (λ e. apart (sym e)))))
          (elsewhere apart (holder_at store p) (holders p))
    ]
  where
    elsewhere : place ≢ p → (h : Option ℕ) → IsHolder writers p h → IsHolder (insert writers writer (Open at op)) p h
    elsewhere apart None none = λ w. elim (same_or_apart w writer) [
      | inl same ↦
          ap (λ (v : ℕ). is_held_by (get (insert writers writer (Open at op)) v) p) same.0
          ∙ open_other _ at op place p (get-with-same writers writer (Open at op)) own apart
      | inr differ ↦ ap (λ v. is_held_by v p) (get-with-other writers writer w (Open at op) differ.0) ∙ none w
    ]
    elsewhere apart (Some w) there = elim (same_or_apart w writer) [
      | inl same ↦ let no : is_held_by (get writers w) p ≡ false = ap (λ (v : ℕ). is_held_by (get writers v) p) same.0 ∙ closed p in cc
      | inr differ ↦ ap (λ v. is_held_by v p) (get-with-other writers writer w (Open at op) differ.0) ∙ there
    ]

-- a writer closes, and lets its document go
pub holders_closed : (writers after : Writers) (store later : Store) (place : Place) (past : Past) (writer : ℕ) (at : OpTime) (op : Op)
    → AreAlone writers
    → ((p : Place) → IsHolder writers p (holder_at store p))
    → HasOpen writers writer at op → place_of op ≡ Some place
    → ((p : Place) → is_held_by (get after writer) p ≡ false)
    → ((w : ℕ) → w ≢ writer → get after w ≡ get writers w)
    → past.holder ≡ None → Changes store later place past
    → (p : Place) → IsHolder after p (holder_at later p)
holders_closed writers after store later place past writer at op alone holders opens own closed stay free changes p =
    elim (same_place place p) [
      | inl same ↦
          subst (λ q. IsHolder after q (holder_at later q)) same
          (subst (λ h. IsHolder after place h) (sym (ap (λ (x : Past). x.holder) changes.here ∙ free)) nobody)
      | inr apart ↦
          subst (λ h. IsHolder after p h) (sym (ap (λ (x : Past). x.holder) (changes.others p (λ e. apart (sym e)))))
          (elsewhere apart (holder_at store p) (holders p))
    ]
  where
    not_other : (w : ℕ) → w ≢ writer → (b : Bool) → is_held_by (get writers w) place ≡ b → is_held_by (get writers w) place ≡ false
    not_other w apart true held = absurd (apart (one_holder writers alone place w writer held (open_held _ at op place opens own)))
    not_other w apart false is = is

    nobody : (w : ℕ) → is_held_by (get after w) place ≡ false
    nobody w = elim (same_or_apart w writer) [
      | inl same ↦ ap (λ (v : ℕ). is_held_by (get after v) place) same.0 ∙ closed place
      | inr differ ↦ ap (λ v. is_held_by v place) (stay w differ.0) ∙ not_other w differ.0 (is_held_by (get writers w) place) refl
    ]

    elsewhere : place ≢ p → (h : Option ℕ) → IsHolder writers p h → IsHolder after p h
    elsewhere apart None none = λ w. elim (same_or_apart w writer) [
      | inl same ↦ ap (λ (v : ℕ). is_held_by (get after v) p) same.0 ∙ closed p
      | inr differ ↦ ap (λ v. is_held_by v p) (stay w differ.0) ∙ none w
    ]
    elsewhere apart (Some w) there = elim (same_or_apart w writer) [
      | inl same ↦ let no : is_held_by (get writers w) p ≡ false = ap (λ (v : ℕ). is_held_by (get writers v) p) same.0 ∙ open_other _ at op place p opens own apart in cc
      | inr differ ↦ ap (λ v. is_held_by v p) (stay w differ.0) ∙ there
    ]
