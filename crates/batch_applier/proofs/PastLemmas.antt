-- The pasts of documents after entries.
use Rattle.std.proofs.Common.{◌≡◌, ◌≢◌, ◌∙◌, ap, sym, refl, arith, Bool, true, false, cond, List, [], ◌∷◌, ◌++◌, ℕ, zero, Option, Some, Result, Ok, Err, OnErr, append-nil}
use Rattle.std.specs.Prelude.{filter}
use Rattle.std.specs.List.{All}
use Rattle.std.proofs.lemmas.List.Sums.{fold-append}
use Rattle.std.proofs.lemmas.List.Elements.{filter-append, All-append, All-tail, All-cons, All-nil}
use Rattle.rs_optime.specs.declared.optime.OpTime.{OpTime}
use Rattle.bson_doc.specs.Tree.{Fields}
use Rattle.bson_doc.specs.Place.{Place}
use Rattle.oplog_entry.specs.declared.entry.Entry.{Entry}
use Rattle.oplog_entry.specs.Step.{place_of, document_after, is_at}
use Rattle.oplog_entry.proofs.PlaceLemmas.{is_at-itself, is_at-other}
use Rattle.version_store.specs.declared.history.Version.{Version}
use Rattle.version_store.specs.Past.{Past, is_before, latest_of, back_before, with_version}
use Rattle.batch_applier.specs.Applied.{touches, past_with, past_after}

-- what follows from a failure
pub after_err : {T E P Q : Type 0} (r : Result T E) → (P → Q) → OnErr r P → OnErr r Q
after_err (Ok x) f h = tt
after_err (Err e) f h = f h

-- ---- one entry

-- the version that an entry makes
abbrev pub version_by : Past → Entry → Version
version_by past entry = record { at = entry.optime; doc = document_after entry.op (latest_of past.versions) }

pub past_here : (entry : Entry) (place : Place) (past : Past) → place_of entry.op ≡ Some place → past_with place past entry ≡ with_version past (version_by past entry)
past_here entry place past own = ap (λ b. cond b (with_version past (version_by past entry)) past) (ap (λ o. is_at o place) own ∙ is_at-itself place)

pub past_elsewhere : (entry : Entry) (place : Place) (past : Past) → place_of entry.op ≢ Some place → past_with place past entry ≡ past
past_elsewhere entry place past apart = ap (λ b. cond b (with_version past (version_by past entry)) past) (is_at-other (place_of entry.op) place apart)

-- ---- entries after entries

pub past_more : (place : Place) (past : Past) (entries : List Entry) (entry : Entry) → past_after place past (entries ++ entry ∷ []) ≡ past_with place (past_after place past entries) entry
past_more place past entries entry = fold-append (past_with place) past entries (entry ∷ [])

-- the entries that a test keeps are all that touch the place
pub past_filtered : (keep : Entry → Bool) (place : Place) (past : Past) (entries : List Entry)
    → ((entry : Entry) → touches entry place ≡ true → keep entry ≡ true) → past_after place past (filter keep entries) ≡ past_after place past entries
past_filtered keep place past [] kept = refl
past_filtered keep place past (entry ∷ entries) kept = by_test (λ next. past_filtered keep place next entries kept) (keep entry) refl (touches entry place) refl
  where
    by_test : ((next : Past) → past_after place next (filter keep entries) ≡ past_after place next entries) → (k : Bool) → keep entry ≡ k → (t : Bool) → touches entry place ≡ t
        → past_after place past (cond (keep entry) (entry ∷ filter keep entries) (filter keep entries)) ≡ past_after place (past_with place past entry) entries
    by_test again true is t touched =
        ap (λ b. past_after place past (cond b (entry ∷ filter keep entries) (filter keep entries))) is ∙ again (past_with place past entry)
    by_test again false is true touched = let also : keep entry ≡ true = kept entry touched in cc
    by_test again false is false touched =
        ap (λ b. past_after place past (cond b (entry ∷ filter keep entries) (filter keep entries))) is ∙ again past
        ∙ ap (λ next. past_after place next entries) (sym (ap (λ b. cond b (with_version past (version_by past entry)) past) touched))

-- ---- optimes

-- one version more
with_all : (P : Version → Type 0) (place : Place) (past : Past) (entry : Entry) → All P past.versions → ((doc : Option Fields) → P (record { at = entry.optime; doc = doc })) → All P (past_with place past entry).versions
with_all P place past entry all here = elim (touches entry place) as (λ b. All P (cond b (with_version past (version_by past entry)) past).versions) [
  | true ↦ All-append P past.versions (version_by past entry ∷ []) all (All-cons P (version_by past entry) [] (here _) (All-nil P))
  | false ↦ all
]

-- what holds of the versions before, and of each that an entry makes, holds of the versions after the entries
pub after_all : (P : Version → Type 0) (place : Place) (entries : List Entry) (past : Past) → All P past.versions
    → All (λ entry. (doc : Option Fields) → P (record { at = entry.optime; doc = doc })) entries → All P (past_after place past entries).versions
after_all P place [] past all made = all
after_all P place (entry ∷ entries) past all made =
    after_all P place entries (past_with place past entry) (with_all P place past entry all (λ doc. made zero entry (omega arith) doc))
    (All-tail (λ (e : Entry). (doc : Option Fields) → P (record { at = e.optime; doc = doc })) entry entries made)

-- ---- going back

abbrev with_holder : List Version → Option ℕ → Past
with_holder vs holder = record { versions = vs; holder = holder }

-- versions that are all before an optime
kept_all : (at : OpTime) (versions : List Version) → All (λ version. is_before version.at at ≡ true) versions → filter (λ version. is_before version.at at) versions ≡ versions
kept_all at [] early = refl
kept_all at (version ∷ versions) early =
    let here : is_before version.at at ≡ true = early zero version (omega arith) in
    ap (λ b. cond b (version ∷ filter (λ (v : Version). is_before v.at at) versions) (filter (λ (v : Version). is_before v.at at) versions)) here
    ∙ ap (λ vs. version ∷ vs) (kept_all at versions (All-tail (λ (v : Version). is_before v.at at ≡ true) version versions early))

-- an entry's version is gone
back_one : (at : OpTime) (place : Place) (past : Past) (entry : Entry) → is_before entry.optime at ≡ false → back_before at (past_with place past entry) ≡ back_before at past
back_one at place past entry late = elim (touches entry place) as (λ b. back_before at (cond b (with_version past (version_by past entry)) past) ≡ back_before at past) [
  | true ↦
      ap (λ (vs : List Version). with_holder vs past.holder)
      (filter-append (λ (v : Version). is_before v.at at) past.versions (version_by past entry ∷ [])
      ∙ ap (λ b. filter (λ (v : Version). is_before v.at at) past.versions ++ cond b (version_by past entry ∷ []) []) late ∙ append-nil (filter (λ (v : Version). is_before v.at at) past.versions))
  | false ↦ refl
]

back_all : (at : OpTime) (place : Place) (entries : List Entry) (past : Past) → All (λ entry. is_before entry.optime at ≡ false) entries → back_before at (past_after place past entries) ≡ back_before at past
back_all at place [] past late = refl
back_all at place (entry ∷ entries) past late =
    back_all at place entries (past_with place past entry) (All-tail (λ (e : Entry). is_before e.optime at ≡ false) entry entries late)
    ∙ back_one at place past entry (late zero entry (omega arith))

-- back before the entries the past is as it was
pub past_back : (at : OpTime) (place : Place) (past : Past) (entries : List Entry) → All (λ version. is_before version.at at ≡ true) past.versions
    → All (λ entry. is_before entry.optime at ≡ false) entries → back_before at (past_after place past entries) ≡ past
past_back at place past entries early late =
    back_all at place entries past late ∙ ap (λ (vs : List Version). with_holder vs past.holder) (kept_all at past.versions early)
