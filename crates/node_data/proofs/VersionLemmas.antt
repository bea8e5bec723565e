-- The versions that a log makes of a document.
use Rattle.std.proofs.Common.{◌≡◌, ◌≢◌, inl, inr, ◌≤◌, ℕ, suc, zero, Bool, true, false, cond, not, List, [], ◌∷◌, ◌++◌, Option, None, Some, refl, sym, ap, ◌∙◌, arith, fold}
use Rattle.std.specs.Prelude.{nat_lt, slice_index_or}
use Rattle.std.specs.List.{All, AllPairs}
use Rattle.std.specs.FinMap.{get, get-empty, empty}
use Rattle.std.proofs.lemmas.List.Elements.{All-tail}
use Rattle.bson_doc.specs.Tree.{Fields}
use Rattle.bson_doc.specs.Place.{Place, place_cmp}
use Rattle.rs_optime.specs.declared.optime.OpTime.{OpTime}
use Rattle.rs_optime.proofs.Optimes.{before_both, before_parts, earlier_term}
use Rattle.oplog_entry.specs.Docs.{Documents, docs, applied}
use Rattle.oplog_entry.specs.Step.{place_of, document_after, is_at}
use Rattle.oplog_entry.specs.Visible.{is_before, log_up_to}
use Rattle.oplog_entry.specs.declared.entry.Entry.{Entry}
use Rattle.oplog_entry.proofs.PlaceLemmas.{is_at-here, is_at-other}
use Rattle.oplog_store.specs.Log.{StandsBefore, with_entry}
use Rattle.oplog_store.proofs.Keeps.{pairs_head, pairs_tail}
use Rattle.version_store.specs.declared.history.Version.{Version}
use Rattle.version_store.specs.Past.{latest_of, up_to}
use Rattle.set_model.proofs.HoldLemmas.{get-step}
use Rattle.node_data.specs.Versions.{versions_from, versions_of}
use Rattle.node_data.specs.Kept.{IsNewest}

-- ---- the latest version

-- what stands after some versions
abbrev pub newest_of : Option Fields → List Version → Option Fields
newest_of before [] = before
newest_of before (version ∷ versions) = newest_of version.doc versions

pub newest_of-latest : (versions : List Version) → newest_of None versions ≡ latest_of versions
newest_of-latest [] = refl
newest_of-latest (version ∷ []) = refl
newest_of-latest (version ∷ next ∷ versions) = newest_of-latest (next ∷ versions)

pub newest-from : (log : List Entry) (documents : Documents) (place : Place) (before : Option Fields) → before ≡ get documents place
    → newest_of before (versions_from place before log) ≡ get (fold applied documents log) place
newest-from [] documents place before is = is
newest-from (entry ∷ log) documents place before is =
    by_test (is_at (place_of entry.op) place) refl (λ next same. newest-from log (applied documents entry) place next same)
  where
    by_test : (b : Bool) → is_at (place_of entry.op) place ≡ b
        → ((next : Option Fields) → next ≡ get (applied documents entry) place → newest_of next (versions_from place next log) ≡ get (fold applied (applied documents entry) log) place)
        → newest_of before (cond (is_at (place_of entry.op) place) (record { at = entry.optime; doc = document_after entry.op before } ∷ versions_from place (document_after entry.op before) log) (versions_from place before log))
        ≡ get (fold applied (applied documents entry) log) place
    by_test true here again =
        ap (λ b. newest_of before (cond b (record { at = entry.optime; doc = document_after entry.op before } ∷ versions_from place (document_after entry.op before) log) (versions_from place before log))) here
        ∙ again (document_after entry.op before)
        (ap (document_after entry.op) is ∙ sym (get-step documents entry place ∙ ap (λ b. cond b (document_after entry.op (get documents place)) (get documents place)) here))
    by_test false other again =
        ap (λ b. newest_of before (cond b (record { at = entry.optime; doc = document_after entry.op before } ∷ versions_from place (document_after entry.op before) log) (versions_from place before log))) other
        ∙ again before (is ∙ sym (get-step documents entry place ∙ ap (λ b. cond b (document_after entry.op (get documents place)) (get documents place)) other))

newest-docs : (log : List Entry) (place : Place) → newest_of None (versions_of place log) ≡ get (docs log) place
newest-docs log place = newest-from log empty place None (sym (get-empty place_cmp place))

-- the latest version is the document that the log leaves
pub latest_of-versions_of : (log : List Entry) (place : Place) → latest_of (versions_of place log) ≡ get (docs log) place
latest_of-versions_of log place = sym (newest_of-latest (versions_of place log)) ∙ newest-docs log place

-- ---- the versions up to an optime

pub all_late : (at : OpTime) (entry : Entry) (log : List Entry) → is_before at entry.optime ≡ true → All (StandsBefore entry) log → All (λ other. is_before at other.optime ≡ true) log
all_late at entry log late before k d within =
    let stands : StandsBefore entry (slice_index_or log k d) = before k d within in
    elim (before_parts at entry.optime late) [
      | inl less ↦ earlier_term at (slice_index_or log k d).optime (omega (arith, stands.term))
      | inr same ↦ before_both at (slice_index_or log k d).optime (omega (arith, same.0, stands.term)) (omega (arith, same.1, stands.earlier))
    ]

pub none_up_to : (at : OpTime) (log : List Entry) → All (λ other. is_before at other.optime ≡ true) log → log_up_to at log ≡ []
none_up_to at [] late = refl
none_up_to at (entry ∷ log) late =
    let here : is_before at entry.optime ≡ true = late zero entry (omega arith) in
    rw here (none_up_to at log (All-tail (λ (other : Entry). is_before at other.optime ≡ true) entry log late))

no_version_up_to : (at : OpTime) (place : Place) (before : Option Fields) (log : List Entry) → All (λ other. is_before at other.optime ≡ true) log → up_to at (versions_from place before log) ≡ []
no_version_up_to at place before [] late = refl
no_version_up_to at place before (entry ∷ log) late =
    elim (is_at (place_of entry.op) place) as (λ b. up_to at (cond b (record { at = entry.optime; doc = document_after entry.op before } ∷ versions_from place (document_after entry.op before) log) (versions_from place before log)) ≡ []) [
      | true ↦
          let here : is_before at entry.optime ≡ true = late zero entry (omega arith) in
          ap (λ b. cond (not b) (record { at = entry.optime; doc = document_after entry.op before } ∷ up_to at (versions_from place (document_after entry.op before) log)) (up_to at (versions_from place (document_after entry.op before) log))) here
          ∙ no_version_up_to at place (document_after entry.op before) log (All-tail (λ (other : Entry). is_before at other.optime ≡ true) entry log late)
      | false ↦ no_version_up_to at place before log (All-tail (λ (other : Entry). is_before at other.optime ≡ true) entry log late)
    ]

pub up_to-from : (at : OpTime) (place : Place) (before : Option Fields) (log : List Entry) → AllPairs StandsBefore log → up_to at (versions_from place before log) ≡ versions_from place before (log_up_to at log)
up_to-from at place before [] order = refl
up_to-from at place before (entry ∷ log) order =
    by_test (is_before at entry.optime) refl (λ next. up_to-from at place next log (pairs_tail StandsBefore entry log order))
  where
    by_test : (late : Bool) → is_before at entry.optime ≡ late
        → ((next : Option Fields) → up_to at (versions_from place next log) ≡ versions_from place next (log_up_to at log))
        → up_to at (versions_from place before (entry ∷ log)) ≡ versions_from place before (log_up_to at (entry ∷ log))
    by_test true late again =
        let all : All (λ other. is_before at other.optime ≡ true) (entry ∷ log) = every in
        no_version_up_to at place before (entry ∷ log) all ∙ ap (versions_from place before) (sym (none_up_to at (entry ∷ log) all))
      where
        every : All (λ other. is_before at other.optime ≡ true) (entry ∷ log)
        every zero d within = late
        every (suc k) d within = all_late at entry log late (pairs_head StandsBefore entry log order) k d (omega arith)
    by_test false early again =
        elim (is_at (place_of entry.op) place) as (λ b.
        up_to at (cond b (record { at = entry.optime; doc = document_after entry.op before } ∷ versions_from place (document_after entry.op before) log) (versions_from place before log))
        ≡ cond b (record { at = entry.optime; doc = document_after entry.op before } ∷ versions_from place (document_after entry.op before) (log_up_to at log)) (versions_from place before (log_up_to at log))) [
          | true ↦
              ap (λ b. cond (not b) (record { at = entry.optime; doc = document_after entry.op before } ∷ up_to at (versions_from place (document_after entry.op before) log)) (up_to at (versions_from place (document_after entry.op before) log))) early
              ∙ ap (λ (rest : List Version). record { at = entry.optime; doc = document_after entry.op before } ∷ rest) (again (document_after entry.op before))
          | false ↦ again before
        ]
        ∙ ap (λ b. versions_from place before (cond (not b) (entry ∷ log_up_to at log) (log_up_to at log))) (sym early)

-- ---- one entry more

-- an entry of another document makes no version
pub with_other-from : (place : Place) (entry : Entry) (log : List Entry) (before : Option Fields) → is_at (place_of entry.op) place ≡ false → versions_from place before (with_entry log entry) ≡ versions_from place before log
with_other-from place entry [] before other = ap (λ b. cond b (record { at = entry.optime; doc = document_after entry.op before } ∷ []) []) other
with_other-from place entry (first ∷ log) before other =
    by_test (nat_lt first.optime.ts entry.optime.ts) (λ next. with_other-from place entry log next other)
  where
    by_test : (b : Bool) → ((next : Option Fields) → versions_from place next (with_entry log entry) ≡ versions_from place next log)
        → versions_from place before (cond b (first ∷ with_entry log entry) (entry ∷ first ∷ log)) ≡ versions_from place before (first ∷ log)
    by_test true again =
        elim (is_at (place_of first.op) place) as (λ b.
        cond b (record { at = first.optime; doc = document_after first.op before } ∷ versions_from place (document_after first.op before) (with_entry log entry)) (versions_from place before (with_entry log entry))
        ≡ cond b (record { at = first.optime; doc = document_after first.op before } ∷ versions_from place (document_after first.op before) log) (versions_from place before log)) [
          | true ↦ ap (λ (rest : List Version). record { at = first.optime; doc = document_after first.op before } ∷ rest) (again (document_after first.op before))
          | false ↦ again before
        ]
    by_test false again =
        ap (λ b. cond b (record { at = entry.optime; doc = document_after entry.op before } ∷ versions_from place (document_after entry.op before) (first ∷ log)) (versions_from place before (first ∷ log))) other

-- entries of other documents make none
none_from : (place : Place) (before : Option Fields) (log : List Entry) → All (λ other. is_at (place_of other.op) place ≡ false) log → versions_from place before log ≡ []
none_from place before [] quiet = refl
none_from place before (entry ∷ log) quiet =
    ap (λ b. cond b (record { at = entry.optime; doc = document_after entry.op before } ∷ versions_from place (document_after entry.op before) log) (versions_from place before log)) (quiet zero entry (omega arith))
    ∙ none_from place before log (All-tail (λ (other : Entry). is_at (place_of other.op) place ≡ false) entry log quiet)

-- no entry that is no earlier than this one touches the place
abbrev pub IsQuiet : Place → ℕ → List Entry → Type 0
IsQuiet place ts log = All (λ other. ts ≤ other.optime.ts → is_at (place_of other.op) place ≡ false) log

pub with_here-from : (place : Place) (entry : Entry) (log : List Entry) (before : Option Fields) → is_at (place_of entry.op) place ≡ true → AllPairs StandsBefore log → IsQuiet place entry.optime.ts log
    → versions_from place before (with_entry log entry)
    ≡ versions_from place before log ++ record { at = entry.optime; doc = document_after entry.op (newest_of before (versions_from place before log)) } ∷ []
with_here-from place entry [] before here order quiet = ap (λ b. cond b (record { at = entry.optime; doc = document_after entry.op before } ∷ []) []) here
with_here-from place entry (first ∷ log) before here order quiet =
    by_test (nat_lt first.optime.ts entry.optime.ts) refl
    (λ next. with_here-from place entry log next here (pairs_tail StandsBefore first log order) (All-tail (λ (other : Entry). entry.optime.ts ≤ other.optime.ts → is_at (place_of other.op) place ≡ false) first log quiet))
  where
    by_test : (b : Bool) → nat_lt first.optime.ts entry.optime.ts ≡ b
        → ((next : Option Fields) → versions_from place next (with_entry log entry) ≡ versions_from place next log ++ record { at = entry.optime; doc = document_after entry.op (newest_of next (versions_from place next log)) } ∷ [])
        → versions_from place before (cond b (first ∷ with_entry log entry) (entry ∷ first ∷ log))
        ≡ versions_from place before (first ∷ log) ++ record { at = entry.optime; doc = document_after entry.op (newest_of before (versions_from place before (first ∷ log))) } ∷ []
    by_test true earlier again =
        elim (is_at (place_of first.op) place) as (λ b.
        cond b (record { at = first.optime; doc = document_after first.op before } ∷ versions_from place (document_after first.op before) (with_entry log entry)) (versions_from place before (with_entry log entry))
        ≡ cond b (record { at = first.optime; doc = document_after first.op before } ∷ versions_from place (document_after first.op before) log) (versions_from place before log)
        ++ record { at = entry.optime; doc = document_after entry.op (newest_of before (cond b (record { at = first.optime; doc = document_after first.op before } ∷ versions_from place (document_after first.op before) log) (versions_from place before log))) } ∷ []) [
          | true ↦ ap (λ (rest : List Version). record { at = first.optime; doc = document_after first.op before } ∷ rest) (again (document_after first.op before))
          | false ↦ again before
        ]
    by_test false late again =
        let none : versions_from place before (first ∷ log) ≡ [] = none_from place before (first ∷ log) every in
        let after : versions_from place (document_after entry.op before) (first ∷ log) ≡ [] = none_from place (document_after entry.op before) (first ∷ log) every in
        ap (λ b. cond b (record { at = entry.optime; doc = document_after entry.op before } ∷ versions_from place (document_after entry.op before) (first ∷ log)) (versions_from place before (first ∷ log))) here
        ∙ ap (λ (rest : List Version). record { at = entry.optime; doc = document_after entry.op before } ∷ rest) after
        ∙ sym (ap (λ (rest : List Version). rest ++ record { at = entry.optime; doc = document_after entry.op (newest_of before rest) } ∷ []) none)
      where
        not_earlier : (a b : ℕ) → nat_lt a b ≡ false → b ≤ a
        not_earlier a b test = grind arith

        every : All (λ other. is_at (place_of other.op) place ≡ false) (first ∷ log)
        every zero d within = quiet zero first (omega arith) (not_earlier first.optime.ts entry.optime.ts late)
        every (suc k) d within =
            let stands : StandsBefore first (slice_index_or log k d) = pairs_head StandsBefore first log order k d (omega arith) in
            let from : entry.optime.ts ≤ first.optime.ts = not_earlier first.optime.ts entry.optime.ts late in
            quiet (suc k) d within (omega (arith, stands.earlier))

-- the newest entry of a document is the only one from its time on
pub quiet_of_newest : (log : List Entry) (entry : Entry) (place : Place) → IsNewest log entry → place_of entry.op ≡ Some place → IsQuiet place entry.optime.ts log
quiet_of_newest log entry place newest own k d within from =
    elim (newest.fits k d within) [
      | inl before ↦ absurd (omega (arith, before.earlier))
      | inr after ↦ is_at-other _ place (λ same. newest.last k d within after.earlier (same ∙ sym own))
    ]

-- the versions with an entry: one more of its document
pub versions_of-with : (log : List Entry) (entry : Entry) (place : Place) → AllPairs StandsBefore log → IsNewest log entry → place_of entry.op ≡ Some place
    → versions_of place (with_entry log entry) ≡ versions_of place log ++ record { at = entry.optime; doc = document_after entry.op (get (docs log) place) } ∷ []
versions_of-with log entry place order newest own =
    with_here-from place entry log None (is_at-here _ place own) order (quiet_of_newest log entry place newest own)
    ∙ ap (λ before. versions_of place log ++ record { at = entry.optime; doc = document_after entry.op before } ∷ []) (newest-docs log place)

-- and the same of any other
pub versions_of-with-other : (log : List Entry) (entry : Entry) (place : Place) → place_of entry.op ≢ Some place → versions_of place (with_entry log entry) ≡ versions_of place log
versions_of-with-other log entry place apart = with_other-from place entry log None (is_at-other _ place apart)

-- ---- what holds of each version

pub all_versions : (P : OpTime → Type 0) (place : Place) (before : Option Fields) (log : List Entry) → All (λ entry. is_at (place_of entry.op) place ≡ true → P entry.optime) log → All (λ version. P version.at) (versions_from place before log)
all_versions P place before [] each = λ k d within. absurd (omega arith)
all_versions P place before (entry ∷ log) each =
    by_test (is_at (place_of entry.op) place) refl (λ next. all_versions P place next log (All-tail (λ (e : Entry). is_at (place_of e.op) place ≡ true → P e.optime) entry log each))
  where
    by_test : (b : Bool) → is_at (place_of entry.op) place ≡ b → ((next : Option Fields) → All (λ version. P version.at) (versions_from place next log))
        → All (λ version. P version.at) (cond b (record { at = entry.optime; doc = document_after entry.op before } ∷ versions_from place (document_after entry.op before) log) (versions_from place before log))
    by_test true here again zero d within = each zero entry (omega arith) here
    by_test true here again (suc k) d within = again (document_after entry.op before) k d (omega arith)
    by_test false here again k d within = again before k d within
