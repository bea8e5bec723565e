-- The versions that a store has of a document, as the log and the other disk's optime advance.
use Rattle.std.proofs.Common.{◌≡◌, ◌≢◌, ◌≤◌, inl, inr, ◌∙◌, ap, sym, refl, subst, arith, Bool, true, false, cond, not, ℕ, zero, List, [], ◌∷◌, ◌++◌, Option, None, Some, append_assoc, option_and_then, is_some}
use Rattle.std.specs.Prelude.{slice_index_or, nat_lt}
use Rattle.std.specs.List.{All, AllPairs}
use Rattle.std.proofs.lemmas.List.Elements.{filter-append, All-filter, All-append, All-tail}
use Rattle.std.proofs.lemmas.List.Kept.{AllPairs-filter}
use Rattle.std.proofs.lemmas.List.Sums.{fold-append}
use Rattle.std.specs.FinMap.{get, empty}
use Rattle.bson_doc.specs.Place.{Place}
use Rattle.bson_doc.specs.Tree.{Fields}
use Rattle.rs_optime.specs.declared.optime.OpTime.{OpTime}
use Rattle.rs_optime.proofs.Optimes.{at_most_before_trans, at_most_trans, before_trans, before_both}
use Rattle.oplog_entry.specs.Docs.{docs, applied}
use Rattle.oplog_entry.specs.Log.{StandsBefore, with_entry}
use Rattle.oplog_entry.specs.Step.{place_of, document_after, is_at}
use Rattle.oplog_entry.specs.Visible.{is_before, log_up_to}
use Rattle.oplog_entry.specs.declared.entry.Entry.{Entry}
use Rattle.oplog_entry.proofs.PlaceLemmas.{is_at-here, is_at-only, is_at-other}
use Rattle.oplog_store.proofs.Keeps.{pairs_tail}
use Rattle.repl_msg.specs.Logs.{log_after}
use Rattle.version_store.specs.declared.history.Version.{Version}
use Rattle.version_store.specs.Past.{latest_of, last_version, up_to, later_than, shown, standing}
use Rattle.node_data.specs.Kept.{IsNewest, FitsBeside}
use Rattle.node_data.specs.Versions.{versions_from, HasVersions}
use Rattle.node_data.proofs.LogLemmas.{every_late, parts, up_to-up_to, up_to-late, after-late, filter-swap, filter-within, filter-all, filter-none, filter-passes}
use Rattle.node_data.proofs.VersionLemmas.{none_up_to, newest_of, newest_of-latest, newest-from, up_to-from, with_here-from, with_other-from, all_versions, quiet_of_newest}

-- ---- the newest of versions

newest_of-append : (before : Option Fields) (one two : List Version) → newest_of before (one ++ two) ≡ newest_of (newest_of before one) two
newest_of-append before [] two = refl
newest_of-append before (version ∷ one) two = newest_of-append version.doc one two

pub latest-append : (base more : List Version) → latest_of (base ++ more) ≡ newest_of (latest_of base) more
latest-append base more =
    sym (newest_of-latest (base ++ more)) ∙ newest_of-append None base more ∙ ap (λ before. newest_of before more) (newest_of-latest base)

versions_from-append : (place : Place) (before : Option Fields) (one two : List Entry)
    → versions_from place before (one ++ two) ≡ versions_from place before one ++ versions_from place (newest_of before (versions_from place before one)) two
versions_from-append place before [] two = refl
versions_from-append place before (entry ∷ one) two =
    elim (is_at (place_of entry.op) place) as (λ b.
    cond b (record { at = entry.optime; doc = document_after entry.op before } ∷ versions_from place (document_after entry.op before) (one ++ two)) (versions_from place before (one ++ two))
    ≡ cond b (record { at = entry.optime; doc = document_after entry.op before } ∷ versions_from place (document_after entry.op before) one) (versions_from place before one)
    ++ versions_from place (newest_of before (cond b (record { at = entry.optime; doc = document_after entry.op before } ∷ versions_from place (document_after entry.op before) one) (versions_from place before one))) two) [
      | true ↦ ap (λ (rest : List Version). record { at = entry.optime; doc = document_after entry.op before } ∷ rest) (versions_from-append place (document_after entry.op before) one two)
      | false ↦ versions_from-append place before one two
    ]

-- ---- what they show

-- the newest is what the whole log leaves
newest_after : (stable : OpTime) (log : List Entry) (place : Place) → AllPairs StandsBefore log
    → newest_of (get (docs (log_up_to stable log)) place) (versions_from place (get (docs (log_up_to stable log)) place) (log_after stable log)) ≡ get (docs log) place
newest_after stable log place order =
    newest-from (log_after stable log) (docs (log_up_to stable log)) place (get (docs (log_up_to stable log)) place) refl
    ∙ ap (λ d. get d place) (sym (fold-append applied empty (log_up_to stable log) (log_after stable log)))
    ∙ ap (λ l. get (docs l) place) (sym (parts stable log order))

pub latest_has : (place : Place) (stable : OpTime) (log : List Entry) (versions : List Version) → AllPairs StandsBefore log → HasVersions place stable log versions
    → latest_of versions ≡ get (docs log) place
latest_has place stable log versions order has =
    ap latest_of has.is
    ∙ latest-append has.base (versions_from place (get (docs (log_up_to stable log)) place) (log_after stable log))
    ∙ ap (λ before. newest_of before (versions_from place (get (docs (log_up_to stable log)) place) (log_after stable log))) has.shows
    ∙ newest_after stable log place order

-- ---- up to an optime

early_up_to : (stable at : OpTime) (base : List Version) → is_before at stable ≡ false → All (λ (v : Version). is_before stable v.at ≡ false) base → up_to at base ≡ base
early_up_to stable at base later early =
    filter-all (λ (v : Version). not (is_before at v.at)) base (λ k d within. ap not (at_most_trans (slice_index_or base k d).at stable at (early k d within) later))

pub has_up_to : (place : Place) (stable at : OpTime) (log : List Entry) (versions : List Version) → AllPairs StandsBefore log → is_before at stable ≡ false
    → HasVersions place stable log versions → HasVersions place stable (log_up_to at log) (up_to at versions)
has_up_to place stable at log versions order later has =
    let front : log_up_to stable (log_up_to at log) ≡ log_up_to stable log = up_to-up_to stable at log later in
    let back : log_after stable (log_up_to at log) ≡ log_up_to at (log_after stable log) = filter-swap (λ (e : Entry). is_before stable e.optime) (λ (e : Entry). not (is_before at e.optime)) log in
    record {
      base = has.base;
      is = ap (up_to at) has.is
          ∙ filter-append (λ (v : Version). not (is_before at v.at)) has.base (versions_from place (get (docs (log_up_to stable log)) place) (log_after stable log))
          ∙ ap (λ vs. vs ++ up_to at (versions_from place (get (docs (log_up_to stable log)) place) (log_after stable log))) (early_up_to stable at has.base later has.early)
          ∙ ap (λ vs. has.base ++ vs) (up_to-from at place (get (docs (log_up_to stable log)) place) (log_after stable log) (AllPairs-filter StandsBefore (λ (e : Entry). is_before stable e.optime) log order)
          ∙ ap (λ l. versions_from place (get (docs (log_up_to stable log)) place) l) (sym back)
          ∙ ap (λ l. versions_from place (get (docs l) place) (log_after stable (log_up_to at log))) (sym front));
      early = has.early;
      shows = has.shows ∙ ap (λ l. get (docs l) place) (sym front);
    }

pub shown_has : (place : Place) (stable at : OpTime) (log : List Entry) (versions : List Version) → AllPairs StandsBefore log → is_before at stable ≡ false
    → HasVersions place stable log versions → shown at versions ≡ get (docs (log_up_to at log)) place
shown_has place stable at log versions order later has =
    latest_has place stable (log_up_to at log) (up_to at versions) (AllPairs-filter StandsBefore (λ (e : Entry). not (is_before at e.optime)) log order)
    (has_up_to place stable at log versions order later has)

-- ---- later entries

pub has_more : (place : Place) (stable : OpTime) (log more : List Entry) (versions : List Version) → AllPairs StandsBefore log → All (λ (e : Entry). is_before stable e.optime ≡ true) more
    → HasVersions place stable log versions → HasVersions place stable (log ++ more) (versions ++ versions_from place (get (docs log) place) more)
has_more place stable log more versions order late has =
    let front : log_up_to stable (log ++ more) ≡ log_up_to stable log = up_to-late stable log more late in
    let back : log_after stable (log ++ more) ≡ log_after stable log ++ more = after-late stable log more late in
    let before : Option Fields = get (docs (log_up_to stable log)) place in
    record {
      base = has.base;
      is = ap (λ vs. vs ++ versions_from place (get (docs log) place) more) has.is
          ∙ append_assoc has.base (versions_from place (get (docs (log_up_to stable log)) place) (log_after stable log)) (versions_from place (get (docs log) place) more)
          ∙ ap (λ vs. has.base ++ vs) (ap (λ d. versions_from place (get (docs (log_up_to stable log)) place) (log_after stable log) ++ versions_from place d more) (sym (newest_after stable log place order))
          ∙ sym (versions_from-append place (get (docs (log_up_to stable log)) place) (log_after stable log) more)
          ∙ ap (λ l. versions_from place (get (docs (log_up_to stable log)) place) l) (sym back)
          ∙ ap (λ l. versions_from place (get (docs l) place) (log_after stable (log ++ more))) (sym front));
      early = has.early;
      shows = has.shows ∙ ap (λ l. get (docs l) place) (sym front);
    }

-- ---- one entry more

-- an entry that is late leaves what comes up to there
up_to-with : (stable : OpTime) (log : List Entry) (entry : Entry) → is_before stable entry.optime ≡ true → log_up_to stable (with_entry log entry) ≡ log_up_to stable log
up_to-with stable [] entry late = rw late refl
up_to-with stable (first ∷ log) entry late =
    elim (nat_lt first.optime.ts entry.optime.ts) as (λ b. log_up_to stable (cond b (first ∷ with_entry log entry) (entry ∷ first ∷ log)) ≡ log_up_to stable (first ∷ log)) [
      | true ↦ ap (λ rest. cond (not (is_before stable first.optime)) (first ∷ rest) rest) (up_to-with stable log entry late)
      | false ↦ rw late refl
    ]

-- and stands among what comes after
after-with : (stable : OpTime) (log : List Entry) (entry : Entry) → is_before stable entry.optime ≡ true → All (FitsBeside entry) log → log_after stable (with_entry log entry) ≡ with_entry (log_after stable log) entry
after-with stable [] entry late fits = rw late refl
after-with stable (first ∷ log) entry late fits = by_test (is_before stable first.optime) refl (nat_lt first.optime.ts entry.optime.ts) refl (after-with stable log entry late (All-tail (FitsBeside entry) first log fits))
  where
    not_earlier : (a b : ℕ) → nat_lt a b ≡ false → b ≤ a
    not_earlier a b test = grind arith

    by_test : (b : Bool) → is_before stable first.optime ≡ b → (c : Bool) → nat_lt first.optime.ts entry.optime.ts ≡ c → log_after stable (with_entry log entry) ≡ with_entry (log_after stable log) entry
        → log_after stable (with_entry (first ∷ log) entry) ≡ with_entry (log_after stable (first ∷ log)) entry
    by_test true is true less again = rw (less, is, less) (ap (λ rest. first ∷ rest) again)
    by_test true is false less again = rw (less, late, is, less) refl
    by_test false is true less again = rw (less, is) again
    by_test false is false less again = elim (fits zero first (omega arith)) [
      | inl before ↦ absurd (let from : entry.optime.ts ≤ first.optime.ts = not_earlier first.optime.ts entry.optime.ts less in omega (arith, before.earlier))
      | inr after ↦
          let more : is_before stable first.optime ≡ true = before_trans stable entry.optime first.optime late (before_both entry.optime first.optime after.term after.earlier) in
          absurd (cc)
    ]

-- an entry that is the newest of its document makes one version more
pub has_with : (place : Place) (stable : OpTime) (log : List Entry) (entry : Entry) (versions : List Version) → AllPairs StandsBefore log → IsNewest log entry → is_before stable entry.optime ≡ true
    → place_of entry.op ≡ Some place → HasVersions place stable log versions
    → HasVersions place stable (with_entry log entry) (versions ++ record { at = entry.optime; doc = document_after entry.op (get (docs log) place) } ∷ [])
has_with place stable log entry versions order newest late own has =
    let made = with_here-from place entry (log_after stable log) (get (docs (log_up_to stable log)) place) (is_at-here _ place own)
    (AllPairs-filter StandsBefore (λ (e : Entry). is_before stable e.optime) log order)
    (All-filter (λ (e : Entry). is_before stable e.optime) (λ (e : Entry). entry.optime.ts ≤ e.optime.ts → is_at (place_of e.op) place ≡ false) log (quiet_of_newest log entry place newest own)) in
    record {
      base = has.base;
      is = ap (λ vs. vs ++ record { at = entry.optime; doc = document_after entry.op (get (docs log) place) } ∷ []) has.is
          ∙ append_assoc has.base (versions_from place (get (docs (log_up_to stable log)) place) (log_after stable log)) (record { at = entry.optime; doc = document_after entry.op (get (docs log) place) } ∷ [])
          ∙ ap (λ vs. has.base ++ vs) (ap (λ d. versions_from place (get (docs (log_up_to stable log)) place) (log_after stable log) ++ record { at = entry.optime; doc = document_after entry.op d } ∷ []) (sym (newest_after stable log place order))
          ∙ sym made
          ∙ ap (λ l. versions_from place (get (docs (log_up_to stable log)) place) l) (sym (after-with stable log entry late newest.fits))
          ∙ ap (λ l. versions_from place (get (docs l) place) (log_after stable (with_entry log entry))) (sym (up_to-with stable log entry late)));
      early = has.early;
      shows = has.shows ∙ ap (λ l. get (docs l) place) (sym (up_to-with stable log entry late));
    }

-- and leaves every other document alone
pub has_with_other : (place : Place) (stable : OpTime) (log : List Entry) (entry : Entry) (versions : List Version) → All (FitsBeside entry) log → is_before stable entry.optime ≡ true
    → place_of entry.op ≢ Some place → HasVersions place stable log versions → HasVersions place stable (with_entry log entry) versions
has_with_other place stable log entry versions fits late apart has = record {
  base = has.base;
  is = has.is
      ∙ ap (λ vs. has.base ++ vs) (sym (with_other-from place entry (log_after stable log) (get (docs (log_up_to stable log)) place) (is_at-other _ place apart))
      ∙ ap (λ l. versions_from place (get (docs (log_up_to stable log)) place) l) (sym (after-with stable log entry late fits))
      ∙ ap (λ l. versions_from place (get (docs l) place) (log_after stable (with_entry log entry))) (sym (up_to-with stable log entry late)));
  early = has.early;
  shows = has.shows ∙ ap (λ l. get (docs l) place) (sym (up_to-with stable log entry late));
}

-- ---- what no read can tell

latest-standing : (version : Option Version) → latest_of (standing version) ≡ option_and_then (λ (v : Version). v.doc) version
latest-standing None = refl
latest-standing (Some version) = by_doc version.doc refl
  where
    by_doc : (d : Option Fields) → version.doc ≡ d → latest_of (cond (is_some version.doc) (version ∷ []) []) ≡ version.doc
    by_doc None is = ap (λ o. latest_of (cond (is_some o) (version ∷ []) [])) is ∙ sym is
    by_doc (Some d) is = ap (λ o. latest_of (cond (is_some o) (version ∷ []) [])) is

all_standing : (P : Version → Type 0) (versions : List Version) → All P versions → All P (standing (last_version versions))
all_standing P [] all = λ k d within. absurd (omega arith)
all_standing P (version ∷ []) all =
    elim (is_some version.doc) as (λ b. All P (cond b (version ∷ []) [])) [
      | true ↦ all
      | false ↦ λ k d within. absurd (omega arith)
    ]
all_standing P (version ∷ next ∷ versions) all = all_standing P (next ∷ versions) (All-tail P version (next ∷ versions) all)

-- what the entries after an optime make
after-from : (at : OpTime) (place : Place) (before : Option Fields) (log : List Entry) → AllPairs StandsBefore log
    → later_than at (versions_from place before log) ≡ versions_from place (newest_of before (versions_from place before (log_up_to at log))) (log_after at log)
after-from at place before [] order = refl
after-from at place before (entry ∷ log) order =
    by_test (is_before at entry.optime) refl (λ next. after-from at place next log (pairs_tail StandsBefore entry log order))
  where
    by_test : (late : Bool) → is_before at entry.optime ≡ late
        → ((next : Option Fields) → later_than at (versions_from place next log) ≡ versions_from place (newest_of next (versions_from place next (log_up_to at log))) (log_after at log))
        → later_than at (versions_from place before (entry ∷ log)) ≡ versions_from place (newest_of before (versions_from place before (log_up_to at (entry ∷ log)))) (log_after at (entry ∷ log))
    by_test true late again =
        let all : All (λ other. is_before at other.optime ≡ true) (entry ∷ log) = every_late at entry log order late in
        filter-all (λ (v : Version). is_before at v.at) (versions_from place before (entry ∷ log)) (all_versions (λ o. is_before at o ≡ true) place before (entry ∷ log) (λ k d within here. all k d within))
        ∙ ap (λ l. versions_from place before l) (sym (filter-all (λ (e : Entry). is_before at e.optime) (entry ∷ log) all))
        ∙ ap (λ l. versions_from place (newest_of before (versions_from place before l)) (log_after at (entry ∷ log))) (sym (none_up_to at (entry ∷ log) all))
    by_test false early again =
        (elim (is_at (place_of entry.op) place) as (λ b.
        later_than at (cond b (record { at = entry.optime; doc = document_after entry.op before } ∷ versions_from place (document_after entry.op before) log) (versions_from place before log))
        ≡ versions_from place (newest_of before (cond b (record { at = entry.optime; doc = document_after entry.op before } ∷ versions_from place (document_after entry.op before) (log_up_to at log)) (versions_from place before (log_up_to at log)))) (log_after at log)) [
          | true ↦
              ap (λ b. cond b (record { at = entry.optime; doc = document_after entry.op before } ∷ later_than at (versions_from place (document_after entry.op before) log)) (later_than at (versions_from place (document_after entry.op before) log))) early
              ∙ again (document_after entry.op before)
          | false ↦ again before
        ])
        ∙ ap (λ b. versions_from place (newest_of before (versions_from place before (cond (not b) (entry ∷ log_up_to at log) (log_up_to at log)))) (cond b (entry ∷ log_after at log) (log_after at log))) (sym early)

pub not_late : (b : Bool) → not b ≡ true → b ≡ false
not_late true is = cc is
not_late false is = refl

pub has_pruned : (place : Place) (stable at : OpTime) (log : List Entry) (versions : List Version) → AllPairs StandsBefore log → is_before at stable ≡ false
    → HasVersions place stable log versions → HasVersions place at log (standing (last_version (up_to at versions)) ++ later_than at versions)
has_pruned place stable at log versions order later has = record {
  base = standing (last_version (up_to at versions));
  is = ap (λ vs. standing (last_version (up_to at versions)) ++ vs) back;
  early = all_standing (λ (v : Version). is_before at v.at ≡ false) (up_to at versions) early;
  shows = latest-standing (last_version (up_to at versions)) ∙ shown_has place stable at log versions order later has;
}
  where
    early : All (λ (v : Version). is_before at v.at ≡ false) (up_to at versions)
    early = λ k d within. not_late _ (filter-passes (λ (v : Version). not (is_before at v.at)) versions k d within)

    front : log_up_to stable (log_up_to at log) ≡ log_up_to stable log
    front = up_to-up_to stable at log later

    between : log_after stable (log_up_to at log) ≡ log_up_to at (log_after stable log)
    between = filter-swap (λ (e : Entry). is_before stable e.optime) (λ (e : Entry). not (is_before at e.optime)) log

    stands : newest_of (get (docs (log_up_to stable log)) place) (versions_from place (get (docs (log_up_to stable log)) place) (log_up_to at (log_after stable log))) ≡ get (docs (log_up_to at log)) place
    stands =
        ap (λ l. newest_of (get (docs (log_up_to stable log)) place) (versions_from place (get (docs (log_up_to stable log)) place) l)) (sym between)
        ∙ ap (λ l. newest_of (get (docs l) place) (versions_from place (get (docs l) place) (log_after stable (log_up_to at log)))) (sym front)
        ∙ newest_after stable (log_up_to at log) place (AllPairs-filter StandsBefore (λ (e : Entry). not (is_before at e.optime)) log order)

    back : later_than at versions ≡ versions_from place (get (docs (log_up_to at log)) place) (log_after at log)
    back =
        ap (later_than at) has.is
        ∙ filter-append (λ (v : Version). is_before at v.at) has.base (versions_from place (get (docs (log_up_to stable log)) place) (log_after stable log))
        ∙ ap (λ vs. vs ++ later_than at (versions_from place (get (docs (log_up_to stable log)) place) (log_after stable log)))
        (filter-none (λ (v : Version). is_before at v.at) has.base (λ k d within. at_most_trans (slice_index_or has.base k d).at stable at (has.early k d within) later))
        ∙ after-from at place (get (docs (log_up_to stable log)) place) (log_after stable log) (AllPairs-filter StandsBefore (λ (e : Entry). is_before stable e.optime) log order)
        ∙ ap (λ d. versions_from place d (log_after at (log_after stable log))) stands
        ∙ ap (λ l. versions_from place (get (docs (log_up_to at log)) place) l)
        (filter-within (λ (e : Entry). is_before at e.optime) (λ (e : Entry). is_before stable e.optime) log (λ e here. at_most_before_trans stable at e.optime later here))

-- ---- before an entry

-- each version of a document is before its newest entry
pub has_before : (place : Place) (stable : OpTime) (log : List Entry) (entry : Entry) (versions : List Version) → IsNewest log entry → is_before stable entry.optime ≡ true → place_of entry.op ≡ Some place
    → HasVersions place stable log versions → All (λ (v : Version). is_before v.at entry.optime ≡ true) versions
has_before place stable log entry versions newest late own has =
    subst (λ vs. All (λ (v : Version). is_before v.at entry.optime ≡ true) vs) (sym has.is)
    (All-append (λ (v : Version). is_before v.at entry.optime ≡ true) has.base (versions_from place (get (docs (log_up_to stable log)) place) (log_after stable log))
    (λ k d within. at_most_before_trans (slice_index_or has.base k d).at stable entry.optime (has.early k d within) late)
    (all_versions (λ o. is_before o entry.optime ≡ true) place (get (docs (log_up_to stable log)) place) (log_after stable log)
    (All-filter (λ (e : Entry). is_before stable e.optime) (λ (e : Entry). is_at (place_of e.op) place ≡ true → is_before e.optime entry.optime ≡ true) log each)))
  where
    each : All (λ other. is_at (place_of other.op) place ≡ true → is_before other.optime entry.optime ≡ true) log
    each k d within here = elim (newest.fits k d within) [
      | inl before ↦ before_both _ _ before.term before.earlier
      | inr after ↦ absurd (newest.last k d within after.earlier (is_at-only _ place here ∙ sym own))
    ]
