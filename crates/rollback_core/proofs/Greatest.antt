-- The last entry of a log that passes a test.
use Rattle.std.proofs.Common.{◌≡◌, ◌∙◌, ◌⊎◌, inl, inr, ap, sym, refl, arith, Bool, true, false, cond, not, ◌&&◌, ◌||◌, List, [], ◌∷◌, zero}
use Rattle.std.proofs.Math.Bool.{or-false}
use Rattle.std.proofs.lemmas.Bool.{and_parts, and_from, or_cases, or_left, or_right, cases_Bool}
use Rattle.std.specs.List.{filter, list_any, All}
use Rattle.std.proofs.lemmas.List.Elements.{All-tail}
use Rattle.rs_optime.specs.declared.optime.OpTime.{OpTime}
use Rattle.rs_optime.proofs.Optimes.{before_parts, at_most_refl, at_most_antisym, at_most_trans, before_at_most}
use Rattle.oplog_entry.specs.declared.entry.Entry.{Entry}
use Rattle.oplog_entry.specs.Lawful.{IsLawful}
use Rattle.oplog_entry.specs.Visible.{ZERO, is_before, last_of, log_up_to}
use Rattle.oplog_entry.proofs.Optimes.{is_zero}
use Rattle.oplog_store.specs.Log.{IsOplog, StandsBefore}
use Rattle.oplog_store.proofs.Keeps.{pairs_head, pairs_tail}
use Rattle.oplog_store.proofs.LogLemmas.{oplog_filter}
use Rattle.repl_msg.specs.Logs.{same_optime, has_entry}
use Rattle.repl_msg.proofs.HasLemmas.{same_is, same_itself, has_filter}
use Rattle.repl_msg.specs.Rollback.{is_common, common_point}
use Rattle.rollback_core.proofs.Steps.{later_entry}

-- an entry that passes, or ZERO, and no entry that passes is past it
pub record IsGreatest (test : OpTime → Bool) (log : List Entry) (point : OpTime) : Type 0 where
  pub there : (point ≡ ZERO) ⊎ ((has_entry log point ≡ true) × (test point ≡ true))
  pub first : (other : OpTime) → has_entry log other ≡ true → test other ≡ true → is_before point other ≡ false

-- ---- optimes

-- ---- the last entry that passes

last_there : (entry : Entry) (log : List Entry) → has_entry (entry ∷ log) (last_of (entry ∷ log)) ≡ true
last_there entry [] = or_left _ _ (same_itself entry.optime)
last_there entry (next ∷ log) = or_right _ _ (last_there next log)

-- an entry of a list is one at a place of it
pub stands_after : (entry : Entry) (log : List Entry) (o : OpTime) → All (StandsBefore entry) log → has_entry log o ≡ true → is_before o entry.optime ≡ false
stands_after entry [] o later has = cc has
stands_after entry (next ∷ log) o later has = elim (or_cases _ _ has) [
  | inl same ↦
      let is : next.optime ≡ o = same_is next.optime o same in
      let before : StandsBefore entry next = later zero next (omega arith) in
      ap (λ x. is_before x entry.optime) (sym is) ∙ late entry next before
  | inr there ↦ stands_after entry log o (All-tail (StandsBefore entry) next log later) there
]
  where
    late : (one two : Entry) → StandsBefore one two → is_before two.optime one.optime ≡ false
    late one two before = go (is_before two.optime one.optime) refl
      where
        go : (b : Bool) → is_before two.optime one.optime ≡ b → is_before two.optime one.optime ≡ false
        go true is = elim (before_parts two.optime one.optime is) [ inl less ↦ absurd (omega (arith, before.term)) | inr same ↦ absurd (omega (arith, same.1, before.earlier)) ]
        go false is = is

last_is_greatest : (log : List Entry) → IsOplog log → (o : OpTime) → has_entry log o ≡ true → is_before (last_of log) o ≡ false
last_is_greatest [] oplog o has = cc has
last_is_greatest (entry ∷ []) oplog o has = elim (or_cases _ _ has) [
  | inl same ↦ ap (is_before entry.optime) (sym (same_is entry.optime o same)) ∙ at_most_refl entry.optime
  | inr there ↦ cc there
]
last_is_greatest (entry ∷ next ∷ log) oplog o has = elim (or_cases _ _ has) [
  | inl same ↦
      ap (is_before (last_of (next ∷ log))) (sym (same_is entry.optime o same))
      ∙ stands_after entry (next ∷ log) (last_of (next ∷ log)) (pairs_head StandsBefore entry (next ∷ log) oplog.order) (last_there next log)
  | inr there ↦ last_is_greatest (next ∷ log)
      (record { order = pairs_tail StandsBefore entry (next ∷ log) oplog.order; lawful = All-tail IsLawful entry (next ∷ log) oplog.lawful }) o there
]

zero_or_there : (log : List Entry) → (last_of log ≡ ZERO) ⊎ (has_entry log (last_of log) ≡ true)
zero_or_there [] = inl refl
zero_or_there (entry ∷ log) = inr (last_there entry log)

-- the last entry that passes is the greatest
pub greatest_last : (test : OpTime → Bool) (log : List Entry) → IsOplog log → IsGreatest test log (last_of (filter (λ entry. test entry.optime) log))
greatest_last test log oplog = record {
  there = elim (zero_or_there (filter (λ entry. test entry.optime) log)) [
    | inl none ↦ inl none
    | inr has ↦
        let parts : (test (last_of (filter (λ entry. test entry.optime) log)) ≡ true) × (has_entry log (last_of (filter (λ entry. test entry.optime) log)) ≡ true) =
        and_parts _ _ (sym (has_filter test log _) ∙ has) in
        inr (parts.1, parts.0)
  ];
  first = λ o has passes. last_is_greatest (filter (λ entry. test entry.optime) log) (oplog_filter (λ entry. test entry.optime) log oplog) o
      (has_filter test log o ∙ and_from _ _ passes has);
}

-- there is one
pub same_greatest : (test : OpTime → Bool) (log : List Entry) (one two : OpTime) → IsGreatest test log one → IsGreatest test log two → one ≡ two
same_greatest test log one two first second = elim first.there [
  | inl none ↦ elim second.there [
    | inl none_too ↦ none ∙ sym none_too
    | inr there_too ↦ none ∙ sym (is_zero two (ap (λ x. is_before x two) (sym none) ∙ first.first two there_too.0 there_too.1))
  ]
  | inr there ↦ elim second.there [
    | inl none_too ↦ is_zero one (ap (λ x. is_before x one) (sym none_too) ∙ second.first one there.0 there.1) ∙ sym none_too
    | inr there_too ↦ at_most_antisym one two (second.first one there.0 there.1) (first.first two there_too.0 there_too.1)
  ]
]

-- ---- one optime more

either_way : (test : OpTime → Bool) (o x : OpTime) → (test x || same_optime x o) ≡ true → (test x ≡ true) ⊎ (x ≡ o)
either_way test o x passes = elim (or_cases _ _ passes) [ inl old ↦ inl old | inr same ↦ inr (same_is x o same) ]

moved_on : (test : OpTime → Bool) (log : List Entry) (point o : OpTime) → IsGreatest test log point → is_before point o ≡ true → has_entry log o ≡ true
    → IsGreatest (λ x. test x || same_optime x o) log o
moved_on test log point o old past has = record {
  there = inr (has, or_right _ _ (same_itself o));
  first = λ x there passes. elim (either_way test o x passes) [
    | inl before ↦ at_most_trans x point o (old.first x there before) (before_at_most point o past)
    | inr same ↦ ap (is_before o) same ∙ at_most_refl o
  ];
}

stayed : (test : OpTime → Bool) (log : List Entry) (point o : OpTime) → IsGreatest test log point → (is_before point o && has_entry log o) ≡ false
    → IsGreatest (λ x. test x || same_optime x o) log point
stayed test log point o old not_both = record {
  there = elim old.there [ inl none ↦ inl none | inr there ↦ inr (there.0, or_left _ _ there.1) ];
  first = λ x there passes. elim (either_way test o x passes) [
    | inl before ↦ old.first x there before
    | inr same ↦ elim (cases_Bool (is_before point x)) [
      | inl past ↦
          let both : (is_before point o && has_entry log o) ≡ true = and_from _ _ (ap (is_before point) (sym same) ∙ past) (ap (has_entry log) (sym same) ∙ there) in
          absurd (cc)
      | inr late ↦ late
    ]
  ];
}

by_equal : (test other : OpTime → Bool) (log : List Entry) (point : OpTime) → ((x : OpTime) → test x ≡ other x) → IsGreatest test log point → IsGreatest other log point
by_equal test other log point same greatest = record {
  there = elim greatest.there [ inl none ↦ inl none | inr there ↦ inr (there.0, sym (same point) ∙ there.1) ];
  first = λ x there passes. greatest.first x there (same x ∙ passes);
}

or_turned : (a b c : Bool) → ((a || c) || b) ≡ (a || (b || c))
or_turned true b c = refl
or_turned false true true = refl
or_turned false true false = refl
or_turned false false true = refl
or_turned false false false = refl

-- one optime of the source more
pub one_more : (log : List Entry) (after : OpTime) (optimes : List OpTime) (point o : OpTime)
    → IsGreatest (is_common after optimes) log point → IsGreatest (is_common after (o ∷ optimes)) log (later_entry log point o)
one_more log after optimes point o old =
    by_equal (λ x. is_common after optimes x || same_optime x o) (is_common after (o ∷ optimes)) log _
    (λ x. or_turned (not (is_before after x)) (same_optime x o) (list_any (same_optime x) optimes)) (go (is_before point o && has_entry log o) refl)
  where
    go : (b : Bool) → (is_before point o && has_entry log o) ≡ b → IsGreatest (λ x. is_common after optimes x || same_optime x o) log (cond (is_before point o && has_entry log o) o point)
    go true is =
        let parts : (is_before point o ≡ true) × (has_entry log o ≡ true) = and_parts _ _ is in
        rw is (moved_on (is_common after optimes) log point o old parts.0 parts.1)
    go false is = rw is (stayed (is_common after optimes) log point o old is)

-- by none of them it is the last entry at or before the optime that was asked for
pub of_none : (log : List Entry) (after : OpTime) → IsOplog log → IsGreatest (is_common after []) log (last_of (log_up_to after log))
of_none log after oplog =
    by_equal (λ x. not (is_before after x)) (is_common after []) log _ (λ x. sym (or-false (not (is_before after x)))) (greatest_last (λ x. not (is_before after x)) log oplog)

pub is_common_point : (log : List Entry) (after : OpTime) (optimes : List OpTime) (point : OpTime) → IsOplog log
    → IsGreatest (is_common after optimes) log point → point ≡ common_point log after optimes
is_common_point log after optimes point oplog greatest =
    same_greatest (is_common after optimes) log point _ greatest (greatest_last (is_common after optimes) log oplog)
