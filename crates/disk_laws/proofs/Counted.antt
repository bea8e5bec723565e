-- The machine: who was durable in a primary's term up to what that counted has all that it committed, durably, for ever.
use Rattle.std.proofs.Common.{◌≡◌, ◌∙◌, ◌<◌, ◌≤◌, ◌+◌, inl, inr, ap, subst, arith, ℕ, List}
use Rattle.std.proofs.lemmas.Bool.{cases_order}
use Rattle.rs_optime.specs.declared.optime.OpTime.{OpTime}
use Rattle.oplog_entry.specs.Visible.{log_up_to}
use Rattle.oplog_entry.specs.declared.entry.Entry.{Entry}
use Rattle.commit_machine.specs.Words.{AtMost, Has}
use Rattle.commit_machine.specs.Nodes.{Primary, Snapshot, State, Was, now}
use Rattle.commit_machine.proofs.Consequences.{leaders_have}
use Rattle.commit_machine.proofs.Facts.{HasDrained, Invariant, IsLacked}
use Rattle.commit_machine.proofs.Growth.{now_was}
use Rattle.commit_machine.proofs.Lists.{has_in}
use Rattle.commit_machine.proofs.Static.{HasWinLog, first_in, has_win_log, log_match, old_in_win_log}

-- a node has durably what another log has up to an optime
pub record HasKept (a : Snapshot) (o : OpTime) (log : List Entry) : Type 0 where
  pub durable : AtMost o a.durable
  pub same : log_up_to o a.log ≡ log

-- a primary committed an optime
pub record Commits (x : Snapshot) (o : OpTime) : Type 0 where
  pub role : x.role ≡ Primary
  pub has : Has o x.log
  pub commit : AtMost o x.commit

-- a member was durable in a term up to an optime
pub record WasDurable (y : Snapshot) (term : ℕ) (o : OpTime) : Type 0 where
  pub term_is : y.term ≡ term
  pub durable_term : y.durable.term ≡ term
  pub durable : AtMost o y.durable

module _ (state : State) (kept : Invariant state) (m : ℕ) (x : Snapshot) (was : Was state m x) (o : OpTime) (commits : Commits x o) (v : ℕ) (y : Snapshot) (was_too : Was state v y)
    (acks : WasDurable y x.term o) where
  -- its durable point is an entry of the term
  durable_there : Has y.durable y.log
  durable_there = elim (kept.points v y was_too).durable [
    | inl zero_is ↦
        let none : y.durable.term ≡ 0 = ap (λ (p : OpTime). p.term) zero_is in
        let positive : 1 ≤ x.term = (kept.self_vote m x was (λ secondary. absurd (let role : x.role ≡ Primary = commits.role in cc (secondary, role)))).1 in
        absurd (omega (arith, none, positive, acks.durable_term))
    | inr there ↦ there
  ]

  -- so it has what the term was won with, and what was written up to there
  has : Has o y.log
  has = elim (cases_order o.term x.term) [
    | inl same ↦ first_in state kept m x was commits.role v y was_too acks.durable_term o commits.has same acks.durable
    | inr other ↦ elim other [
      | inl less ↦
          let won : HasWinLog state y.log y.durable = has_win_log state kept v y was_too y.durable durable_there in
          has_in o won.win.log y.log won.begins (old_in_win_log state kept m x was (inr commits.role) o commits.has less won.win won.won (won.term ∙ acks.durable_term))
      | inr more ↦ absurd (let most : o.term ≤ x.term = (kept.log_terms m x was o commits.has).1 in omega (arith, most, more))
    ]
  ]

  -- no winner since lacks it
  not_lacked : IsLacked state o y.term ((now state v).term + 1) → ⊥
  not_lacked lacked = lacked.lacks (elim (cases_order lacked.win.term x.term) [
    | inl same ↦ old_in_win_log state kept m x was (inr commits.role) o commits.has (let less : o.term < lacked.win.term = lacked.above in omega (arith, less, same)) lacked.win lacked.won same
    | inr other ↦ elim other [
      | inl less ↦ absurd (let from : y.term ≤ lacked.win.term = lacked.from in omega (arith, from, less, acks.term_is))
      | inr more ↦
          let drained : HasDrained state lacked.win = kept.win_past lacked.win lacked.won in
          let found : Has o drained.node.log × _ = leaders_have state kept m x was o commits.has commits.commit lacked.win.number drained.node drained.was (inl drained.role) (omega (arith, more, drained.term)) in
          subst (λ (l : List Entry). Has o l) drained.log found.0
    ]
  ])

  pub has_kept : HasKept (now state v) o (log_up_to o x.log)
  has_kept = elim (kept.kept_entry v y was_too o has acks.durable) [
    | inl here ↦ record { durable = here.1; same = log_match state kept v (now state v) (now_was state v) m x was o here.0 commits.has }
    | inr lacked ↦ absurd (not_lacked lacked)
  ]
