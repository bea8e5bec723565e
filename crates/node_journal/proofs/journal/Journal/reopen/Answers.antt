use Rattle.std.proofs.Common.{◌≡◌, ℕ, List, ap, rules, subst, sym}
use Rattle.std.specs.Prelude.{Err}
use Rattle.record_file.specs.Records.{lists}
use Rattle.record_file.specs.declared.error.FileError.TheVariants.{Memory}
use Rattle.record_file.proofs.OpenLemmas.{opened_calls}
use Rattle.node_journal.specs.Spelled.{AreSpelled}
use Rattle.node_journal.proofs.JournalLemmas.{found_records, open_now, opened_left, opens, pieces_are, rests_now}
use Rattle.node_journal.proofs.journal.Journal.reopen.Goals as goal

pub returns-in_err-pieces-clause-left : goal.returns-in_err-pieces-clause-left
returns-in_err-pieces-clause-left g c = let has = rw (← c.self.view_is) at c.requires in opened_left _ _ has c.reopen.ensures.any_moment

pub returns-in_err-pieces-clause-any_moment : goal.returns-in_err-pieces-clause-any_moment
returns-in_err-pieces-clause-any_moment g c =
    let has = rw (← c.self.view_is) at c.requires in rw (← c.self.view_is) (opens _ _ has c.reopen.ensures.any_moment)

pub kept_of-requires : goal.kept_of-requires
kept_of-requires g c =
    let has = rw (← c.self.view_is) at c.requires in
    let found = found_records _ (lists c.in_ok-pieces.pieces.items) has c.in_ok-pieces.ensures.records in
    (found.0, subst (λ (l : List (List ℕ)). AreSpelled found.0 l) (sym (ap lists c.deref.ensures.value)) found.1)

pub returns-in_err-kept_of-clause-left : goal.returns-in_err-kept_of-clause-left
returns-in_err-kept_of-clause-left g c = let has = rw (← c.self.view_is) at c.requires in opened_left _ _ has c.in_ok-pieces.ensures.any_moment

pub returns-in_err-kept_of-clause-calls : goal.returns-in_err-kept_of-clause-calls
returns-in_err-kept_of-clause-calls g c =
    let is : c.from_residual-in_err-kept_of.result ≡ Err Memory = search rules in
    rw (← c.self.view_is) (opened_calls _ _ _ is c.in_ok-pieces.ensures.calls)

pub returns-in_err-kept_of-clause-any_moment : goal.returns-in_err-kept_of-clause-any_moment
returns-in_err-kept_of-clause-any_moment g c =
    let has = rw (← c.self.view_is) at c.requires in rw (← c.self.view_is) (opens _ _ has c.in_ok-pieces.ensures.any_moment)

pub returns-clause-kept : goal.returns-clause-kept
returns-clause-kept g c =
    rw (← c.self.view_is)
    (λ records journal. c.in_ok-kept_of.ensures records
    (subst (λ (l : List (List ℕ)). AreSpelled records l) (sym (ap lists c.deref.ensures.value)) (pieces_are _ (lists c.in_ok-pieces.pieces.items) records c.in_ok-pieces.ensures.records journal)))

pub returns-clause-at_rest : goal.returns-clause-at_rest
returns-clause-at_rest g c =
    rw (← c.self.view_is)
    (λ records journal. rests_now _ (lists c.in_ok-pieces.pieces.items) records (pieces_are _ (lists c.in_ok-pieces.pieces.items) records c.in_ok-pieces.ensures.records journal) c.in_ok-pieces.ensures.at_rest)

pub returns-clause-open : goal.returns-clause-open
returns-clause-open g c =
    let has = rw (← c.self.view_is) at c.requires in
    open_now _ _ (lists c.in_ok-pieces.pieces.items) has c.in_ok-pieces.ensures.records c.in_ok-pieces.ensures.at_rest

pub returns-clause-left : goal.returns-clause-left
returns-clause-left g c = let has = rw (← c.self.view_is) at c.requires in opened_left _ _ has c.in_ok-pieces.ensures.any_moment

pub returns-clause-calls : goal.returns-clause-calls
returns-clause-calls g c = rw (← c.self.view_is) c.in_ok-pieces.ensures.calls

pub returns-clause-any_moment : goal.returns-clause-any_moment
returns-clause-any_moment g c =
    let has = rw (← c.self.view_is) at c.requires in rw (← c.self.view_is) (opens _ _ has c.in_ok-pieces.ensures.any_moment)
