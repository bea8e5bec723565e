use Rattle.std.proofs.Common.{List, ◌++◌, subst}
use Rattle.std.specs.Prelude.{OnOk}
use Rattle.rs_disk.specs.Moments.{EachMoment}
use Rattle.oplog_entry.specs.declared.entry.Entry.{Entry}
use Rattle.repl_msg.specs.declared.record.Record.{Record}
use Rattle.node_journal.specs.Files.{IsAtRest}
use Rattle.initial_sync.specs.Missing.{HasFront, batches, term_missing}
use Rattle.initial_sync.proofs.WritingLemmas.{both_added, front_more, front_then}
use Rattle.initial_sync.proofs.writing.add_missing.Goals as goal

pub returns-in_err-add_term-clause-any_moment : goal.returns-in_err-add_term-clause-any_moment
returns-in_err-add_term-clause-any_moment g c = λ items rest. front_more _ _ items _ _ (c.in_err-add_term.ensures.any_moment items rest)

pub returns-clause-ok : goal.returns-clause-ok
returns-clause-ok g c =
    subst
    (λ (l : List Entry). OnOk c.add_entries.result ((items : List Record) → IsAtRest (g.D.Disk.state c.args.journal.now.0) items
    → IsAtRest (g.D.Disk.state c.add_entries.new.journal.0) (items ++ (term_missing c.args.pinned.now.term c.args.kept.now.vote.term ++ batches l)))) c.entries_left.ensures
    (both_added c.add_entries.result _ _ _ _ _ c.in_ok-add_term.ensures.ok c.add_entries.ensures.ok)

pub returns-clause-any_moment : goal.returns-clause-any_moment
returns-clause-any_moment g c = λ items rest.
    let term = term_missing c.args.pinned.now.term c.args.kept.now.vote.term in
    subst (λ (l : List Entry). EachMoment (HasFront items (term ++ batches l)) (g.D.Disk.state c.args.journal.now.0) (g.D.Disk.state c.add_entries.new.journal.0)) c.entries_left.ensures
    (front_then _ _ _ items term _ (c.in_ok-add_term.ensures.any_moment items rest) (c.add_entries.ensures.any_moment (items ++ term) (c.in_ok-add_term.ensures.ok items rest)))
