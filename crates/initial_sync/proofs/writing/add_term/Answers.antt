use Rattle.std.proofs.Common.{List, ◌++◌, sym, subst, None}
use Rattle.std.specs.Prelude.{OnOk}
use Rattle.rs_disk.specs.Moments.{EachMoment}
use Rattle.repl_msg.specs.declared.record.Record.{Record}
use Rattle.node_journal.specs.Files.{IsAtRest}
use Rattle.initial_sync.specs.Missing.{HasFront}
use Rattle.initial_sync.proofs.WritingLemmas.{front_none, front_one, term_is}
use Rattle.initial_sync.proofs.writing.add_term.Goals as goal

pub returns-then-kept-term-clause-any_moment : goal.returns-then-kept-term-clause-any_moment
returns-then-kept-term-clause-any_moment g c = λ items rest. front_none _ items _ rest

pub returns-clause-ok : goal.returns-clause-ok
returns-clause-ok g c =
    subst (λ (l : List Record). OnOk c.add.result ((items : List Record) → IsAtRest (g.D.Disk.state c.args.journal.now.0) items → IsAtRest (g.D.Disk.state c.add.new.self.0) (items ++ l)))
    (sym (term_is c.args.term c.args.kept c.if-kept-term.false)) c.add.ensures.ok

pub returns-clause-any_moment : goal.returns-clause-any_moment
returns-clause-any_moment g c = λ items rest.
    subst (λ (l : List Record). EachMoment (HasFront items l) (g.D.Disk.state c.args.journal.now.0) (g.D.Disk.state c.add.new.self.0))
    (sym (term_is c.args.term c.args.kept c.if-kept-term.false))
    (front_one _ _ items (Rattle.repl_msg.specs.declared.record.Record.Record.Vote (record { term = c.args.term; candidate = None })) (c.add.ensures.any_moment items rest))
