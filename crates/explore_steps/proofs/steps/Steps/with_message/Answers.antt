use Rattle.std.proofs.Common.{◌∙◌, subst, sym}
use Rattle.std.proofs.lemmas.Option.{same_Some}
use Rattle.repl_msg.specs.declared.message.Message.{Message}
use Rattle.explore_steps.specs.Stepping.{IsAddition}
use Rattle.explore_steps.specs.Tables.{tables_of}
use Rattle.explore_steps.proofs.Keeping.{grows_on}
use Rattle.explore_steps.proofs.Numbers.{there_at}
use Rattle.explore_steps.proofs.Putting.{put_addition}
use Rattle.explore_steps.proofs.steps.Steps.with_message.Goals as goal

pub returns-in-Some-clause-added : goal.returns-in-Some-clause-added
returns-in-Some-clause-added c sent there =
    let was = c.requires.added c.args.cell c.args.message c.in-Some.added c.in-Some.ensures in
    subst (λ (m : Message). IsAddition (tables_of c.args.self.now) c.args.cell m c.in-Some.added) (same_Some was.0 sent (sym was.1 ∙ there)) was.2

pub returns-clause-grown : goal.returns-clause-grown
returns-clause-grown c =
    let own = c.args.self.now in
    let mid = c.added.new.self in
    let sent = there_at own.messages c.args.message c.requires.message in
    grows_on own mid _ c.in_ok-added.ensures.grown
    (put_addition mid c.args.cell c.args.message c.in_ok-added.added c.put.new.self c.in_ok-put.ensures
    (sent.0, c.in_ok-added.ensures.grown.tables.messages c.args.message sent.0 sent.1, c.in_ok-added.ensures.added sent.0 sent.1))
