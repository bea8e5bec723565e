use Rattle.std.proofs.Common.{◌∙◌, subst, sym}
use Rattle.std.proofs.lemmas.Option.{same_Some}
use Rattle.repl_msg.specs.declared.message.Message.{Message}
use Rattle.explore_steps.specs.Causes.{taken}
use Rattle.explore_steps.specs.Keeping.{HasDeed}
use Rattle.explore_steps.specs.Tables.{tables_of}
use Rattle.explore_steps.proofs.Keeping.{grown_then}
use Rattle.explore_steps.proofs.Putting.{put_message_at}
use Rattle.explore_steps.proofs.steps.Steps.message_at.Goals as goal

pub returns-in-Some-clause-deed : goal.returns-in-Some-clause-deed
returns-in-Some-clause-deed c sent there =
    let was = c.requires.kept.messages_at c.args.node c.args.message c.in-Some.deed c.in-Some.ensures in
    subst (λ (m : Message). HasDeed (tables_of c.args.self.now) c.args.question.now (taken m) c.args.node c.in-Some.deed) (same_Some was.0 sent (sym was.1 ∙ there)) was.2

pub returns-clause-grown : goal.returns-clause-grown
returns-clause-grown c =
    let question = c.args.question.now in
    let mid = c.take_message.new.self in
    let sent = c.requires.message.sent in
    grown_then question c.args.self.now mid _ c.in_ok-deed.ensures.grown
    (put_message_at question mid c.in_ok-deed.ensures.grown.kept c.args.node c.args.message c.in_ok-deed.deed c.put.new.self c.in_ok-put.ensures
    (sent, c.in_ok-deed.ensures.grown.tables.messages c.args.message sent c.requires.message.message_is, c.in_ok-deed.ensures.deed sent c.requires.message.message_is))
