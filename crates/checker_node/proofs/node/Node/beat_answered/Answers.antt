use Rattle.std.proofs.Common.{◌≤◌, Bool, refl, subst}
use Rattle.set_model.specs.Node.{Node}
use Rattle.set_model.specs.Outcome.{replied}
use Rattle.set_model.specs.declared.reply.Reply.TheVariants.{Heard}
use Rattle.checker_node.specs.Hearing.{Hears}
use Rattle.checker_node.proofs.BeatLemmas.{does_heard, does_unheard}
use Rattle.checker_node.proofs.DoesLemmas.{says}
use Rattle.checker_node.proofs.node.Node.beat_answered.Goals as goal

pub returns-then-not-branch : goal.returns-then-not-branch
returns-then-not-branch c =
    let recent : c.args.self.now.term ≤ c.args.term = subst (λ (n : Node). n.term ≤ c.args.term) c.self.view_is c.if-term-self.false in
    does_unheard c.args.self.now c.args.from c.args.term c.args.beat.now (λ n. replied Heard n) c.args.failed.now c.hear.new.failed c.failed.result c.hear.new.self recent
    (subst (λ (b : Bool). Hears c.args.self.now c.args.from c.args.beat.now c.args.failed.now c.hear.new.failed b c.hear.new.self) c.if-not-branch.true c.in_ok-hear.ensures) c.failed.ensures

pub returns : goal.returns
returns c =
    let recent : c.args.self.now.term ≤ c.args.term = subst (λ (n : Node). n.term ≤ c.args.term) c.self.view_is c.if-term-self.false in
    does_heard c.args.self.now c.args.from c.args.term c.args.beat.now (λ n. replied Heard n) c.args.failed.now c.hear.new.failed c.replies.result c.hear.new.self recent
    (subst (λ (b : Bool). Hears c.args.self.now c.args.from c.args.beat.now c.args.failed.now c.hear.new.failed b c.hear.new.self) c.if-not-branch.false c.in_ok-hear.ensures)
    (says Heard c.replies.result c.hear.new.self c.hear.new.self refl c.replies.ensures)
