use Rattle.std.proofs.Common.{◌≤◌, Bool, subst}
use Rattle.set_model.specs.Node.{Node}
use Rattle.repl_msg.specs.declared.message.Body.TheVariants as bodies
use Rattle.set_model.specs.Beats.{beat_of}
use Rattle.set_model.specs.Outcome.{sending}
use Rattle.set_model.specs.declared.reply.Reply.TheVariants.{Replied}
use Rattle.checker_node.specs.Hearing.{Hears}
use Rattle.checker_node.proofs.BeatLemmas.{does_unheard, told_heard}
use Rattle.checker_node.proofs.node.Node.beat_told.Goals as goal

pub returns-then-not-branch : goal.returns-then-not-branch
returns-then-not-branch c =
    let recent : c.args.self.now.term ≤ c.args.term = subst (λ (n : Node). n.term ≤ c.args.term) c.self.view_is c.if-term-self.false in
    does_unheard c.args.self.now c.args.from c.args.term c.args.beat.now (λ n. sending (Replied c.args.next) n c.args.from (bodies.HeartbeatReply (beat_of n))) c.args.failed.now c.hear.new.failed c.failed.result c.hear.new.self recent
    (subst (λ (b : Bool). Hears c.args.self.now c.args.from c.args.beat.now c.args.failed.now c.hear.new.failed b c.hear.new.self) c.if-not-branch.true c.in_ok-hear.ensures) c.failed.ensures

pub returns : goal.returns
returns c =
    let recent : c.args.self.now.term ≤ c.args.term = subst (λ (n : Node). n.term ≤ c.args.term) c.self.view_is c.if-term-self.false in
    told_heard c.args.next c.sends.result c.args.self.now c.args.from c.args.term c.args.beat.now c.in_ok-beat.field-0 c.args.failed.now c.hear.new.failed c.hear.new.self recent
    (subst (λ (b : Bool). Hears c.args.self.now c.args.from c.args.beat.now c.args.failed.now c.hear.new.failed b c.hear.new.self) c.if-not-branch.false c.in_ok-hear.ensures)
    c.in_ok-beat.ensures c.sends.ensures
