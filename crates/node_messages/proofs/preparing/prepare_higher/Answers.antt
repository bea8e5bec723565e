use Rattle.std.proofs.Common.{sym, subst, Bool, true, IfOk}
use Rattle.repl_msg.specs.declared.message.Body.{Body}
use Rattle.set_model.specs.Deliver.{told}
use Rattle.set_model.specs.declared.reply.Ignored.TheVariants.{NotCandidate, NotPrimary}
use Rattle.node_messages.specs.Ahead.{IsPreparedFor, view_in_term}
use Rattle.node_state.specs.Ready.{IsReadyMessage}
use Rattle.node_state.specs.declared.turn.MessageContinuation.{MessageContinuation}
use Rattle.node_state.specs.declared.turn.MessageContinuation.TheVariants.{Ignored}
use Rattle.node_messages.proofs.BodyLemmas.{is_higher, report_tells, vote_reply_tells}
use Rattle.node_messages.proofs.preparing.prepare_higher.Goals as goal

pub returns-in-VoteReply-clause-told : goal.returns-in-VoteReply-clause-told
returns-in-VoteReply-clause-told g c =
    subst (λ (b : Body). IsPreparedFor (Ignored NotCandidate) true c.args.message.now.term (told c.args.next c.args.message.now.from c.args.message.now.term b) c.args.state.now.node c.args.state.now.node) (sym c.in-VoteReply.is)
    (vote_reply_tells c.args.next c.args.message.now.from c.args.message.now.term c.in-VoteReply.asked c.in-VoteReply.dry c.in-VoteReply.refused c.args.state.now.node)

pub returns-in-Report-clause-told : goal.returns-in-Report-clause-told
returns-in-Report-clause-told g c =
    subst (λ (b : Body). IsPreparedFor (Ignored NotPrimary) true c.args.message.now.term (told c.args.next c.args.message.now.from c.args.message.now.term b) c.args.state.now.node c.args.state.now.node) (sym c.in-Report.is)
    (report_tells c.args.next c.args.message.now.from c.args.message.now.term c.in-Report.config c.in-Report.durable c.args.state.now.node)

pub returns-in_default : goal.returns-in_default
returns-in_default g c = record {
  told = subst (λ (b : Bool). IfOk c.prepare.result (λ (t : MessageContinuation). IsPreparedFor t b c.args.message.now.term (told c.args.next c.args.message.now.from c.args.message.now.term c.args.message.now.body) c.args.state.now.node c.prepare.new.state.node))
      (is_higher c.args.state.now.node.term c.args.message.now.term c.requires.higher) c.prepare.ensures.told;
  ready = subst (λ (b : Bool). IfOk c.prepare.result (λ (t : MessageContinuation). IsReadyMessage t (view_in_term b c.args.message.now.term c.prepare.new.state)))
      (is_higher c.args.state.now.node.term c.args.message.now.term c.requires.higher) c.prepare.ensures.ready;
  err = c.prepare.ensures.err;
}
