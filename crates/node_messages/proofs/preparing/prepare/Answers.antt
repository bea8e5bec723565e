use Rattle.std.proofs.Common.{sym, subst, nat_lt, IfOk}
use Rattle.repl_msg.specs.declared.message.Body.{Body}
use Rattle.set_model.specs.Deliver.{told}
use Rattle.node_messages.specs.Ahead.{IsPreparedFor}
use Rattle.node_state.specs.declared.turn.MessageContinuation.{MessageContinuation}
use Rattle.node_messages.proofs.BodyLemmas.{common_of}
use Rattle.node_messages.proofs.TakenLemmas.{told_same}
use Rattle.node_messages.proofs.preparing.prepare.Goals as goal

pub prepare_common_told-requires-clause-common : goal.prepare_common_told-requires-clause-common
prepare_common_told-requires-clause-common g c κs within =
    common_of c.args.state.now.node c.args.message.now c.in-CommonReply.after c.in-CommonReply.optimes c.in-CommonReply.visible c.requires.message c.in-CommonReply.is

pub returns-in_ok-make_place-in-Heartbeat-clause-told : goal.returns-in_ok-make_place-in-Heartbeat-clause-told
returns-in_ok-make_place-in-Heartbeat-clause-told g c =
    subst
    (λ (b : Body). IfOk c.prepare_beat.result (λ (t : MessageContinuation). IsPreparedFor t (nat_lt c.args.state.now.node.term c.args.message.now.term) c.args.message.now.term (told c.args.next c.args.message.now.from c.args.message.now.term b) c.args.state.now.node c.make_place.new.state.node))
    (sym c.in-Heartbeat.is)
    (told_same c.prepare_beat.result c.args.message.now.term _ c.args.state.now.node c.make_place.new.state.node c.make_place.ensures.node c.prepare_beat.ensures.told)

pub returns-in_ok-make_place-in-HeartbeatReply-clause-told : goal.returns-in_ok-make_place-in-HeartbeatReply-clause-told
returns-in_ok-make_place-in-HeartbeatReply-clause-told g c =
    subst
    (λ (b : Body). IfOk c.prepare_answer.result (λ (t : MessageContinuation). IsPreparedFor t (nat_lt c.args.state.now.node.term c.args.message.now.term) c.args.message.now.term (told c.args.next c.args.message.now.from c.args.message.now.term b) c.args.state.now.node c.make_place-in-HeartbeatReply.new.state.node))
    (sym c.in-HeartbeatReply.is)
    (told_same c.prepare_answer.result c.args.message.now.term _ c.args.state.now.node c.make_place-in-HeartbeatReply.new.state.node c.make_place-in-HeartbeatReply.ensures.node c.prepare_answer.ensures.told)
