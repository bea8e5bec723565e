use Rattle.std.proofs.Common.{Bool, subst, sym}
use Rattle.set_model.specs.Deliver.{told}
use Rattle.set_model.specs.Stores.{Plan}
use Rattle.node_messages.specs.Ahead.{IsPreparedFor, view_in_term}
use Rattle.node_state.specs.Ready.{IsReadyMessage}
use Rattle.node_state.specs.Turns.{Means}
use Rattle.node_messages.proofs.TakenLemmas.{told_now}
use Rattle.node_messages.proofs.deliver.take_prepared.Goals as goal

pub tell-requires : goal.tell-requires
tell-requires g c = record { ready = subst (λ (b : Bool). IsReadyMessage c.in_ok-told.told (view_in_term b c.args.message.now.term c.prepare.new.state)) c.requires.known c.in_ok-told.ensures.ready }

pub returns-clause-turn : goal.returns-clause-turn
returns-clause-turn g c =
    subst (λ (p : Plan). Means c.tell.result c.tell.new.state.node p)
    (sym (told_now c.in_ok-told.told c.args.message.now.term (told c.args.next c.args.message.now.from c.args.message.now.term c.args.message.now.body) c.args.state.now.node c.prepare.new.state.node
    (subst (λ (b : Bool). IsPreparedFor c.in_ok-told.told b c.args.message.now.term (told c.args.next c.args.message.now.from c.args.message.now.term c.args.message.now.body) c.args.state.now.node c.prepare.new.state.node) c.requires.known c.in_ok-told.ensures.told)))
    c.tell.ensures.turn
