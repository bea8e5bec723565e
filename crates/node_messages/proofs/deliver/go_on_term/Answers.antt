use Rattle.node_messages.proofs.TakenLemmas.{ready_entered}
use Rattle.node_messages.proofs.deliver.go_on_term.Goals as goal

pub tell-requires : goal.tell-requires
tell-requires c = record { ready = ready_entered c.args.told c.args.item.now c.args.term c.args.state.now c.enter_term.new.self c.requires.ready.item_is c.enter_term.ensures.node c.enter_term.ensures.spare c.enter_term.ensures.places c.requires.ready.ready }
