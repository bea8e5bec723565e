use Rattle.std.proofs.Common.{◌≡◌, ◌<◌, subst, sym, None}
use Rattle.set_model.specs.Changes.{in_new_term}
use Rattle.set_model.specs.Deliver.{take_term, told}
use Rattle.set_model.specs.Node.{Node}
use Rattle.set_model.specs.Stores.{in_doubt, stored, storing}
use Rattle.set_model.specs.declared.store.Store.{Store}
use Rattle.node_state.specs.Ready.{CanBeStored}
use Rattle.node_state.specs.MessageContinuation.{message_plan}
use Rattle.node_messages.proofs.TakenLemmas.{taken_then}
use Rattle.node_messages.proofs.deliver.take_higher.Goals as goal

pub returns-clause-turn : goal.returns-clause-turn
returns-clause-turn g c =
    subst
    (λ (item : Store). take_term c.args.state.now.node c.args.message.now.term (told c.args.next c.args.message.now.from c.args.message.now.term c.args.message.now.body)
    ≡ storing (in_doubt c.prepare_higher.new.state.node item) (message_plan c.in_ok-told.told (in_new_term (stored c.prepare_higher.new.state.node item) c.args.message.now.term None)))
    (sym c.vote_record.ensures)
    (taken_then c.in_ok-told.told c.args.message.now.term (told c.args.next c.args.message.now.from c.args.message.now.term c.args.message.now.body) c.args.state.now.node c.prepare_higher.new.state.node c.in_ok-told.ensures.told)

pub returns-clause-ready : goal.returns-clause-ready
returns-clause-ready g c = (
  record {
    item_is = c.vote_record.ensures;
    above = subst (λ (n : Node). n.term < c.args.message.now.term) (sym c.in_ok-told.ensures.told.same) c.requires.higher;
    bound = c.requires.message.term;
    ready = c.in_ok-told.ensures.ready;
  },
  subst CanBeStored (sym c.vote_record.ensures) tt,
)
