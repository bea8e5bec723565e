use Rattle.std.proofs.Common.{◌∙◌, ◌≤◌, ap, subst, sym}
use Rattle.set_model.specs.Changes.{in_new_term}
use Rattle.set_model.specs.declared.records.Records.{Records}
use Rattle.set_model.specs.Stores.{records_after, stored}
use Rattle.node_data.specs.NodeData.{NodeData}
use Rattle.node_state.specs.StateView.{StateView}
use Rattle.node_state.proofs.Inside.{rest_in}
use Rattle.node_state.proofs.TermLemmas.{entered_is, state-entered}
use Rattle.node_state.proofs.state.State.enter_term.Goals as goal

pub invariant_of-self : goal.invariant_of-self
invariant_of-self c =
    rw c.new.ensures
    (state-entered c.self.inside.node_data.node c.follow.new.self.node (rest_in c.self.inside) c.with-self-inside.result.list c.args.term c.args.vote c.self.inside.unjournaled.optimes
    (ap (λ (d : NodeData). d.node) c.follow.ensures)
    (ap (λ (r : Records). r.list) c.with-self-inside.ensures ∙ ap (records_after c.self.inside.records.list) c.requires.item)
    (subst (λ (s : StateView). s.node.term ≤ c.args.term) (sym c.self.view_is) c.requires.above) c.requires.bound c.recall_sound.ensures.node c.requires.vote c.self.invariant)

pub returns-clause-node : goal.returns-clause-node
returns-clause-node c =
    entered_is c.self.inside.node_data.node c.follow.new.self.node (rest_in c.self.inside) c.new.result c.with-self-inside.result.list c.args.item.now c.args.term c.args.vote
    (ap (λ (d : NodeData). d.node) c.follow.ensures) c.new.ensures c.self.invariant.writable (ap (λ (r : Records). r.list) c.with-self-inside.ensures) c.requires.item
    ∙ ap (λ (s : StateView). in_new_term (stored s.node c.args.item.now) c.args.term c.args.vote) c.self.view_is
