use Rattle.std.proofs.Common.{◌≡◌, ◌∙◌, ap, sym, subst}
use Rattle.oplog_store.specs.Unjournaled.{Optimes, with_optime}
use Rattle.node_state.specs.Coherent.{IsState}
use Rattle.set_model.specs.Points.{next_optime}
use Rattle.node_state.specs.StateView.{StateView}
use Rattle.node_state.proofs.Inside.{rest_in}
use Rattle.node_data.specs.NodeData.{IsNext}
use Rattle.node_state.proofs.StateLemmas.{primary_data}
use Rattle.node_state.proofs.WrittenLemmas.{state-logged}
use Rattle.node_answers.proofs.write.write_admitted.Goals as goal

pub write-requires-clause-role : goal.write-requires-clause-role
write-requires-clause-role c =
    primary_data c.state.inside.node_data.node.role c.state.inside.role c.state.invariant.writable (ap (λ (x : StateView). x.node.role) c.state.view_is ∙ c.requires.role)

pub write-requires-clause-next : goal.write-requires-clause-next
write-requires-clause-next c = subst (λ (x : StateView). IsNext x.node.log x.node.slots x.node.seen c.next-at.result) (sym c.state.view_is) c.next-at.ensures.next

pub invariant_of-state-in-Entry : goal.invariant_of-state-in-Entry
invariant_of-state-in-Entry c =
    let s = c.state.inside in
    let optimes : c.add.new.self.optimes ≡ with_optime s.unjournaled.optimes c.next-at.result =
    ap (λ (u : Optimes). u.optimes) c.add.ensures ∙ ap (λ list. with_optime list c.next-at.result) c.reserve.ensures.optimes in
    subst (λ list. IsState c.write.new.self.node (rest_in s) list) (sym optimes)
    (state-logged s.node_data.node c.write.new.self.node (rest_in s) c.next-at.result c.in-Entry.op c.args.session s.unjournaled.optimes c.in_ok-write-in-Entry.ensures.ok
    (c.next-at.ensures.at ∙ ap (λ (x : StateView). next_optime x.node) (sym c.state.view_is))
    c.recall_sound.ensures.node c.recall_sound-in-Entry.ensures.node c.state.invariant)
