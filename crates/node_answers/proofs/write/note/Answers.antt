use Rattle.std.proofs.Common.{◌≡◌, ◌∙◌, ap, sym, subst, None, rules}
use Rattle.oplog_entry.specs.declared.entry.Op.TheVariants.{Note}
use Rattle.oplog_store.specs.Unjournaled.{Optimes, with_optime}
use Rattle.set_model.specs.declared.role.Role.TheVariants.{Primary}
use Rattle.node_state.specs.Coherent.{IsState}
use Rattle.set_model.specs.Points.{next_optime}
use Rattle.node_state.specs.StateView.{StateView}
use Rattle.node_state.proofs.Inside.{rest_in}
use Rattle.node_data.specs.NodeData.{IsNext}
use Rattle.node_state.proofs.StateLemmas.{primary_data}
use Rattle.node_state.proofs.WrittenLemmas.{state-logged}
use Rattle.node_answers.proofs.write.note.Goals as goal

pub write_note-requires-clause-role : goal.write_note-requires-clause-role
write_note-requires-clause-role c =
    let primary : c.state.inside.role ≡ Primary = search rules in primary_data c.state.inside.node_data.node.role c.state.inside.role c.state.invariant.writable primary

pub write_note-requires-clause-next : goal.write_note-requires-clause-next
write_note-requires-clause-next c = subst (λ (x : StateView). IsNext x.node.log x.node.slots x.node.seen c.next-at.result) (sym c.state.view_is) c.next-at.ensures.next

pub invariant_of-state-2 : goal.invariant_of-state-2
invariant_of-state-2 c =
    let s = c.state.inside in
    let optimes : c.add.new.self.optimes ≡ with_optime s.unjournaled.optimes c.next-at.result =
    ap (λ (u : Optimes). u.optimes) c.add.ensures ∙ ap (λ list. with_optime list c.next-at.result) c.reserve.ensures.optimes in
    subst (λ list. IsState c.write_note.new.self.node (rest_in s) list) (sym optimes)
    (state-logged s.node_data.node c.write_note.new.self.node (rest_in s) c.next-at.result Note None s.unjournaled.optimes c.in_ok-write_note.ensures.ok
    (c.next-at.ensures.at ∙ ap (λ (x : StateView). next_optime x.node) (sym c.state.view_is))
    c.recall_sound.ensures.node c.recall_sound-2.ensures.node c.state.invariant)
