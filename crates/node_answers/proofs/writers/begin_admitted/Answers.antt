use Rattle.std.proofs.Common.{◌∙◌, ap, subst, sym, None}
use Rattle.entry_bytes.specs.Sizes.{IsWithinEntry}
use Rattle.rs_optime.specs.declared.optime.OpTime.{OpTime}
use Rattle.node_answers.specs.Admits.{CanBeLogged}
use Rattle.set_model.specs.Points.{next_optime}
use Rattle.node_state.specs.StateView.{StateView}
use Rattle.node_state.proofs.Inside.{rest_in}
use Rattle.node_data.specs.NodeData.{IsNext}
use Rattle.node_state.proofs.StateLemmas.{primary_data}
use Rattle.node_state.proofs.WrittenLemmas.{state-opened}
use Rattle.node_answers.proofs.writers.begin_admitted.Goals as goal

pub open-requires-clause-role : goal.open-requires-clause-role
open-requires-clause-role c =
    primary_data c.state.inside.node_data.node.role c.state.inside.role c.state.invariant.writable (ap (λ (x : StateView). x.node.role) c.state.view_is ∙ c.requires.role)

pub open-requires-clause-next : goal.open-requires-clause-next
open-requires-clause-next c = subst (λ (x : StateView). IsNext x.node.log x.node.slots x.node.seen c.next-at.result) (sym c.state.view_is) c.next-at.ensures.next

pub open-requires-clause-within : goal.open-requires-clause-within
open-requires-clause-within c =
    let can = subst (CanBeLogged c.args.state.now.node (c.args.admission.ns, c.args.admission.id)) c.in-Entry.is c.requires.can in
    subst (λ (o : OpTime). IsWithinEntry (record { optime = o; op = c.in-Entry.op; session = None })) (sym c.next-at.ensures.at) (can.4 None)

pub invariant_of-state-in-Entry : goal.invariant_of-state-in-Entry
invariant_of-state-in-Entry c =
    let s = c.state.inside in
    state-opened s.node_data.node c.open.new.self.node (rest_in s) c.next-at.result c.args.writer c.in-Entry.op s.unjournaled.optimes c.in_ok-open-in-Entry.ensures.ok
    (c.next-at.ensures.at ∙ ap (λ (x : StateView). next_optime x.node) (sym c.state.view_is))
    c.recall_sound.ensures.node c.state.invariant
