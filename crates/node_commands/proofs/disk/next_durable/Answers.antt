use Rattle.std.proofs.Common.{◌<◌, ◌∙◌, ap, sym, length, arith}
use Rattle.oplog_entry.specs.Visible.{last_of}
use Rattle.set_model.specs.Disk.{next_durable, next_entries}
use Rattle.set_model.specs.Points.{earlier_of, visible_point}
use Rattle.node_state.specs.Seen.{seen_node}
use Rattle.node_state.specs.StateView.{StateView}
use Rattle.node_commands.proofs.FoundLemmas.{next_durable-long}
use Rattle.node_state.proofs.Inside.{rest_in}
use Rattle.node_commands.proofs.disk.next_durable.Goals as goal

pub returns : goal.returns
returns c =
    let s = c.state.inside in
    let more : 2000 < length c.state.inside.unjournaled.optimes = omega arith in
    c.earlier.ensures ∙ ap (λ o. earlier_of o c.last_optime.result) c.visible-visible.ensures
    ∙ ap (earlier_of (visible_point s.node_data.node)) (c.last_optime.ensures ∙ ap last_of c.requires ∙ sym (ap (λ (x : StateView). last_of (next_entries x.node)) c.state.view_is))
    ∙ sym (next_durable-long (seen_node s.node_data.node (rest_in s)) s.unjournaled.optimes c.state.invariant.coherent.unjournaled more)
    ∙ ap (λ (x : StateView). next_durable x.node) c.state.view_is
