use Rattle.std.proofs.Common.{◌≡◌, ◌∙◌, ap, subst, IfOk}
use Rattle.set_model.specs.Disk.{next_entries}
use Rattle.node_commands.specs.Flushing.{entries_at}
use Rattle.node_state.specs.Seen.{seen_node}
use Rattle.node_state.specs.StateView.{StateView}
use Rattle.node_commands.proofs.FoundLemmas.{next_entries-at}
use Rattle.node_state.proofs.Inside.{rest_in}
use Rattle.node_commands.proofs.disk.next_entries.Goals as goal

pub returns-clause-list : goal.returns-clause-list
returns-clause-list c =
    let s = c.state.inside in
    let found : entries_at s.node_data.node.log c.deref.result.now ≡ next_entries c.args.state.now.node =
    ap (entries_at s.node_data.node.log) (c.deref.ensures.value ∙ c.in_ok-optimes.ensures.first)
    ∙ next_entries-at (seen_node s.node_data.node (rest_in s)) s.unjournaled.optimes c.recall_sound.ensures.node.oplog c.state.invariant.coherent.unjournaled
    ∙ ap (λ (x : StateView). next_entries x.node) c.state.view_is in
    subst (λ xs. IfOk c.copies_at.result (λ list. list ≡ xs)) found c.copies_at.ensures
