use Rattle.std.proofs.Common.{◌∙◌, ap, sym}
use Rattle.repl_msg.specs.Logs.{has_entry}
use Rattle.node_state.specs.StateView.{StateView}
use Rattle.node_commands.proofs.FoundLemmas.{has_looked_up}
use Rattle.node_commands.proofs.concerns.has.Goals as goal

pub returns : goal.returns
returns c =
    c.is_some.ensures
    ∙ sym (has_looked_up c.entry_at.result (λ x. x.now) c.state.inside.node_data.node.log c.args.at c.entry_at.ensures.found c.entry_at.ensures.none)
    ∙ ap (λ (s : StateView). has_entry s.node.log c.args.at) c.state.view_is
