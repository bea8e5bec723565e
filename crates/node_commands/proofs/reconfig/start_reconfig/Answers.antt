use Rattle.std.proofs.Common.{◌∙◌, ap}
use Rattle.member_config.specs.Config.{in_term}
use Rattle.node_state.specs.StateView.{StateView}
use Rattle.node_state.proofs.ChangeLemmas.{change_ready}
use Rattle.node_commands.proofs.reconfig.start_reconfig.Goals as goal

pub returns-clause-ready : goal.returns-clause-ready
returns-clause-ready c =
    change_ready c.args.nodes c.args.state.now c.args.config.now c.in_ok-config.config c.in_ok-copy.field-0 c.in_default.ensures
    (c.in_ok-config.ensures ∙ ap (λ (x : StateView). in_term c.args.config.now x.node.term) c.state.view_is)
    c.in_ok-copy.ensures
