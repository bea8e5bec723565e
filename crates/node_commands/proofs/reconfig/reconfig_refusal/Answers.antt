use Rattle.std.proofs.Common.{◌≡◌, ◌∙◌, ap, None, Some, rules}
use Rattle.set_model.specs.Node.{Node}
use Rattle.set_model.specs.Reconfig.{reconfig_refusal}
use Rattle.set_model.specs.declared.role.Role.TheVariants.{Primary}
use Rattle.node_state.specs.Seen.{seen_node}
use Rattle.node_state.specs.StateView.{StateView}
use Rattle.part_laws.specs.Points.{checked}
use Rattle.node_state.proofs.ChangeLemmas.{refused_as}
use Rattle.node_state.proofs.Inside.{rest_in}
use Rattle.node_commands.proofs.VoterLemmas.{few_members}
use Rattle.node_commands.proofs.reconfig.reconfig_refusal.Goals as goal

pub check-requires : goal.check-requires
check-requires c = few_members c.state.inside.config c.state.invariant.coherent.config

pub returns-in-Ok : goal.returns-in-Ok
returns-in-Ok c =
    let s = c.state.inside in
    let node : Node = seen_node s.node_data.node (rest_in s) in
    let primary : s.role ≡ Primary = search rules in
    let is : checked c.args.nodes node c.args.config.now ≡ None =
    c.in-Ok.ensures.ok in
    refused_as c.args.nodes node c.args.config.now None primary is ∙ ap (λ (x : StateView). reconfig_refusal c.args.nodes x.node c.args.config.now) c.state.view_is

pub returns-in-Err : goal.returns-in-Err
returns-in-Err c =
    let s = c.state.inside in
    let node : Node = seen_node s.node_data.node (rest_in s) in
    let primary : s.role ≡ Primary = search rules in
    let is : checked c.args.nodes node c.args.config.now ≡ Some c.in-Err.why =
    c.in-Err.ensures.err in
    ap (λ why. Some why) c.refusal_of.ensures
    ∙ refused_as c.args.nodes node c.args.config.now (Some c.in-Err.why) primary is ∙ ap (λ (x : StateView). reconfig_refusal c.args.nodes x.node c.args.config.now) c.state.view_is
