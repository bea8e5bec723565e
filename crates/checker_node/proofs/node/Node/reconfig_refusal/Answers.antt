use Rattle.std.proofs.Common.{◌≡◌, ◌∙◌, ap, None, Some, rules}
use Rattle.set_model.specs.Node.{Node}
use Rattle.set_model.specs.Reconfig.{reconfig_refusal}
use Rattle.set_model.specs.declared.role.Role.TheVariants.{Primary}
use Rattle.part_laws.specs.Points.{checked}
use Rattle.node_state.proofs.ChangeLemmas.{refused_as}
use Rattle.checker_node.specs.contracts.node.Node.{the_view}
use Rattle.checker_node.proofs.node.Node.reconfig_refusal.Goals as goal

pub returns-in-Ok : goal.returns-in-Ok
returns-in-Ok c =
    let node : Node = the_view c.self.inside in
    let primary : node.role ≡ Primary = search rules in
    let is : checked c.args.nodes node c.args.config.now ≡ None = c.in-Ok.ensures.ok in
    refused_as c.args.nodes node c.args.config.now None primary is ∙ ap (λ (n : Node). reconfig_refusal c.args.nodes n c.args.config.now) c.self.view_is

pub returns-in-Err : goal.returns-in-Err
returns-in-Err c =
    let node : Node = the_view c.self.inside in
    let primary : node.role ≡ Primary = search rules in
    let is : checked c.args.nodes node c.args.config.now ≡ Some c.in-Err.why = c.in-Err.ensures.err in
    ap (λ why. Some why) c.refusal_of.ensures
    ∙ refused_as c.args.nodes node c.args.config.now (Some c.in-Err.why) primary is ∙ ap (λ (n : Node). reconfig_refusal c.args.nodes n c.args.config.now) c.self.view_is
