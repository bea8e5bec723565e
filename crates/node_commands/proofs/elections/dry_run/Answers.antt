use Rattle.std.proofs.Common.{◌≡◌, ◌≤◌, ap, subst, arith, true, None, length}
use Rattle.member_config.specs.Rule.{rule}
use Rattle.set_model.specs.Votes.{asks}
use Rattle.node_state.specs.StateView.{StateView}
use Rattle.node_commands.proofs.VoterLemmas.{few_asked}
use Rattle.node_commands.proofs.elections.dry_run.Goals as goal

pub overflow_cast-count : goal.overflow_cast-count
overflow_cast-count c =
    let long : c.len-count.result ≡ length c.in_ok-sent.sent.items = omega arith in
    let lawful : rule c.args.state.now.node.config ≡ None = subst (λ (s : StateView). rule s.node.config ≡ None) c.state.view_is c.state.invariant.coherent.config in
    let few : length (asks (record c.args.state.now.node { term = c.state.inside.term }) true) ≤ 50 = few_asked (record c.args.state.now.node { term = c.state.inside.term }) true lawful in
    let same : length c.in_ok-sent.sent.items ≡ length (asks (record c.args.state.now.node { term = c.state.inside.term }) true) = ap length c.in_ok-sent.ensures in
    omega (arith, long, few, same)
