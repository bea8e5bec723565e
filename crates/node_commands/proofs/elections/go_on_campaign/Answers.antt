use Rattle.std.proofs.Common.{◌≡◌, ◌≤◌, ap, subst, arith, false, length}
use Rattle.set_model.specs.Elections.{candidate}
use Rattle.set_model.specs.Votes.{asks}
use Rattle.node_state.specs.Seen.{seen_node}
use Rattle.node_state.specs.StateView.{StateView}
use Rattle.node_state.proofs.Inside.{rest_in}
use Rattle.node_commands.proofs.VoterLemmas.{few_asked}
use Rattle.node_commands.proofs.elections.go_on_campaign.Goals as goal

pub overflow_cast-count : goal.overflow_cast-count
overflow_cast-count c =
    let long : c.len-count.result ≡ length c.args.sent.items = omega arith in
    let few : length (asks (candidate c.args.state.now.node) false) ≤ 50 =
    subst (λ (s : StateView). length (asks (candidate s.node) false) ≤ 50) c.state.view_is
    (few_asked (candidate (seen_node c.state.inside.node_data.node (rest_in c.state.inside))) false c.state.invariant.coherent.config) in
    let same : length c.args.sent.items ≡ length (asks (candidate c.args.state.now.node) false) = ap length c.requires.ready.sent_is in
    omega (arith, long, few, same)
