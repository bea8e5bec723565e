-- How many voters a node asks.
use Rattle.std.proofs.Common.{◌≡◌, ◌≤◌, arith, Bool, not, ◌==◌, filter, length}
use Rattle.std.proofs.lemmas.List.{length-map}
use Rattle.rs_optime.proofs.MembershipLemmas.{length-passed}
use Rattle.member_config.specs.Voters.{voters}
use Rattle.member_config.specs.declared.config.Member.{Member}
use Rattle.member_config.proofs.NumberLemmas.{length-in_order}
use Rattle.repl_msg.specs.declared.message.Body.TheVariants as bodies
use Rattle.set_model.specs.Node.{Node}
use Rattle.set_model.specs.Outcome.{message_to}
use Rattle.set_model.specs.Votes.{asks, ask_of, other_voters}

-- a node asks at most 50 others
pub few_asked : (node : Node) (dry : Bool) → length node.config.members ≤ 50 → length (asks node dry) ≤ 50
few_asked node dry members =
    let asked : length (asks node dry) ≡ length (other_voters node) = length-map (other_voters node) (λ voter. message_to node voter (bodies.VoteAsk (ask_of node dry))) in
    let ordered : length (other_voters node) ≡ length (filter (λ voter. not (voter == node.number)) (voters node.config)) = length-in_order _ in
    let others : length (filter (λ voter. not (voter == node.number)) (voters node.config)) ≤ length (voters node.config) = length-passed _ (voters node.config) in
    let named : length (voters node.config) ≡ length (filter (λ (m : Member). m.votes) node.config.members) = length-map (filter (λ (m : Member). m.votes) node.config.members) (λ (m : Member). m.number) in
    let voting : length (filter (λ (m : Member). m.votes) node.config.members) ≤ length node.config.members = length-passed (λ (m : Member). m.votes) node.config.members in
    omega (arith, asked, ordered, others, named, voting, members)
