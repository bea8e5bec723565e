-- How many voters a node has, and how many it asks.
use Rattle.std.proofs.Common.{◌≡◌, ◌≤◌, refl, arith, ℕ, Bool, true, false, not, ◌||◌, ◌==◌, filter, length, None}
use Rattle.std.proofs.lemmas.Bool.Decides.{nat_tests}
use Rattle.std.proofs.lemmas.List.{length-map}
use Rattle.std.specs.Prelude.{nat_lt}
use Rattle.rs_optime.proofs.MembershipLemmas.{length-passed}
use Rattle.member_config.specs.Rule.{rule, has_wrong_count}
use Rattle.member_config.specs.Voters.{voters}
use Rattle.member_config.specs.declared.config.Config.{Config}
use Rattle.member_config.specs.declared.config.Member.{Member}
use Rattle.member_config.proofs.NumberLemmas.{length-in_order}
use Rattle.repl_msg.specs.declared.message.Body.TheVariants as bodies
use Rattle.set_model.specs.Node.{Node}
use Rattle.set_model.specs.Outcome.{message_to}
use Rattle.set_model.specs.Votes.{asks, ask_of, other_voters}

few_counted : (count : ℕ) → (count == 0 || nat_lt 50 count) ≡ false → count ≤ 50
few_counted count right = grind (arith, nat_tests)

-- a configuration that breaks no rule has at most 50 members
pub few_members : (config : Config) → rule config ≡ None → length config.members ≤ 50
few_members config lawful = go (has_wrong_count config) refl
  where
    go : (b : Bool) → has_wrong_count config ≡ b → length config.members ≤ 50
    go true wrong = absurd (cc (wrong, lawful))
    go false right = few_counted (length config.members) right

-- a node asks at most 50 others
pub few_asked : (node : Node) (dry : Bool) → rule node.config ≡ None → length (asks node dry) ≤ 50
few_asked node dry lawful =
    let asked : length (asks node dry) ≡ length (other_voters node) = length-map (other_voters node) (λ voter. message_to node voter (bodies.VoteAsk (ask_of node dry))) in
    let ordered : length (other_voters node) ≡ length (filter (λ voter. not (voter == node.number)) (voters node.config)) = length-in_order _ in
    let others : length (filter (λ voter. not (voter == node.number)) (voters node.config)) ≤ length (voters node.config) = length-passed _ (voters node.config) in
    let named : length (voters node.config) ≡ length (filter (λ (m : Member). m.votes) node.config.members) = length-map (filter (λ (m : Member). m.votes) node.config.members) (λ (m : Member). m.number) in
    let voting : length (filter (λ (m : Member). m.votes) node.config.members) ≤ length node.config.members = length-passed (λ (m : Member). m.votes) node.config.members in
    let members : length node.config.members ≤ 50 = few_members node.config lawful in
    omega (arith, asked, ordered, others, named, voting, members)
