-- Votes and tallies: what the crates that decide them answer for a node's values, and what the node answers.
use Rattle.std.specs.Prelude.{◌≡◌, ℕ, List}
use Rattle.vote_store.specs.Voting.{vote_for}
use Rattle.member_config.specs.declared.config.Config.{Config}
use Rattle.member_config.specs.Voters.{voters, majority}
use Rattle.repl_msg.specs.declared.message.VoteAsk.{VoteAsk}
use Rattle.election_core.specs.declared.voter.VoterView.{VoterView}
use Rattle.election_core.specs.Counting.{Tallied, with_yes, count_of}
use Rattle.election_core.specs.Voting.{decided, unless_refused}
use Rattle.set_model.specs.Node.{Node}
use Rattle.set_model.specs.Points.{last_point}
use Rattle.set_model.specs.Votes.{vote_refusal, with_vote}

-- what a node's decision depends on
abbrev pub voter_of : Node → VoterView
voter_of node =
    record {
      term = node.term;
      vote = node.vote;
      config_term = node.config.term;
      config_version = node.config.version;
      last = last_point node;
    }

-- `decide` refuses with the reason with which a node answers, and otherwise gives the vote for the
-- one who asks
abbrev pub VotesAgree : Type 0
VotesAgree =
    (node : Node) (from : ℕ) (ask : VoteAsk)
    → decided (voter_of node) from ask ≡ unless_refused (vote_refusal node ask) (vote_for ask.asked from)

-- a tally of a configuration's voters
abbrev pub tally_of : Config → List ℕ → Tallied
tally_of config voted = record { voters = voters config; yes = voted }

-- a `Tally` grows as a node's does, and needs the majority that the node needs
pub record TalliesAgree : Type 0 where
  pub grows : (config : Config) (voted : List ℕ) (from : ℕ)
      → with_yes (tally_of config voted) from ≡ tally_of config (with_vote config voted from)
  pub needed : (config : Config) (voted : List ℕ)
      → (count_of (tally_of config voted)).needed ≡ majority config
