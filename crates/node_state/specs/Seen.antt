-- A node in memory, as contracts see it.
use Rattle.std.specs.Prelude.{ℕ, true, List, [], Option, None, Some}
use Rattle.std.specs.Ordering.{nat_cmp}
use Rattle.std.specs.FinMap as maps
use Rattle.bson_doc.specs.Place.{Place}
use Rattle.bson_doc.specs.Tree.{Fields}
use Rattle.rs_optime.specs.declared.optime.OpTime.{OpTime}
use Rattle.member_config.specs.declared.config.Config.{Config}
use Rattle.election_core.specs.Counting.{Tallied}
use Rattle.repl_msg.specs.declared.record.Record.{Record}
use Rattle.set_model.specs.Node.{Node, DryTally, Report, Heard}
use Rattle.set_model.specs.declared.role.Role.{Role}

-- those who voted for the candidate
abbrev pub yes_of : Option Tallied → List ℕ
yes_of None = []
yes_of (Some tally) = tally.yes

-- besides the log and what depends on it
pub record BesideData : Type 0 where
  pub number : ℕ
  pub first : Config
  pub role : Role
  pub term : ℕ
  pub clock : ℕ
  pub vote : Option ℕ
  pub records : List Record
  pub durable : OpTime
  pub commit : OpTime
  pub config : Config
  pub progress : maps.FinMap nat_cmp Report
  pub known : maps.FinMap nat_cmp Heard
  pub tally : Option Tallied
  pub dry_tally : Option DryTally
  pub lost : List (Place × Option Fields)
  pub rollback : ℕ

-- the node with this data. It is up.
abbrev pub seen_node : Node → BesideData → Node
seen_node node_data rest =
    record node_data {
      number = rest.number;
      up = true;
      doubt = None;
      first = rest.first;
      role = rest.role;
      term = rest.term;
      clock = rest.clock;
      vote = rest.vote;
      records = rest.records;
      durable = rest.durable;
      commit = rest.commit;
      config = rest.config;
      progress = rest.progress;
      known = rest.known;
      tally = yes_of rest.tally;
      dry_tally = rest.dry_tally;
      lost = rest.lost;
      rollback = rest.rollback;
    }
