-- Commit points and configurations: what the crates that decide them answer for a node's values, and what
-- the node answers.
use Rattle.std.specs.Prelude.{◌≡◌, ℕ, not, Option, Some, if◌then◌else◌}
use Rattle.std.specs.Option.{option_map}
use Rattle.rs_optime.specs.declared.optime.OpTime.{OpTime}
use Rattle.member_config.specs.declared.config.Config.{Config}
use Rattle.repl_msg.specs.Points.{advanced, commit_after}
use Rattle.reconfig_core.specs.declared.refusal.ConfigRefusal.{ConfigRefusal}
use Rattle.reconfig_core.specs.declared.refusal.ConfigRefusal.TheVariants as part
use Rattle.reconfig_core.specs.Reconfig as reconfig
use Rattle.set_model.specs.declared.reply.Refusal.{Refusal}
use Rattle.set_model.specs.declared.reply.Refusal.TheVariants as row
use Rattle.set_model.specs.Node.{Node}
use Rattle.set_model.specs.Roles.{is_primary, if_primary}
use Rattle.set_model.specs.Points.{evaluated, learnt}
use Rattle.set_model.specs.Reconfig.{reconfig_refusal}

-- ---- commit points

-- `advance` is where a primary's commit point goes, and `learn` is where another node's goes when it hears of
-- one
pub record PointsAgree : Type 0 where
  pub advances : (node : Node) → (evaluated node).commit ≡ if_primary node.role
      (advanced node.progress node.config node.term node.number node.durable node.commit) node.commit
  pub learns : (node : Node) (heard : OpTime)
      → (learnt node heard).commit ≡ commit_after node.commit heard node.durable

-- ---- configurations

abbrev pub refusal_of : ConfigRefusal → Refusal
refusal_of part.WrongVersion = row.WrongVersion
refusal_of (part.ConfigRule rule) = row.ConfigRule rule
refusal_of part.PrimaryNotMember = row.PrimaryNotMember
refusal_of part.TwoVoters = row.TwoVoters
refusal_of (part.ConfigNotCommitted count needed) = row.ConfigNotCommitted count needed
refusal_of (part.TermNotCommitted commit) = row.TermNotCommitted commit
refusal_of (part.OplogNotCommitted count needed) = row.OplogNotCommitted count needed
refusal_of (part.UnknownMember number) = row.UnknownMember number

-- what `check` refuses, given a node's values
abbrev pub checked : ℕ → Node → Config → Option ConfigRefusal
checked nodes node config =
    reconfig.refusal node.config config node.number nodes node.term node.progress node.durable node.commit

-- a primary refuses a configuration as `check` does
abbrev pub ReconfigsAgree : Type 0
ReconfigsAgree =
    (nodes : ℕ) (node : Node) (config : Config)
    → (if not (is_primary node.role) then Some row.NotPrimary
    else option_map refusal_of (checked nodes node config))
    ≡ reconfig_refusal nodes node config
