-- Heartbeats and reports, in the steps that the code takes.
use Rattle.std.specs.Prelude.{ℕ, ◌==◌, Bool, true, false, not, ◌&&◌, nat_lt, Option, None, Some, if◌then◌else◌}
use Rattle.rs_optime.specs.declared.optime.OpTime.{OpTime}
use Rattle.member_config.specs.Config.{is_newer}
use Rattle.member_config.specs.Voters.{is_member}
use Rattle.member_config.specs.declared.config.Config.{Config}
use Rattle.repl_msg.specs.declared.message.Beat.{Beat}
use Rattle.set_model.specs.declared.reply.Ignored.{Ignored}
use Rattle.set_model.specs.declared.reply.Ignored.TheVariants.{OldTerm, NotPrimary, NotMember}
use Rattle.set_model.specs.Beats.{given_way}
use Rattle.set_model.specs.Node.{Node}
use Rattle.set_model.specs.Points.{commit_after, last_point, visible_point}
use Rattle.set_model.specs.Roles.{is_primary, is_secondary}
use Rattle.node_state.specs.declared.turn.Answer.{Answer}
use Rattle.node_state.specs.declared.turn.MessageContinuation.{MessageContinuation}
use Rattle.node_state.specs.declared.turn.MessageContinuation.TheVariants.{Heard}
use Rattle.node_state.specs.declared.turn.NewConfig.{NewConfig}

-- a node installs the newer configuration of a heartbeat, once it has given way to a primary
abbrev pub installs : Node → Beat → Bool
installs node beat = is_secondary (given_way node beat).role && is_newer beat.config node.config

-- a newer configuration, where the node installs it
abbrev pub newer : Bool → Config → Option NewConfig
newer true config = Some (record { journaled = config; installed = config })
newer false config = None

-- what a heartbeat tells of its sender
abbrev pub told_of : ℕ → Beat → Bool → Option Answer → MessageContinuation
told_of from beat installs answer =
    Heard (newer installs beat.config)
    (record {
      from = from;
      visible = beat.visible;
      primary = beat.primary;
      commit = beat.commit;
      answer = answer;
    })

-- the commit point after another one is heard of: a node that isn't primary learns one of the term of its
-- last entry
abbrev pub commit_learnt : Node → OpTime → OpTime
commit_learnt node heard =
    if not (is_primary node.role) && heard.term == (last_point node).term then commit_after node heard
    else node.commit

-- the node's state after it heard one
abbrev pub beat_after : Node → Beat → Beat
beat_after node beat =
    record {
      config = if installs node beat then beat.config else node.config;
      commit = commit_learnt node beat.commit;
      visible = visible_point node;
      primary = is_primary node.role;
    }

-- why a report isn't counted: the first reason that holds
abbrev pub report_ignored : Node → ℕ → ℕ → Option Ignored
report_ignored node from term =
    if nat_lt term node.term then Some OldTerm
    else if not (is_primary node.role) then Some NotPrimary
    else if not (is_member node.config from) then Some NotMember
    else None
