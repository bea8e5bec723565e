-- Why a primary doesn't take a configuration (MongoDB manual, reconfiguration; MongoRaftReconfig).
use Rattle.std.specs.Prelude.{ℕ, ◌==◌, not, ◌&&◌, nat_lt, nat_le, Option, None, Some, if◌then◌else◌}
use Rattle.rs_optime.specs.declared.optime.OpTime.{OpTime}
use Rattle.member_config.specs.declared.config.Config.{Config}
use Rattle.member_config.specs.Rule.{rule}
use Rattle.member_config.specs.Voters.{voters, majority, is_voter, is_electable_in, is_one_voter_apart, unknown_member}
use Rattle.repl_msg.specs.Configs.{config_held}
use Rattle.repl_msg.specs.Points.{Reports, held}
use Rattle.reconfig_core.specs.declared.refusal.ConfigRefusal.{ConfigRefusal}
use Rattle.reconfig_core.specs.declared.refusal.ConfigRefusal.TheVariants.{WrongVersion, ConfigRule, PrimaryNotMember, TwoVoters, ConfigNotCommitted, TermNotCommitted, OplogNotCommitted, UnknownMember}

-- what the current configuration lacks: a majority of its voters has to have it, the commit point has to be
-- of the term, and a majority has to have reached that
abbrev pub committed_refusal : Config → (own term : ℕ) → Reports
    → (durable commit : OpTime) → Option ConfigRefusal
committed_refusal current own term reports durable commit =
    if nat_lt (config_held reports current own) (majority current)
    then Some (ConfigNotCommitted (config_held reports current own) (majority current))
    else if not (commit.term == term) then Some (TermNotCommitted commit)
    else if nat_lt (held reports own durable commit (voters current)) (majority current)
    then Some (OplogNotCommitted (held reports own durable commit (voters current)) (majority current))
    else None

-- what the new one lacks, compared with the current one
abbrev pub change_refusal : (current new : Config) → (own : ℕ) → Option ConfigRefusal
change_refusal current new own =
    if nat_le new.version current.version then Some WrongVersion
    else if not (is_voter new own && is_electable_in new own) then Some PrimaryNotMember
    else if not (is_one_voter_apart current new) then Some TwoVoters
    else None

-- ---- the first that holds

abbrev pub or_else : Option ConfigRefusal → Option ConfigRefusal → Option ConfigRefusal
or_else (Some why) other = Some why
or_else None other = other

abbrev pub unless_unknown : Option ℕ → Option ConfigRefusal → Option ConfigRefusal
unless_unknown (Some number) other = Some (UnknownMember number)
unless_unknown None other = other

abbrev pub unless_broken : Option ℕ → Option ConfigRefusal → Option ConfigRefusal
unless_broken (Some broken) other = Some (ConfigRule broken)
unless_broken None other = other

-- a broken rule, an unknown member, what the new one lacks, what the current one lacks
abbrev pub refusal : (current new : Config) → (own nodes term : ℕ) → Reports
    → (durable commit : OpTime) → Option ConfigRefusal
refusal current new own nodes term reports durable commit =
    unless_broken (rule new) (unless_unknown (unknown_member nodes new)
    (or_else (change_refusal current new own) (committed_refusal current own term reports durable commit)))
