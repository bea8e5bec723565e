use Rattle.std.proofs.Common.{◌≡◌, ◌≤◌, ◌+◌, length, drop}
use Rattle.std.specs.Prelude.{filter}
use Rattle.member_config.specs.Voters.{voters_of}
use Rattle.repl_msg.specs.Configs.{has_config}
use Rattle.reconfig_core.proofs.counts.config_held.Given as goal

abbrev pub invariant-loop-member : goal.invariant-loop-member
invariant-loop-member l = record {
  counted : l.count + length (filter (has_config l.progress l.current l.own) (voters_of (drop l.member-index l.member-items)))
      ≡ length (filter (has_config l.progress l.current l.own) (voters_of l.member-items));
  within : l.count ≤ l.member-index;
}
