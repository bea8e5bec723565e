-- Which answers to a fetch a node ignores.
use Rattle.std.specs.Prelude.{not, Option, None, Some, if◌then◌else◌}
use Rattle.rs_optime.specs.declared.optime.OpTime.{OpTime}
use Rattle.repl_msg.specs.Fetching.{continues}
use Rattle.repl_msg.specs.declared.message.FetchReply.{FetchReply}
use Rattle.set_model.specs.Roles.{is_secondary}
use Rattle.set_model.specs.declared.reply.Ignored.{Ignored}
use Rattle.set_model.specs.declared.reply.Ignored.TheVariants.{NotSecondary, OtherPlace}
use Rattle.set_model.specs.declared.role.Role.{Role}

-- a secondary ignores those that don't go on where its log ends, and any other node ignores all
abbrev pub ignored_for : Role → (last : OpTime) → FetchReply → Option Ignored
ignored_for role last reply =
    if not (is_secondary role) then Some NotSecondary
    else if not (continues last reply) then Some OtherPlace
    else None
