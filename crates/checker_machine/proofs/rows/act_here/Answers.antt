use Rattle.std.proofs.Common.{◌≡◌, true}
use Rattle.checker_machine.specs.Plain.{is_plain}
use Rattle.checker_machine.proofs.StepLemmas.{does_plainly, others_are_plain}
use Rattle.checker_machine.proofs.rows.act_here.Goals as goal

pub returns-in_ok-reply-in_default : goal.returns-in_ok-reply-in_default
returns-in_ok-reply-in_default c =
    let o = c.in_default in
    let plain : is_plain c.args.command.now ≡ true =
    others_are_plain c.args.command.now c.requires.only o.not-Campaign o.not-Drain o.not-DryRun o.not-Heartbeat o.not-Report o.not-Common o.not-Fetch o.not-Flush o.not-Checkpoint o.not-Reconfig in
    does_plainly c.args.nodes c.args.next c.args.node.now c.args.command.now c.args.failed.now c.in_ok-reply-in_default.reply c.replies.result c.act_plainly.new.node
    plain c.in_ok-reply-in_default.ensures c.replies.ensures
