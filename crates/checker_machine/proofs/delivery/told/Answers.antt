use Rattle.checker_machine.proofs.StepLemmas.{does_told}
use Rattle.checker_machine.proofs.delivery.told.Goals as goal

pub returns-in_default : goal.returns-in_default
returns-in_default c =
    let o = c.in_default in
    let m = c.args.message.now in
    does_told c.args.next m.from m.term c.args.node.now c.told_plainly.new.node m.body c.args.failed.now c.told_plainly.result
    o.not-Fetch o.not-VoteAsk o.not-Heartbeat o.not-HeartbeatReply o.not-CommonAsk o.not-CommonReply c.told_plainly.ensures
