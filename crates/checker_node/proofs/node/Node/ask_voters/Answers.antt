use Rattle.std.proofs.Common.{◌≡◌, ◌≤◌, ap, arith, false, length}
use Rattle.set_model.specs.Votes.{asks}
use Rattle.checker_node.proofs.VoterLemmas.{few_asked}
use Rattle.checker_node.proofs.node.Node.ask_voters.Goals as goal

pub overflow_cast-reply : goal.overflow_cast-reply
overflow_cast-reply c =
    let long : c.len.result ≡ length c.in_ok-sent.sent.items = omega arith in
    let few : length (asks c.args.self.now false) ≤ 50 = few_asked c.args.self.now false c.requires in
    let same : length c.in_ok-sent.sent.items ≡ length (asks c.args.self.now false) = ap length c.in_ok-sent.ensures in
    omega (arith, long, few, same)
