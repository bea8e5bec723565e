use Rattle.std.proofs.Common.{◌≡◌, ◌≤◌, ap, arith, length, subst, sym, true}
use Rattle.set_model.specs.Node.{Node}
use Rattle.set_model.specs.Votes.{asks}
use Rattle.checker_node.specs.contracts.node.Node.{the_view}
use Rattle.checker_node.proofs.VoterLemmas.{few_asked}
use Rattle.checker_node.proofs.node.Node.dry_run.Goals as goal

pub overflow_cast-reply : goal.overflow_cast-reply
overflow_cast-reply c =
    let long : c.len.result ≡ length c.in_ok-sent.sent.items = omega arith in
    let few : length (asks (the_view c.self.inside) true) ≤ 50 = few_asked (the_view c.self.inside) true (subst (λ (n : Node). length n.config.members ≤ 50) (sym c.self.view_is) c.requires) in
    let same : length c.in_ok-sent.sent.items ≡ length (asks (the_view c.self.inside) true) = ap length c.in_ok-sent.ensures in
    omega (arith, long, few, same)
