use Rattle.std.proofs.Common.{◌≡◌, ◌∙◌, Bool, ap, arith, false, nat_lt, sym, true}
use Rattle.std.proofs.lemmas.Bool.Decides.{nat_tests}
use Rattle.set_model.specs.Points.{visible_point}
use Rattle.node_messages.specs.Ahead.{taking}
use Rattle.node_messages.proofs.ForeseenLemmas.{visible_raised}
use Rattle.checker_node.proofs.node.Node.visible_in.Goals as goal

pub returns-then-self-term : goal.returns-then-self-term
returns-then-self-term c =
    let node = c.args.self.now in
    let higher : nat_lt node.term c.args.term ≡ true = grind (arith, nat_tests) in
    c.last_point.ensures ∙ visible_raised (nat_lt node.term c.args.term) c.args.term node higher

pub returns : goal.returns
returns c =
    let node = c.args.self.now in
    let own : nat_lt node.term c.args.term ≡ false = grind (arith, nat_tests) in
    c.visible_point.ensures ∙ ap (λ (b : Bool). visible_point (taking b c.args.term node)) (sym own)
