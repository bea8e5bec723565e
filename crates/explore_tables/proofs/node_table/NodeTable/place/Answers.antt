use Rattle.std.proofs.Common.{◌≡◌, ◌∷◌, ◌++◌, [], arith, length, subst, ℕ}
use Rattle.explore_tables.specs.Alike.{HasAlike}
use Rattle.explore_tables.proofs.NodeLemmas.{alike_added}
use Rattle.explore_tables.proofs.node_table.NodeTable.place.Goals as goal

pub returns-clause-there : goal.returns-clause-there
returns-clause-there c =
    let place : length c.self.inside.nodes.items ≡ c.in_ok-number.number = omega (arith, c.in_ok-number.ensures.same, c.len.ensures) in
    rw c.in_ok-push.ensures.items
    (subst (λ (number : ℕ). HasAlike (c.self.inside.nodes.items ++ c.args.node ∷ []) number c.args.node) place (alike_added c.self.inside.nodes.items c.args.node))
