use Rattle.std.proofs.Common.{◌≡◌, ◌∙◌, ◌≤◌, ◌+◌, ◌*◌, ◌∷◌, ap, sym, rules, arith, length, vec_len, vec_capacity}
use Rattle.set_world.proofs.NodesLemmas.{last_back, none_left}
use Rattle.set_world.proofs.opening.give_back.Goals as goal

pub loop-node-preserved : goal.loop-node-preserved
loop-node-preserved g c =
    let fewer : vec_len c.pop.new.self + 1 ≡ vec_len c.loop-node.nodes = c.in-Some.ensures.cases in
    let room : 2 * vec_len c.loop-node.nodes + vec_len c.loop-node.disks ≤ vec_capacity c.loop-node.disks = c.loop-node.invariant.1 in
    let one : vec_len c.put_first.new.disks ≡ vec_len c.loop-node.disks + 1 = c.put_first.ensures.len in
    let two : vec_len c.put_first-in-Some.new.disks ≡ vec_len c.put_first.new.disks + 1 = c.put_first-in-Some.ensures.len in
    let wide : vec_capacity c.put_first.new.disks ≡ vec_capacity c.loop-node.disks = c.put_first.ensures.capacity in
    let wide_too : vec_capacity c.put_first-in-Some.new.disks ≡ vec_capacity c.put_first.new.disks = c.put_first-in-Some.ensures.capacity in
    let all = c.loop-node.invariant.2 in (
      last_back c.loop-node.nodes.items c.pop.new.self.items c.in-Some.node c.loop-node.disks.items c.put_first.new.disks.items c.put_first-in-Some.new.disks.items c.in-Some.ensures.items
          (c.put_first.ensures.items ∙ ap (λ d. d ∷ c.loop-node.disks.items) (ap (λ (p : g.row.D.Denot × g.row.D.Denot). p.1) c.close-journal.ensures))
          (c.put_first-in-Some.ensures.items ∙ ap (λ d. d ∷ c.put_first.new.disks.items) (ap (λ (p : g.row.D.Denot × g.row.D.Denot). p.0) c.close-journal.ensures)) ∙ c.loop-node.invariant.0,
      omega (arith, fewer, room, one, two, wide, wide_too),
      omega (arith, fewer, one, two, all),
    )

pub returns-clause-items : goal.returns-clause-items
returns-clause-items g c =
    let none : length c.loop-node.nodes.items ≡ 0 = search rules in
    sym (none_left c.loop-node.nodes.items c.loop-node.disks.items none) ∙ c.loop-node.invariant.0
