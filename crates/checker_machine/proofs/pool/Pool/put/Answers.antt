use Rattle.std.proofs.Common.{◌≡◌, ◌∙◌, ℕ, ap, arith, rules, length}
use Rattle.std.specs.FinMap as maps
use Rattle.std.specs.Ordering.{nat_cmp}
use Rattle.node_data.proofs.MapLemmas.{pairs_with}
use Rattle.checker_machine.specs.Newest.{pair_of}
use Rattle.checker_machine.proofs.PoolLemmas.{newest_more}
use Rattle.checker_machine.proofs.pool.Pool.put.Goals as goal

pub invariant_of-self-2 : goal.invariant_of-self-2
invariant_of-self-2 c =
    let old : maps.FinMap nat_cmp ℕ = maps.from_entries c.self.inside.newest.entries in
    let place : c.len-place.result ≡ length c.self.inside.messages.items = search rules in
    let pair : c.pair_of-pair.result ≡ pair_of c.args.message.from c.args.message.to = search rules in
    rw (c.in-Ok.ensures.items, c.reserve.ensures.items)
    (newest_more c.self.inside.messages.items c.args.message old (maps.from_entries c.insert.new.self.entries) (omega arith) (omega arith) c.self.invariant
    (pairs_with c.self.inside.newest.entries c.insert.new.self.entries c.pair_of-pair.result c.len-place.result c.in_ok-insert.ensures.updates.0
    ∙ ap (λ (n : ℕ). maps.insert old n c.len-place.result) pair ∙ ap (maps.insert old (pair_of c.args.message.from c.args.message.to)) place))
