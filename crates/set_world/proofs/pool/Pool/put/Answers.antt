use Rattle.std.proofs.Common.{◌≡◌, rules, subst, sym, length}
use Rattle.set_world.specs.Pool.{Pool, IsBetweenNodes}
use Rattle.set_world.proofs.PoolLemmas.{indexed_more}
use Rattle.set_world.proofs.pool.Pool.put.Goals as goal

pub invariant_of-self : goal.invariant_of-self
invariant_of-self c =
    let between : IsBetweenNodes c.self.inside.nodes c.args.message = subst (λ (p : Pool). IsBetweenNodes p.nodes c.args.message) (sym c.self.view_is) c.requires.between in
    let place : c.len-place.result ≡ length c.self.inside.messages.items = search rules in
    rw c.in-Ok.ensures.items
    (indexed_more c.self.inside.nodes c.self.inside.messages.items c.self.inside.newest.entries c.insert.new.self.entries c.args.message c.self.invariant between
    (rw (← place) c.in-Ok-insert.ensures.updates.0))
