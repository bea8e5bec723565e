use Rattle.std.proofs.Common.{◌≡◌, ◌<◌, ◌≤◌, arith, length, refl, subst, sym}
use Rattle.set_world.specs.Points.{IsRaised}
use Rattle.set_world.specs.World.{nodes_in}
use Rattle.set_world.proofs.points.act.Goals as goal

pub raise-requires-clause-known : goal.raise-requires-clause-known
raise-requires-clause-known g c =
    let size : c.args.pool.now.nodes ≡ length c.args.nodes.now = c.requires.may.size in
    let some : 1 ≤ length c.args.nodes.now = c.requires.may.some in
    let less : c.touched.result < c.args.pool.now.nodes =
    c.touched.ensures.known (omega (arith, size, some)) (λ message sent. subst (λ n. message.to < n) (sym size) (c.requires.may.between message sent)) in
    let long : length c.act.new.nodes ≡ length c.args.nodes.now = c.act.ensures.len in
    omega (arith, less, size, long)

pub returns-clause-disks : goal.returns-clause-disks
returns-clause-disks g c = rw c.raise.ensures.same (c.in_ok-done.ensures.disks)

pub returns-clause-stand : goal.returns-clause-stand
returns-clause-stand g c stand = rw c.raise.ensures.same (c.act.ensures.stand stand)

pub returns-clause-raised : goal.returns-clause-raised
returns-clause-raised g c =
    rw c.raise.ensures.same (subst (λ k. IsRaised k (nodes_in c.act.new.nodes) c.args.points.now c.raise.new.self)
    (c.touched.ensures.touched (record { nodes = nodes_in c.args.nodes.now; messages = c.args.pool.now.messages }) refl) c.raise.ensures.raised)
