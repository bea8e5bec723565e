use Rattle.std.specs.Vec.Iter.{into_iter_items}
use Rattle.set_world.proofs.PoolLemmas.{adds_more}
use Rattle.set_world.proofs.pool.Pool.add.Goals as goal

pub loop-message-preserved : goal.loop-message-preserved
loop-message-preserved c =
    adds_more c.args.self.now c.args.sent.items c.loop-message.self c.put.new.self c.in-Some.message (into_iter_items c.loop-message.message-iterator) (into_iter_items c.next.new.self)
    c.loop-message.invariant c.in-Some.ensures.steps.0 c.put.ensures.nodes c.put.ensures.messages c.put.ensures.spare
