use Rattle.oplog_store.proofs.PlaceLemmas.{moved_more, moved_none}
use Rattle.oplog_store.proofs.places.gather.Goals as goal

pub loop-settled-init : goal.loop-settled-init
loop-settled-init c = moved_none c.args.settled.now.entries c.args.beyond.now.items c.args.settled.now.spare c.requires.held

pub loop-settled-preserved : goal.loop-settled-preserved
loop-settled-preserved c =
    moved_more c.args.settled.now.entries c.loop-settled.settled.entries c.move_first.new.settled.entries c.args.beyond.now.items c.loop-settled.beyond.items c.move_first.new.beyond.items
    c.args.settled.now.spare c.loop-settled.settled.spare c.move_first.new.settled.spare c.loop-settled.invariant c.move_first.ensures.moved
