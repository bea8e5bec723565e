use Rattle.version_store.proofs.RowLemmas.{order_push}
use Rattle.version_store.proofs.row.Row.push.Goals as goal

pub invariant_of-self-2 : goal.invariant_of-self-2
invariant_of-self-2 c =
    rw c.in_ok-push.ensures.items
    (order_push c.self.inside.entries.items c.args.id c.args.history c.self.invariant (rw (← c.make_room.ensures, ← c.self.view_is) at c.requires))
