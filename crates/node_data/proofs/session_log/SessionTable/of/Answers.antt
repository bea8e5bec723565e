use Rattle.std.specs.FinMap as maps
use Rattle.std.specs.Ordering.{nat_cmp}
use Rattle.node_data.proofs.session_log.SessionTable.of.Goals as goal

pub loop-entry-init : goal.loop-entry-init
loop-entry-init c = λ id. rw c.new-table.ensures (maps.get-empty nat_cmp id)
