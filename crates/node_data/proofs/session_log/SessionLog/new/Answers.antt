use Rattle.std.specs.FinMap as maps
use Rattle.std.specs.Ordering.{nat_cmp}
use Rattle.node_data.proofs.session_log.SessionLog.new.Goals as goal

pub invariant_of-result : goal.invariant_of-result
invariant_of-result c = (λ id. rw (c.new-2.ensures, c.new.ensures) (maps.get-empty nat_cmp id), c.new-3.ensures c.new.result.entries)
