use Rattle.std.proofs.Common.{ap, arith}
use Rattle.node_data.specs.NodeData.{data_role}
use Rattle.node_data.proofs.FollowLemmas.{late_readable, late_shown}
use Rattle.node_data.proofs.keeping.NodeData.local_point.Goals as goal

pub returns-then-self-clause-readable : goal.returns-then-self-clause-readable
returns-then-self-clause-readable c = rw (← c.self.view_is) (late_readable _ _ c.self.invariant.sound (ap data_role c.if-self.true) (omega arith))

pub returns-then-self-clause-shown : goal.returns-then-self-clause-shown
returns-then-self-clause-shown c = rw (← c.self.view_is) (late_shown _ _ c.self.invariant.sound (ap data_role c.if-self.true) (omega arith))
