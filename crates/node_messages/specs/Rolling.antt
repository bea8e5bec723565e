-- The point to which a node rolls back.
use Rattle.std.specs.Prelude.{◌+◌, List, Option, None, Some, Result, Ok, Err}
use Rattle.bson_doc.specs.Place.{Place}
use Rattle.bson_doc.specs.Tree.{Fields}
use Rattle.rs_optime.specs.declared.optime.OpTime.{OpTime}
use Rattle.oplog_entry.specs.Visible.{last_of, log_up_to}
use Rattle.set_model.specs.declared.reply.Ignored.{Ignored}
use Rattle.set_model.specs.Node.{Node}
use Rattle.set_model.specs.Points.{earlier_of, if_primary, later_of}

-- the point, or the reason why there is none
abbrev pub point_or : Option Ignored → OpTime → Result OpTime Ignored
point_or (Some why) point = Err why
point_or None point = Ok point

-- A node whose log is applied up to a point. A primary's documents extend to the end of its log.
abbrev pub reached : Node → OpTime → Node
reached node point = record node {
  applied = if_primary node.role node.applied (later_of node.applied (last_of (log_up_to point node.log)));
}

-- the log cut after a point, and these documents lost
abbrev pub rolled_node : Node → OpTime → List (Place × Option Fields) → Node
rolled_node node point lost =
    record node {
      log = log_up_to point node.log;
      applied = point;
      durable = earlier_of node.durable point;
      lost = lost;
      rollback = node.rollback + 1;
    }
