use Rattle.std.proofs.Common.{subst, sym}
use Rattle.oplog_store.specs.Log.{IsOplog, with_entry}
use Rattle.rs_optime.specs.declared.optime.OpTime.{OpTime}
use Rattle.checker_node.proofs.ChangeLemmas.{logged_oplog}
use Rattle.checker_node.proofs.node.Node.log_op.Goals as goal

pub put-requires : goal.put-requires
put-requires c =
    subst (λ (at : OpTime). IsOplog (with_entry c.args.self.now.log (record { optime = at; op = c.args.op; session = c.args.session }))) (sym c.next_optime-optime.ensures)
    (logged_oplog c.args.self.now c.args.op c.args.session c.recall_log.ensures c.requires)
