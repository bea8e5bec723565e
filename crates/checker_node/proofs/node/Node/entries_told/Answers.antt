use Rattle.std.proofs.Common.{◌∙◌, ap, sym}
use Rattle.repl_msg.specs.Fetching.{continues}
use Rattle.rs_optime.specs.declared.optime.OpTime.{OpTime}
use Rattle.checker_node.proofs.HearLemmas.{fetched_oplog}
use Rattle.checker_node.proofs.node.Node.entries_told.Goals as goal

pub append-requires : goal.append-requires
append-requires c = record {
  stays = fetched_oplog c.args.self.now.log c.in-Ok.entries.now c.args.reply.now
      (ap (λ (o : OpTime). continues o c.args.reply.now) (sym c.last_point.ensures) ∙ c.in-Ok.ensures.ok.0) c.in-Ok.ensures.ok.1 c.requires.fetched c.recall_log.ensures;
}
