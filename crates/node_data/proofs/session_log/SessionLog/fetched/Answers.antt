use Rattle.std.proofs.Common.{◌∙◌, ap}
use Rattle.oplog_entry.specs.Visible.{log_up_to}
use Rattle.node_data.proofs.ToldLemmas.{is_answer}
use Rattle.node_data.proofs.session_log.SessionLog.fetched.Goals as goal

pub invariant_of-self-2 : goal.invariant_of-self-2
invariant_of-self-2 c =
    let log = c.self.inside.log.entries in
    rw c.gather_up_to.ensures.entries (
      c.self.invariant.0,
      c.keep_reply.ensures log c.self.invariant.1
          (is_answer log c.settled-settled.result.now.entries c.in_ok-copy.field-0 c.args.visible c.args.base c.args.commit c.args.primary
          (ap (log_up_to c.args.visible) c.settled-settled.ensures ∙ c.gather_up_to.ensures.settled) (c.in_ok-copy.ensures ∙ c.in_ok-reply.ensures)),
    )
