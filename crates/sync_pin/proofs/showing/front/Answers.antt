use Rattle.std.proofs.Common.{◌∙◌, ap, length}
use Rattle.oplog_entry.specs.Visible.{log_up_to}
use Rattle.sync_pin.proofs.ShowLemmas.{front_is}
use Rattle.sync_pin.proofs.showing.front.Goals as goal

pub returns-clause-entries : goal.returns-clause-entries
returns-clause-entries c =
    c.truncate.ensures.items
    ∙ front_is c.args.log.items c.args.at _ c.requires (ap length (c.up_to-count.ensures.cut ∙ ap (log_up_to c.args.at) c.deref.ensures.value))
