use Rattle.std.proofs.Common.{◌∙◌, List, ap, not}
use Rattle.repl_msg.specs.Kept.{kept}
use Rattle.repl_msg.specs.declared.record.Record.{Record}
use Rattle.set_model.specs.Disk.{has_more}
use Rattle.checker_tables.proofs.JournalLemmas.{more_after}
use Rattle.checker_tables.proofs.journal.Journal.has_more.Goals as goal

pub returns : goal.returns
returns c =
    let s = c.self.inside in
    ap not c.is_empty.ensures ∙ more_after s.records.list c.after.result.now s.entries.entries s.point c.self.invariant.entries_are c.self.invariant.point_is c.after.ensures
    ∙ ap (λ (items : List Record). has_more (kept items)) c.self.view_is
