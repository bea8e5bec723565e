use Rattle.std.proofs.Common.{List}
use Rattle.record_file.proofs.CutLemmas.{cut_leaves}
use Rattle.repl_msg.specs.declared.record.Record.{Record}
use Rattle.node_journal.specs.Files.{HasJournal}
use Rattle.node_journal.proofs.journal.Journal.power_cut.Goals as goal

pub returns-clause-left : goal.returns-clause-left
returns-clause-left g c =
    rw (← c.self.view_is) (λ has. record { leaves = cut_leaves (λ image. (records : List Record) × HasJournal image records) _ _ _ c.power_cut.ensures.disk has.leaves })
