use Rattle.std.proofs.Common.{◌≡◌, ◌∙◌, List, ap, subst, take}
use Rattle.std.specs.Prelude.{IfOk}
use Rattle.oplog_entry.specs.declared.entry.Entry.{Entry}
use Rattle.set_model.specs.Disk.{unjournaled}
use Rattle.checker_tables.specs.Journal.{unkept}
use Rattle.checker_node.proofs.node.Node.unjournaled.Goals as goal

pub returns-clause-found : goal.returns-clause-found
returns-clause-found c =
    subst (λ (l : List Entry). IfOk c.copy_unkept.result (λ found. found.items ≡ take c.args.most l))
    (ap (λ (l : List Entry). unkept l c.entries-kept.result.now.entries) c.log-log.ensures ∙ ap (λ (l : List Entry). unkept c.self.inside.log l) c.entries-kept.ensures
    ∙ ap unjournaled c.self.view_is) c.copy_unkept.ensures
