use Rattle.std.proofs.Common.{Some, rules}
use Rattle.version_store.specs.Past.{held_by}
use Rattle.version_store.proofs.DocumentsLemmas.{enter_past}
use Rattle.version_store.proofs.tree.Tree.hold.Goals as goal

pub returns-clause-ok : goal.returns-clause-ok
returns-clause-ok c =
    rw (← c.self.view_is)
    (enter_past c.self.inside.documents.entries _ c.args.id.now c.in_ok-copy.field-0 _ c.new.result c.or_insert-history.result.now c.set_holder.new.self
    (λ past. held_by past (Some c.args.writer)) c.in_ok-copy.ensures c.in_ok-entry.ensures.value c.new.ensures c.or_insert-history.ensures.value
    c.set_holder.ensures (λ q. search rules))
