use Rattle.oplog_entry.proofs.FieldLemmas.{changed-twice}
use Rattle.oplog_entry.proofs.change.with_changes.Goals as goal

pub returns-clause-twice : goal.returns-clause-twice
returns-clause-twice c =
    rw c.in_ok-changed.ensures (changed-twice c.args.document.now c.args.sets.now c.args.unsets.now c.recall_sound.ensures.0 c.recall_sound-2.ensures.0)
