use Rattle.std.proofs.Common.{◌∙◌, ap, sym, subst, take, List, [], ◌∷◌, ◌++◌, Vec, Global}
use Rattle.std.specs.List.{All}
use Rattle.rs_optime.specs.declared.optime.OpTime.{OpTime}
use Rattle.oplog_entry.specs.Lawful.{IsLawful}
use Rattle.oplog_entry.specs.declared.entry.Entry.{Entry}
use Rattle.node_commands.proofs.FoundLemmas.{entries_at-more, entries_next_some, entries_next_none}
use Rattle.node_commands.proofs.disk.copies_at.Goals as goal
use Rattle.node_commands.proofs.disk.copies_at.Goals.{in-Some+in_ok-copy+in_ok-push, in_default}

pub new-requires : goal.new-requires
new-requires c =
    subst (All IsLawful) (sym c.loop-at.invariant) (entries_at-more c.args.node_data.now.node.log (take c.loop-at.at-index c.args.optimes.now) c.recall_sound.ensures.node.oplog.lawful)

pub loop-at-preserved : goal.loop-at-preserved
loop-at-preserved c =
    let d : OpTime = record { term = 0; ts = 0 } in
    elim c.match-entry_at.branch [
      | in-Some+in_ok-copy+in_ok-push w ↦
          ap (λ (v : Vec Entry Global). v.items) w.copies-is ∙ w.in_ok-push.ensures.items
          ∙ ap (λ (e : Entry). c.loop-at.copies.items ++ e ∷ []) w.in_ok-copy.ensures
          ∙ ap (λ (xs : List Entry). xs ++ w.in-Some.entry.now ∷ []) c.loop-at.invariant
          ∙ sym (entries_next_some c.args.node_data.now.node.log c.args.optimes.now c.loop-at.at-index d w.in-Some.entry.now c.loop-at-test.true w.in-Some.ensures)
      | in_default w ↦
          ap (λ (v : Vec Entry Global). v.items) w.copies-is ∙ c.loop-at.invariant
          ∙ sym (entries_next_none c.args.node_data.now.node.log c.args.optimes.now c.loop-at.at-index d c.loop-at-test.true w.in_default.ensures)
    ]
