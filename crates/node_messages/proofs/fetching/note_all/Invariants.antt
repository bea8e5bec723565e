use Rattle.std.proofs.Common.{◌≡◌, ◌-◌, fold, map, take}
use Rattle.oplog_entry.specs.declared.entry.Entry.{Entry}
use Rattle.oplog_store.specs.Unjournaled.{with_optime}
use Rattle.node_messages.proofs.fetching.note_all.Given as goal

abbrev pub invariant-loop-entry : goal.invariant-loop-entry
invariant-loop-entry l =
    l.unjournaled ≡ record {
      optimes = fold with_optime l.initial.unjournaled.optimes (map (λ (e : Entry). e.optime) (take l.entry-index l.entries));
      spare = l.initial.unjournaled.spare - l.entry-index;
    }
