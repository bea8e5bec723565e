use Rattle.std.proofs.Common.{length}
use Rattle.std.specs.List.{All}
use Rattle.oplog_entry.specs.Lawful.{IsLawful}
use Rattle.entry_bytes.specs.Sizes.{IsWithinEntry}
use Rattle.initial_sync.specs.Missing.{batches}
use Rattle.initial_sync.proofs.WritingLemmas.{Added}
use Rattle.initial_sync.proofs.writing.add_entries.Given as goal

abbrev pub decreases-loop-rest : goal.decreases-loop-rest
decreases-loop-rest g l = length l.rest

abbrev pub invariant-loop-rest : goal.invariant-loop-rest
invariant-loop-rest g l = record {
  added : Added (batches l.fn.entries) (batches l.rest) (g.D.Disk.state l.initial.journal.0) (g.D.Disk.state l.journal.0);
  lawful : All IsLawful l.rest;
  within : All IsWithinEntry l.rest;
}
