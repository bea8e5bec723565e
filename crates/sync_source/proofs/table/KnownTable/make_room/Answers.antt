use Rattle.std.proofs.Common.{◌∙◌, ap}
use Rattle.sync_source.proofs.TableLemmas.{same_heard}
use Rattle.sync_source.specs.Table.{Table}
use Rattle.sync_source.proofs.table.KnownTable.make_room.Goals as goal

pub returns-clause-heard : goal.returns-clause-heard
returns-clause-heard c =
    same_heard c.self.inside.known.entries c.reserve.new.self.entries c.reserve.ensures.entries.2 ∙ ap (λ (t : Table). t.heard) c.self.view_is
