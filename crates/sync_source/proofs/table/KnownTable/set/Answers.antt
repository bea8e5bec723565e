use Rattle.std.proofs.Common.{◌∙◌, ap}
use Rattle.std.specs.FinMap as maps
use Rattle.sync_source.proofs.TableLemmas.{heard_with}
use Rattle.sync_source.specs.Table.{Table}
use Rattle.sync_source.proofs.table.KnownTable.set.Goals as goal

pub returns : goal.returns
returns c =
    heard_with c.self.inside.known.entries c.insert.new.self.entries c.args.member _ c.in-Ok.ensures.updates.0
    ∙ ap (λ (t : Table). maps.insert t.heard c.args.member (record { last = c.args.last; primary = c.args.primary })) c.self.view_is
