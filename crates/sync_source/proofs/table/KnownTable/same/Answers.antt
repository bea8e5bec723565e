use Rattle.std.proofs.Common.{◌∙◌, ap, sym}
use Rattle.sync_source.proofs.SameLemmas.{tables_same}
use Rattle.sync_source.proofs.TableLemmas.{same_heard}
use Rattle.sync_source.specs.Table.{Table}
use Rattle.sync_source.proofs.table.KnownTable.same.Goals as goal

pub returns : goal.returns
returns c = λ same.
    ap (λ (t : Table). t.heard) (sym c.self.view_is)
    ∙ same_heard c.other.inside.known.entries c.self.inside.known.entries
    (tables_same c.self.inside.known c.other.inside.known c.eq.result c.eq.ensures same)
    ∙ ap (λ (t : Table). t.heard) c.other.view_is
