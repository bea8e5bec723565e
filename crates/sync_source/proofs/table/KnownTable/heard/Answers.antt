use Rattle.std.proofs.Common.{◌∙◌, ap, sym}
use Rattle.std.specs.FinMap as maps
use Rattle.std.specs.Option.{option_map}
use Rattle.sync_source.specs.Known.{heard_by}
use Rattle.sync_source.specs.Table.{Table}
use Rattle.sync_source.proofs.TableLemmas.{get-heard_in}
use Rattle.sync_source.proofs.table.KnownTable.heard.Goals as goal

pub returns : goal.returns
returns c =
    ap (option_map heard_by) (c.copied.ensures ∙ c.get.ensures.value)
    ∙ sym (get-heard_in c.self.inside.known.entries c.args.member)
    ∙ ap (λ (t : Table). maps.get t.heard c.args.member) c.self.view_is
