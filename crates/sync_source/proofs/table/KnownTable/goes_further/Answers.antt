use Rattle.std.proofs.Common.{◌∙◌, ap, sym, Option}
use Rattle.std.specs.FinMap as maps
use Rattle.std.specs.Option.{option_map}
use Rattle.repl_msg.specs.Sources as words
use Rattle.sync_source.specs.Known.{heard_by}
use Rattle.sync_source.specs.Table.{Table}
use Rattle.sync_source.specs.declared.source.Known.{Known}
use Rattle.sync_source.proofs.TableLemmas.{get-heard_in}
use Rattle.sync_source.proofs.table.KnownTable.goes_further.Goals as goal

pub returns : goal.returns
returns c =
    c.is_further.ensures
    ∙ ap (λ (found : Option Known). words.goes_further c.args.config.now c.args.last (option_map heard_by found)) (c.copied.ensures ∙ c.get.ensures.value)
    ∙ ap (words.goes_further c.args.config.now c.args.last) (sym (get-heard_in c.self.inside.known.entries c.args.member))
    ∙ ap (λ (t : Table). words.goes_further c.args.config.now c.args.last (maps.get t.heard c.args.member)) c.self.view_is
