use Rattle.std.proofs.Common.{◌≡◌, ◌∙◌, None, fold, rules, tests}
use Rattle.std.specs.Prelude.{not, ◌==◌, ◌&&◌}
use Rattle.std.specs.FinMap as maps
use Rattle.std.proofs.lemmas.Iterator.{YieldsList-from_slice, YieldsList-from_map}
use Rattle.std.proofs.lemmas.Iterator.Consumers.{YieldsList-at, YieldsList-from_filter, fold_from_yields_List}
use Rattle.repl_msg.specs.Sources.{sources_of, goes_further}
use Rattle.sync_source.proofs.LowestLemmas.{with_next, fold-lowest}
use Rattle.sync_source.proofs.table.KnownTable.source.Goals as goal

pub returns : goal.returns
returns c =
    let config = c.args.config.now in
    let heard = maps.get c.args.self.now.heard in
    let least : c.fold.result ≡ fold with_next None (sources_of config c.args.own c.args.last heard) =
    fold_from_yields_List _ with_next None c.fold.result c.fold.ensures.ran
    (YieldsList-from_filter _ (λ n. not (n == c.args.own) && goes_further config c.args.last (heard n))
    (YieldsList-at c.filter-sources.ensures.source (YieldsList-from_map _ (λ m. m.number)
    (YieldsList-from_slice config.members (cc))
    c.map.ensures.closure (λ x r q k. search (rules, tests))))
    c.filter-sources.ensures.closure (λ x r q k. search (rules, tests)))
    (λ a x b q k. search (rules, tests)) in
    least ∙ fold-lowest (sources_of config c.args.own c.args.last heard)
