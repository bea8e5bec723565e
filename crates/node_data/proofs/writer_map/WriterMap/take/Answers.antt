use Rattle.std.proofs.Common.{◌∙◌, ap, sym}
use Rattle.std.specs.FinMap as maps
use Rattle.node_data.proofs.MapLemmas.{get-from_pairs, pairs_without}
use Rattle.node_data.proofs.writer_map.WriterMap.take.Goals as goal

pub returns-clause-map : goal.returns-clause-map
returns-clause-map c =
    pairs_without c.self.inside.writers.entries c.remove.new.self.entries c.args.number c.remove.ensures.updates.0
    ∙ ap (λ w. maps.remove w c.args.number) c.self.view_is

pub returns-clause-taken : goal.returns-clause-taken
returns-clause-taken c =
    c.remove.ensures.value ∙ sym (get-from_pairs c.self.inside.writers.entries c.args.number) ∙ ap (λ w. maps.get w c.args.number) c.self.view_is
