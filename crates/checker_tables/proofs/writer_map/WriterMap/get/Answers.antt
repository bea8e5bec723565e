use Rattle.std.proofs.Common.{◌∙◌, ap, sym}
use Rattle.std.specs.FinMap as maps
use Rattle.node_data.proofs.MapLemmas.{get-from_pairs}
use Rattle.checker_tables.proofs.writer_map.WriterMap.get.Goals as goal

pub returns : goal.returns
returns c = c.get.ensures.value ∙ sym (get-from_pairs c.self.inside.writers.entries c.args.number) ∙ ap (λ w. maps.get w c.args.number) c.self.view_is
