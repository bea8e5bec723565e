use Rattle.std.proofs.Common.{◌∙◌, ap, sym}
use Rattle.std.specs.FinMap as maps
use Rattle.node_data.proofs.MapLemmas.{get-from_pairs}
use Rattle.checker_tables.proofs.last_writes.LastWrites.get.Goals as goal

pub returns : goal.returns
returns c =
    c.copied.ensures ∙ c.get.ensures.value ∙ sym (get-from_pairs c.self.inside.writes.entries c.args.id)
    ∙ ap (λ t. maps.get t c.args.id) c.self.view_is
