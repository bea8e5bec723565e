use Rattle.std.proofs.Common.{◌∙◌, ap, sym, Some}
use Rattle.std.specs.FinMap as maps
use Rattle.set_model.specs.declared.writer.Writer.{Writer}
use Rattle.node_data.proofs.MapLemmas.{get-from_pairs}
use Rattle.node_data.proofs.writer_map.WriterMap.get.Goals as goal

pub returns-in-Some : goal.returns-in-Some
returns-in-Some c =
    ap (λ (w : Writer). Some w) c.writer.ensures ∙ c.in-Some.ensures.value ∙ sym (get-from_pairs c.self.inside.writers.entries c.args.number)
    ∙ ap (λ w. maps.get w c.args.number) c.self.view_is

pub returns-in-None : goal.returns-in-None
returns-in-None c =
    c.in-None.ensures.value ∙ sym (get-from_pairs c.self.inside.writers.entries c.args.number) ∙ ap (λ w. maps.get w c.args.number) c.self.view_is
