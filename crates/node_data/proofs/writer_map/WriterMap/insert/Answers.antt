use Rattle.std.proofs.Common.{◌≡◌, ◌∙◌, ap, sym, None, rules}
use Rattle.std.specs.FinMap as maps
use Rattle.node_data.proofs.MapLemmas.{get-from_pairs, pairs_with}
use Rattle.node_data.proofs.writer_map.WriterMap.insert.Goals as goal

pub returns-in_err-insert-clause-absent : goal.returns-in_err-insert-clause-absent
returns-in_err-insert-clause-absent c =
    let none : maps.get c.args.self.now c.args.number ≡ None =
    ap (λ w. maps.get w c.args.number) (sym c.self.view_is) ∙ get-from_pairs c.self.inside.writers.entries c.args.number ∙ c.in_err-insert.ensures.absent in
    search rules

pub returns-clause-ok : goal.returns-clause-ok
returns-clause-ok c =
    pairs_with c.self.inside.writers.entries c.insert.new.self.entries c.args.number c.args.writer c.in_ok-insert.ensures.updates.0
    ∙ ap (λ w. maps.insert w c.args.number c.args.writer) c.self.view_is

pub returns-clause-old : goal.returns-clause-old
returns-clause-old c =
    c.in_ok-insert.ensures.old ∙ sym (get-from_pairs c.self.inside.writers.entries c.args.number) ∙ ap (λ w. maps.get w c.args.number) c.self.view_is
