use Rattle.std.proofs.Common.{◌∙◌, ap, subst, sym}
use Rattle.std.specs.FinMap as maps
use Rattle.std.specs.Ordering.{nat_cmp}
use Rattle.set_model.specs.declared.writer.Writer.{Writer}
use Rattle.node_data.proofs.MapLemmas.{pairs_without}
use Rattle.checker_tables.specs.Holding.{Holders, LeadToAll}
use Rattle.checker_tables.proofs.HoldingLemmas.{led_without}
use Rattle.checker_tables.proofs.writer_map.WriterMap.remove.Goals as goal

pub invariant_of-self : goal.invariant_of-self
invariant_of-self c =
    let old : maps.FinMap nat_cmp Writer = maps.from_entries c.self.inside.writers.entries in
    let all : LeadToAll c.take-holders.result old = subst (λ (h : Holders). LeadToAll h old) (sym c.take-holders.ensures.value) c.self.invariant in
    subst (λ (w : maps.FinMap nat_cmp Writer). LeadToAll c.left_by.result w)
    (sym (pairs_without c.self.inside.writers.entries c.remove-gone.new.self.entries c.args.number c.remove-gone.ensures.updates.0))
    (led_without old c.args.number c.take-holders.result c.left_by.result all c.left_by.ensures)

pub returns : goal.returns
returns c =
    pairs_without c.self.inside.writers.entries c.remove-gone.new.self.entries c.args.number c.remove-gone.ensures.updates.0
    ∙ ap (λ w. maps.remove w c.args.number) c.self.view_is
