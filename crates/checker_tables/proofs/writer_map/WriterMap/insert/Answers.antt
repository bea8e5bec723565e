use Rattle.std.proofs.Common.{◌∙◌, ap, subst, sym}
use Rattle.std.specs.FinMap as maps
use Rattle.std.specs.Ordering.{nat_cmp}
use Rattle.set_model.specs.declared.writer.Writer.{Writer}
use Rattle.node_data.proofs.MapLemmas.{pairs_with}
use Rattle.checker_tables.specs.Holding.{Holders, LeadToAll}
use Rattle.checker_tables.proofs.HoldingLemmas.{led_with}
use Rattle.checker_tables.proofs.writer_map.WriterMap.insert.Goals as goal

pub invariant_of-self-2 : goal.invariant_of-self-2
invariant_of-self-2 c =
    let old : maps.FinMap nat_cmp Writer = maps.from_entries c.self.inside.writers.entries in
    let all : LeadToAll c.take-holders.result old = subst (λ (h : Holders). LeadToAll h old) (sym c.take-holders.ensures.value) c.self.invariant in
    subst (λ (w : maps.FinMap nat_cmp Writer). LeadToAll c.in_ok-self-inside.field-0 w)
    (sym (pairs_with c.self.inside.writers.entries c.insert.new.self.entries c.args.number c.args.writer c.in_ok-gone.ensures.updates.0))
    (led_with old c.args.number c.args.writer _ c.take-holders.result c.left_by-left.result c.in_ok-self-inside.field-0 c.in_ok-place.ensures all c.left_by-left.ensures c.in_ok-self-inside.ensures)

pub returns : goal.returns
returns c =
    pairs_with c.self.inside.writers.entries c.insert.new.self.entries c.args.number c.args.writer c.in_ok-gone.ensures.updates.0
    ∙ ap (λ w. maps.insert w c.args.number c.args.writer) c.self.view_is
