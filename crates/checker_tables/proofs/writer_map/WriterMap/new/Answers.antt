use Rattle.std.proofs.Common.{ℕ, List, Some, subst, sym}
use Rattle.std.specs.FinMap as maps
use Rattle.std.specs.Ordering.{nat_cmp}
use Rattle.set_model.specs.declared.writer.Writer.{Writer}
use Rattle.checker_tables.specs.Holding.{LeadToAll}
use Rattle.checker_tables.proofs.HoldingLemmas.{led_none}
use Rattle.checker_tables.proofs.writer_map.WriterMap.new.Goals as goal

pub invariant_of-result : goal.invariant_of-result
invariant_of-result c =
    subst (λ (es : List (ℕ × Writer)). LeadToAll (Some c.new-2.result) (maps.from_entries {R = nat_cmp} es)) (sym c.new.ensures.empty)
    (led_none (Some c.new-2.result))
