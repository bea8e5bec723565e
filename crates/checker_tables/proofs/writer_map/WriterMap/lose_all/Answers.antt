use Rattle.std.proofs.Common.{◌≡◌, ℕ, List, subst, sym, rules}
use Rattle.std.proofs.lemmas.Map.Made.{map_same_pairs}
use Rattle.std.specs.FinMap as maps
use Rattle.std.specs.Ordering.{nat_cmp}
use Rattle.set_model.specs.Changes.{all_lost, lost_writer}
use Rattle.set_model.specs.declared.writer.Writer.{Writer}
use Rattle.node_data.proofs.WriterLemmas.{writers_lost}
use Rattle.checker_tables.specs.Holding.{LeadToAll}
use Rattle.checker_tables.proofs.HoldingLemmas.{led_lost}
use Rattle.checker_tables.proofs.writer_map.WriterMap.lose_all.Goals as goal

pub invariant_of-self : goal.invariant_of-self
invariant_of-self c =
    let lost : c.retain.new.self.entries ≡ all_lost c.self.inside.writers.entries =
    map_same_pairs _ lost_writer _ (λ k v b w f' t. search rules) c.self.inside.writers.entries c.retain.new.self.entries c.retain.ensures.filtered in
    subst (λ (es : List (ℕ × Writer)). LeadToAll c.emptied.result (maps.from_entries {R = nat_cmp} es)) (sym lost)
    (led_lost c.emptied.result c.self.inside.writers.entries)

pub returns : goal.returns
returns c =
    writers_lost c.self.inside.writers.entries c.retain.new.self.entries c.args.self.now c.self.view_is
    (map_same_pairs _ lost_writer _ (λ k v b w f' t. search rules) c.self.inside.writers.entries c.retain.new.self.entries c.retain.ensures.filtered)
