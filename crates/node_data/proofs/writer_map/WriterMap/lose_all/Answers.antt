use Rattle.std.proofs.Common.{rules}
use Rattle.std.proofs.lemmas.Map.Made.{map_same_pairs}
use Rattle.set_model.specs.Changes.{lost_writer}
use Rattle.node_data.proofs.WriterLemmas.{writers_lost}
use Rattle.node_data.proofs.writer_map.WriterMap.lose_all.Goals as goal

pub returns : goal.returns
returns c =
    writers_lost c.self.inside.writers.entries c.retain.new.self.entries c.args.self.now c.self.view_is
    (map_same_pairs _ lost_writer _ (λ k v b w f' t. search rules) c.self.inside.writers.entries c.retain.new.self.entries c.retain.ensures.filtered)
