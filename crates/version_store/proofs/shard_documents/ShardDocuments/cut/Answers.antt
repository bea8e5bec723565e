use Rattle.std.proofs.Common.{rules}
use Rattle.version_store.specs.Cuts.{left_by}
use Rattle.version_store.proofs.CutLemmas.{left_nothing}
use Rattle.version_store.proofs.ShardLemmas.{each_document, own_after_each}
use Rattle.version_store.proofs.shard_documents.ShardDocuments.cut.Goals as goal

pub invariant_of-self : goal.invariant_of-self
invariant_of-self c =
    own_after_each _ _ (left_by c.args.cut) (left_nothing c.args.cut) c.self.invariant
    (each_document _ (left_by c.args.cut) (left_nothing c.args.cut) _ (λ k v b w f' t. search rules) c.self.inside.number c.self.inside.count c.self.inside.collections.entries c.retain.new.self.entries c.retain.ensures.was_ordered c.retain.ensures.filtered)

pub returns : goal.returns
returns c =
    rw (← c.self.view_is)
    (each_document _ (left_by c.args.cut) (left_nothing c.args.cut) _ (λ k v b w f' t. search rules) c.self.inside.number c.self.inside.count c.self.inside.collections.entries c.retain.new.self.entries c.retain.ensures.was_ordered c.retain.ensures.filtered)
