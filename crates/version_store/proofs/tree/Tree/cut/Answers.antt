use Rattle.std.proofs.Common.{rules}
use Rattle.version_store.specs.Cuts.{left_by}
use Rattle.version_store.proofs.CutLemmas.{left_nothing}
use Rattle.version_store.proofs.DocumentsLemmas.{each_past}
use Rattle.version_store.proofs.tree.Tree.cut.Goals as goal

pub returns : goal.returns
returns c =
    rw (← c.self.view_is)
    (each_past _ (left_by c.args.cut) (left_nothing c.args.cut) _ (λ k v b w f' t. search rules) c.self.inside.documents.entries c.retain.new.self.entries c.retain.ensures.was_ordered c.retain.ensures.filtered)
