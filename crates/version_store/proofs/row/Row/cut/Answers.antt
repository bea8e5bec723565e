use Rattle.std.proofs.Common.{rules}
use Rattle.version_store.specs.Cuts.{left_by}
use Rattle.bson_doc.specs.Key.{key_cmp}
use Rattle.version_store.proofs.CutLemmas.{left_nothing}
use Rattle.version_store.proofs.DocumentsLemmas.{each_past}
use Rattle.version_store.proofs.KeptLemmas.{keeps_kept, pairs_kept, sorted_kept}
use Rattle.version_store.proofs.row.Row.cut.Goals as goal

pub returns-clause-each : goal.returns-clause-each
returns-clause-each c =
    rw (← c.self.view_is)
    (each_past _ (left_by c.args.cut) (left_nothing c.args.cut) _ (λ k v b w f' t. search rules) c.self.inside.entries.items c.retain_mut.new.self.items c.self.invariant
    (pairs_kept _ (λ s x b t y h. search rules) _ c.self.inside.entries.items c.retain_mut.new.self.items c.retain_mut.ensures.filtered))

pub returns-clause-kept : goal.returns-clause-kept
returns-clause-kept c =
    rw (← c.self.view_is)
    (keeps_kept _ _ c.self.inside.entries.items c.retain_mut.new.self.items
    (pairs_kept _ (λ s x b t y h. search rules) _ c.self.inside.entries.items c.retain_mut.new.self.items c.retain_mut.ensures.filtered))

pub invariant_of-self : goal.invariant_of-self
invariant_of-self c =
    sorted_kept _ key_cmp _ c.self.inside.entries.items c.retain_mut.new.self.items
    (pairs_kept _ (λ s x b t y h. search rules) _ c.self.inside.entries.items c.retain_mut.new.self.items c.retain_mut.ensures.filtered) c.self.invariant
