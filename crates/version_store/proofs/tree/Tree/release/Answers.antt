use Rattle.std.proofs.Common.{subst, refl, None, IsSome}
use Rattle.version_store.specs.Past.{held_by}
use Rattle.version_store.proofs.DocumentsLemmas.{past_found, set_past}
use Rattle.version_store.proofs.tree.Tree.release.Goals as goal

pub returns : goal.returns
returns c =
    rw (← c.self.view_is)
    (set_past c.self.inside.documents.entries (c.get_mut.follows.lender c.set_holder.new.self).entries c.args.id.now c.in-Some.history.now c.set_holder.new.self
    (λ past. held_by past None) (past_found c.self.inside.documents.entries c.args.id.now c.in-Some.history.now c.in-Some.ensures.value) c.set_holder.ensures
    ((c.get_mut.follows.holds c.set_holder.new.self).3 (subst IsSome c.in-Some.ensures.value refl)).0)
