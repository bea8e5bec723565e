use Rattle.std.proofs.Common.{◌∙◌, ap, sym, subst}
use Rattle.std.specs.Prelude.{slice_set}
use Rattle.version_store.specs.Past.{Past, held_by}
use Rattle.version_store.specs.Row.{IsInOrder}
use Rattle.version_store.proofs.RowLemmas.{changed_is, order_changed}
use Rattle.version_store.proofs.row.Row.set_holder.Goals as goal

pub invariant_of-self : goal.invariant_of-self
invariant_of-self c =
    let new = ap (λ (p : Past). slice_set c.self.inside.entries.items c.args.place (c.index_mut.result.now.0, p)) c.set_holder.ensures
    ∙ changed_is c.self.inside.entries.items c.args.place c.index_mut.result.now (λ past. held_by past c.args.holder) (rw (← c.self.view_is) at c.requires)
    c.index_mut.ensures.value in
    subst IsInOrder (sym new) (order_changed c.self.inside.entries.items c.args.place (λ past. held_by past c.args.holder) c.self.invariant)

pub returns : goal.returns
returns c =
    rw (← c.self.view_is)
    (ap (λ (p : Past). slice_set c.self.inside.entries.items c.args.place (c.index_mut.result.now.0, p)) c.set_holder.ensures
    ∙ changed_is c.self.inside.entries.items c.args.place c.index_mut.result.now (λ past. held_by past c.args.holder) (rw (← c.self.view_is) at c.requires)
    c.index_mut.ensures.value)
