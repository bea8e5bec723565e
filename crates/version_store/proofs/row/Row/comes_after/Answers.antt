use Rattle.std.proofs.Common.{◌≡◌, ◌∙◌, sym}
use Rattle.std.specs.declared.cmp.Ordering.TheVariants.{Less}
use Rattle.bson_doc.specs.Key.{key_cmp}
use Rattle.version_store.proofs.RowLemmas.{last_before, none_last}
use Rattle.version_store.proofs.row.Row.comes_after.Goals as goal

pub returns-in_default-clause-after : goal.returns-in_default-clause-after
returns-in_default-clause-after c held =
    rw (← c.self.view_is, ← c.deref.ensures.value) (none_last (λ e. key_cmp e.0 c.args.id.now ≡ Less) c.deref.result.now c.in_default.ensures.value)

pub returns-in-Less-clause-after : goal.returns-in-Less-clause-after
returns-in-Less-clause-after c held =
    rw (← c.self.view_is, ← c.deref.ensures.value)
    (last_before c.deref.result.now c.args.id.now c.in-Some.last.now (rw (← c.deref.ensures.value) at c.self.invariant) c.in-Some.ensures.value
    (sym c.by_key.ensures ∙ c.in-Less.is))
