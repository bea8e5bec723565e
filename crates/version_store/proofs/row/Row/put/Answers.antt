use Rattle.std.proofs.Common.{◌∙◌, ap, sym, subst, refl}
use Rattle.std.specs.Prelude.{length, slice_set}
use Rattle.std.proofs.lemmas.Option.{slice_get_read}
use Rattle.version_store.specs.Past.{Past, with_version}
use Rattle.version_store.specs.Row.{IsInOrder}
use Rattle.version_store.proofs.Keyed.{on_err}
use Rattle.version_store.proofs.RowLemmas.{changed_is, changed_none, order_changed}
use Rattle.version_store.proofs.row.Row.put.Goals as goal

pub put-requires : goal.put-requires
put-requires c =
    c.requires.later c.index_mut.result.now.0 c.index_mut.result.now.1
    (rw (← c.self.view_is)
    (slice_get_read c.self.inside.entries.items (length c.self.inside.entries.items) c.args.place c.index_mut.result.now refl (rw (← c.self.view_is) at c.requires.place)
    c.index_mut.ensures.value))

pub invariant_of-self : goal.invariant_of-self
invariant_of-self c =
    let same = ap (λ (p : Past). slice_set c.self.inside.entries.items c.args.place (c.index_mut.result.now.0, p)) c.in_err-put.ensures.err
    ∙ changed_is c.self.inside.entries.items c.args.place c.index_mut.result.now (λ past. past) (rw (← c.self.view_is) at c.requires.place) c.index_mut.ensures.value
    ∙ changed_none c.self.inside.entries.items c.args.place in
    subst IsInOrder (sym same) c.self.invariant

pub invariant_of-self-2 : goal.invariant_of-self-2
invariant_of-self-2 c =
    let new = ap (λ (p : Past). slice_set c.self.inside.entries.items c.args.place (c.index_mut.result.now.0, p)) c.in_ok-put.ensures.ok
    ∙ changed_is c.self.inside.entries.items c.args.place c.index_mut.result.now (λ past. with_version past (record { at = c.args.at; doc = c.args.doc }))
    (rw (← c.self.view_is) at c.requires.place) c.index_mut.ensures.value in
    subst IsInOrder (sym new)
    (order_changed c.self.inside.entries.items c.args.place (λ past. with_version past (record { at = c.args.at; doc = c.args.doc })) c.self.invariant)

pub returns-clause-ok : goal.returns-clause-ok
returns-clause-ok c =
    rw (← c.self.view_is)
    (ap (λ (p : Past). slice_set c.self.inside.entries.items c.args.place (c.index_mut.result.now.0, p)) c.in_ok-put.ensures.ok
    ∙ changed_is c.self.inside.entries.items c.args.place c.index_mut.result.now (λ past. with_version past (record { at = c.args.at; doc = c.args.doc }))
    (rw (← c.self.view_is) at c.requires.place) c.index_mut.ensures.value)

pub returns-in_err-put-clause-err : goal.returns-in_err-put-clause-err
returns-in_err-put-clause-err c =
    on_err c.from_residual.result _
    (ap (λ (p : Past). slice_set c.self.inside.entries.items c.args.place (c.index_mut.result.now.0, p)) c.in_err-put.ensures.err
    ∙ changed_is c.self.inside.entries.items c.args.place c.index_mut.result.now (λ past. past) (rw (← c.self.view_is) at c.requires.place) c.index_mut.ensures.value
    ∙ changed_none c.self.inside.entries.items c.args.place ∙ c.self.view_is)
