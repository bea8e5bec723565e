use Rattle.std.proofs.Common.{sym, ◌∙◌}
use Rattle.bson_doc.proofs.NameLemmas.{first_place, named_so, with_set-at, with_set-new, found-none}
use Rattle.bson_doc.proofs.SoundLemmas.{IsSound-with_set}
use Rattle.bson_doc.proofs.doc.Doc.put_shared.Goals as goal

pub invariant_of-self : goal.invariant_of-self
invariant_of-self c =
    let place = sym (rw (c.deref.ensures.value, c.as_str.ensures, c.deref-2.ensures) at c.place_of.ensures) ∙ c.in-Some.is in
    let first = first_place c.args.field.value.name c.self.inside.fields.items c.in-Some.place c.index_mut.result.now place in
    rw (with_set-at c.args.field.value.name c.self.inside.fields.items c.in-Some.place c.index_mut.result.now c.args.field first (named_so first)) (IsSound-with_set _ _ _ c.self.invariant c.requires.0 c.requires.1 c.requires.2)

pub append_shared-requires-clause-new : goal.append_shared-requires-clause-new
append_shared-requires-clause-new c =
    let none = found-none c.args.field.value.name c.self.inside.fields.items (sym (rw (c.deref.ensures.value, c.as_str.ensures, c.deref-2.ensures) at c.place_of.ensures) ∙ c.in-None.is) in
    rw (← c.self.view_is) none

pub returns-in-Some-clause-ok : goal.returns-in-Some-clause-ok
returns-in-Some-clause-ok c =
    let place = sym (rw (c.deref.ensures.value, c.as_str.ensures, c.deref-2.ensures) at c.place_of.ensures) ∙ c.in-Some.is in
    let first = first_place c.args.field.value.name c.self.inside.fields.items c.in-Some.place c.index_mut.result.now place in
    rw (← c.self.view_is) (with_set-at c.args.field.value.name c.self.inside.fields.items c.in-Some.place c.index_mut.result.now c.args.field first (named_so first))

pub returns-in_ok-append_shared-in-None-clause-ok : goal.returns-in_ok-append_shared-in-None-clause-ok
returns-in_ok-append_shared-in-None-clause-ok c =
    let none = found-none c.args.field.value.name c.self.inside.fields.items (sym (rw (c.deref.ensures.value, c.as_str.ensures, c.deref-2.ensures) at c.place_of.ensures) ∙ c.in-None.is) in
    rw (c.in_ok-append_shared-in-None.ensures.ok, ← c.self.view_is) (sym (with_set-new _ _ _ none))
