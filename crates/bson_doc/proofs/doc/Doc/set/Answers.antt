use Rattle.std.proofs.Common.{Contains, ap, sym, ◌∙◌, arith}
use Rattle.std.proofs.lemmas.Grind.{common_steps}
use Rattle.bson_doc.specs.Tree.{with_set}
use Rattle.bson_doc.specs.View.{tree_of, fields_of}
use Rattle.bson_doc.proofs.NameLemmas.{first_place, named_so, with_set-at, with_set-new, found-none}
use Rattle.bson_doc.proofs.SoundLemmas.{IsSound-with_set}
use Rattle.bson_doc.proofs.doc.Doc.set.Goals as goal

pub invariant_of-self : goal.invariant_of-self
invariant_of-self c =
    let clean : ¬ Contains c.args.name 0 = grind (arith, common_steps) in
    let place = sym (rw (c.deref.ensures.value, c.as_str-2.ensures) at c.place_of.ensures) ∙ c.in-Some.is in
    let first = first_place c.args.name c.self.inside.fields.items c.in-Some.place c.index_mut.result.now place in
    let named = c.in_ok-field-in-Some.ensures.name ∙ named_so first in
    let new = with_set-at c.args.name c.self.inside.fields.items c.in-Some.place c.index_mut.result.now c.in_ok-field-in-Some.field first named
    ∙ ap (λ v. with_set (fields_of c.self.inside.fields.items) c.args.name (tree_of v)) c.in_ok-field-in-Some.ensures.value in
    rw new (IsSound-with_set _ _ _ c.self.invariant clean c.recall_utf8.ensures c.recall_sound.ensures)

pub append-requires-clause-new : goal.append-requires-clause-new
append-requires-clause-new c =
    let none = found-none c.args.name c.self.inside.fields.items (sym (rw (c.deref.ensures.value, c.as_str-2.ensures) at c.place_of.ensures) ∙ c.in-None.is) in
    rw (← c.self.view_is) none

pub returns-in_ok-field-in-Some-clause-ok : goal.returns-in_ok-field-in-Some-clause-ok
returns-in_ok-field-in-Some-clause-ok c =
    let place = sym (rw (c.deref.ensures.value, c.as_str-2.ensures) at c.place_of.ensures) ∙ c.in-Some.is in
    let first = first_place c.args.name c.self.inside.fields.items c.in-Some.place c.index_mut.result.now place in
    let named = c.in_ok-field-in-Some.ensures.name ∙ named_so first in
    let new = with_set-at c.args.name c.self.inside.fields.items c.in-Some.place c.index_mut.result.now c.in_ok-field-in-Some.field first named
    ∙ ap (λ v. with_set (fields_of c.self.inside.fields.items) c.args.name (tree_of v)) c.in_ok-field-in-Some.ensures.value in
    rw (← c.self.view_is) new

pub returns-in_ok-append-in-None-clause-ok : goal.returns-in_ok-append-in-None-clause-ok
returns-in_ok-append-in-None-clause-ok c =
    let none = found-none c.args.name c.self.inside.fields.items (sym (rw (c.deref.ensures.value, c.as_str-2.ensures) at c.place_of.ensures) ∙ c.in-None.is) in
    rw (c.in_ok-append-in-None.ensures.ok, ← c.self.view_is) (sym (with_set-new _ _ _ none))
