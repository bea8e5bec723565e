use Rattle.std.proofs.Common.{sym, ◌∙◌, refl, rules}
use Rattle.bson_doc.proofs.NameLemmas.{first_place, without-at, without-new, found-at, found-none}
use Rattle.bson_doc.proofs.SoundLemmas.{IsSound-without}
use Rattle.bson_doc.proofs.doc.Doc.remove.Goals as goal

pub invariant_of-self : goal.invariant_of-self
invariant_of-self c =
    let first = first_place c.args.name.now c.self.inside.fields.items c.in-Some.place c.remove.result (sym (rw c.deref.ensures.value at c.place_of.ensures) ∙ c.in-Some.is) in
    rw (c.remove.ensures.items, without-at _ _ _ _ first) (IsSound-without _ _ c.self.invariant)

pub returns-in-Some-clause-new : goal.returns-in-Some-clause-new
returns-in-Some-clause-new c =
    let first = first_place c.args.name.now c.self.inside.fields.items c.in-Some.place c.remove.result (sym (rw c.deref.ensures.value at c.place_of.ensures) ∙ c.in-Some.is) in
    rw (c.remove.ensures.items, ← c.self.view_is) (without-at _ _ _ _ first)

pub returns-in-Some-clause-found : goal.returns-in-Some-clause-found
returns-in-Some-clause-found c =
    let first = first_place c.args.name.now c.self.inside.fields.items c.in-Some.place c.remove.result (sym (rw c.deref.ensures.value at c.place_of.ensures) ∙ c.in-Some.is) in
    ((λ _. rw (← c.self.view_is) (found-at _ _ _ _ first)), λ _. refl)

pub returns-in-None-clause-new : goal.returns-in-None-clause-new
returns-in-None-clause-new c =
    let none = found-none c.args.name.now c.self.inside.fields.items (sym (rw c.deref.ensures.value at c.place_of.ensures) ∙ c.in-None.is) in
    rw (← c.self.view_is) (sym (without-new _ _ none))

pub returns-in-None-clause-found : goal.returns-in-None-clause-found
returns-in-None-clause-found c =
    let none = found-none c.args.name.now c.self.inside.fields.items (sym (rw c.deref.ensures.value at c.place_of.ensures) ∙ c.in-None.is) in
    rw (← c.self.view_is, none) (search rules)
