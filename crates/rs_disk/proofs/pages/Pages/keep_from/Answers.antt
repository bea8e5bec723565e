use Rattle.rs_disk.proofs.PageLemmas.{begins, begins_within, keeps, keeps_within, none_there}
use Rattle.std.proofs.Common.{◌≡◌, ◌∙◌, ◌++◌, List, ℕ, ap, refl, arith}
use Rattle.std.specs.Prelude.{slice_range, vec_len}
use Rattle.rs_disk.proofs.pages.Pages.keep_from.Goals as goal

pub returns-then-is_empty-clause-within : goal.returns-then-is_empty-clause-within
returns-then-is_empty-clause-within c = begins_within c.args.self.now _ c.args.at c.requires.within c.if-at-self.false refl refl refl refl refl refl refl

pub returns-then-is_empty-clause-file : goal.returns-then-is_empty-clause-file
returns-then-is_empty-clause-file c = λ file holds.
    let none : vec_len c.args.self.now.kept ≡ 0 = none_there (vec_len c.args.self.now.kept) c.is_empty.result c.is_empty.ensures c.if-is_empty.true in
    begins c.args.self.now _ file c.args.at holds c.if-at-self.false (omega (arith, none)) refl refl refl refl refl refl refl (returns-then-is_empty-clause-within c)

pub returns-clause-within : goal.returns-clause-within
returns-clause-within c =
    let old = c.args.self.now in
    keeps_within old _ c.args.at c.requires.within c.if-at-self.false refl
    (c.prepend.ensures.items ∙ ap (λ (l : List ℕ). slice_range l c.args.at old.first ++ old.kept.items) c.deref.ensures.value) c.prepend_unset.ensures.items
    c.prepend.ensures.capacity c.prepend_unset.ensures.capacity refl refl refl refl

pub returns-clause-file : goal.returns-clause-file
returns-clause-file c = λ file holds.
    let old = c.args.self.now in
    keeps old _ file c.args.at holds c.if-at-self.false refl
    (c.prepend.ensures.items ∙ ap (λ (l : List ℕ). slice_range l c.args.at old.first ++ old.kept.items) c.deref.ensures.value) c.prepend_unset.ensures.items
    refl refl refl refl (returns-clause-within c)
