use Rattle.std.proofs.Common.{List, ℕ, ap, sym, ◌∙◌}
use Rattle.std.specs.Map.Iter.{deref}
use Rattle.std.proofs.lemmas.Map.Iter.{rest_more, rest_all}
use Rattle.bson_doc.specs.Tree.{text, with_item}
use Rattle.bson_doc.proofs.ItemLemmas.{both_items, both_items-nothing, both_items-with_item}
use Rattle.doc_update.specs.Check.{names_of}
use Rattle.doc_update.specs.Ordered.{as_strings}
use Rattle.doc_update.proofs.OrderLemmas.{names_of-fields_in}
use Rattle.doc_update.proofs.ordered.Ordered.names.Goals as goal

pub loop-name-init : goal.loop-name-init
loop-name-init c =
    ap (λ i. both_items i (as_strings c.into_iter-name-iterator.result)) c.new-names.ensures
    ∙ ap as_strings (c.into_iter-name-iterator.ensures.into_iter_gives ∙ c.keys-name-items.ensures.rest ∙ sym (names_of-fields_in c.self.inside.fields.entries) ∙ ap names_of c.self.view_is)

pub loop-name-preserved : goal.loop-name-preserved
loop-name-preserved c =
    let left = rest_more deref _ _ _ c.in-Some.name c.in-Some.is c.next.ensures.steps in
    ap (λ i. both_items i (as_strings c.next.new.self)) (c.in_ok-push.ensures.ok ∙ ap (λ (n : List ℕ). with_item c.loop-name.names (text n)) c.in_ok-copy.ensures)
    ∙ both_items-with_item c.loop-name.names (text c.in-Some.name.now) (as_strings c.next.new.self)
    ∙ ap (λ es. both_items c.loop-name.names (as_strings es)) (sym left) ∙ c.loop-name.invariant

pub returns : goal.returns
returns c =
    let done = rest_all deref _ _ _ c.in-None.is c.next.ensures.steps in
    sym (both_items-nothing c.loop-name.names) ∙ ap (λ es. both_items c.loop-name.names (as_strings es)) (sym done) ∙ c.loop-name.invariant
