use Rattle.std.proofs.Common.{ap, sym, subst, ◌∙◌}
use Rattle.std.proofs.lemmas.Map.Iter.{rest_more, rest_all}
use Rattle.bson_doc.specs.Tree.{IsDocument}
use Rattle.bson_doc.specs.View.{tree_of}
use Rattle.oplog_entry.specs.Walk.{join}
use Rattle.oplog_entry.proofs.WalkLemmas.{join-nothing, join-with_field, next_name}
use Rattle.doc_update.specs.Entries.{fields_in}
use Rattle.doc_update.proofs.ordered.Ordered.document.Goals as goal

pub append-requires-clause-clean : goal.append-requires-clause-clean
append-requires-clause-clean c =
    let left = rest_more (λ x. x) _ _ _ (c.in-Some.name, c.in-Some.value) c.in-Some.is c.next.ensures.steps in
    let so_far = ap (λ es. join c.loop-name.document (fields_in es)) (sym left) ∙ c.loop-name.invariant in
    (next_name c.loop-name.document c.in-Some.name (tree_of c.in-Some.value) (fields_in c.next.new.self) (subst IsDocument (sym so_far) c.requires)).0

pub append-requires-clause-new : goal.append-requires-clause-new
append-requires-clause-new c =
    let left = rest_more (λ x. x) _ _ _ (c.in-Some.name, c.in-Some.value) c.in-Some.is c.next.ensures.steps in
    let so_far = ap (λ es. join c.loop-name.document (fields_in es)) (sym left) ∙ c.loop-name.invariant in
    (next_name c.loop-name.document c.in-Some.name (tree_of c.in-Some.value) (fields_in c.next.new.self) (subst IsDocument (sym so_far) c.requires)).1

pub loop-name-preserved : goal.loop-name-preserved
loop-name-preserved c =
    let left = rest_more (λ x. x) _ _ _ (c.in-Some.name, c.in-Some.value) c.in-Some.is c.next.ensures.steps in
    let so_far = ap (λ es. join c.loop-name.document (fields_in es)) (sym left) ∙ c.loop-name.invariant in
    ap (λ d. join d (fields_in c.next.new.self)) c.in_ok-append.ensures.ok
    ∙ join-with_field c.loop-name.document c.in-Some.name (tree_of c.in-Some.value) (fields_in c.next.new.self) ∙ so_far

pub returns : goal.returns
returns c =
    let done = rest_all (λ x. x) _ _ _ c.in-None.is c.next.ensures.steps in
    sym (join-nothing c.loop-name.document) ∙ ap (λ es. join c.loop-name.document (fields_in es)) (sym done) ∙ c.loop-name.invariant
