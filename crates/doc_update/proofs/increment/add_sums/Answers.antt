use Rattle.std.proofs.Common.{◌≡◌, ◌-◌, ◌+◌, ◌||◌, List, ℕ, not, sym, ap, ◌∙◌}
use Rattle.bson_doc.specs.Tree.{found, fields_from}
use Rattle.bson_doc.specs.View.{tree_of}
use Rattle.doc_update.specs.Increment.{can_add, has_wrong_side}
use Rattle.doc_update.proofs.NameRules.{has_wrong_side-from}
use Rattle.doc_update.proofs.increment.add_sums.Goals as goal

pub returns-in-WrongSide : goal.returns-in-WrongSide
returns-in-WrongSide c =
    let document = c.args.document.now in
    let operands = c.args.operands.now in
    let later = has_wrong_side document (fields_from (c.loop-place.place - 1 + 1) operands) in
    let old : found c.in-Some.name.now document ≡ _ = ap (λ (n : List ℕ). found n document) (sym c.in_ok-name.ensures) ∙ sym c.get.ensures in
    has_wrong_side-from document operands (c.loop-place.place - 1)
    (ap (has_wrong_side document) c.in-Some.ensures
    ∙ ap (λ o. not (can_add o (tree_of c.in-Some.operand.now)) || later) old
    ∙ ap (λ b. not b || later) c.in-WrongSide.ensures)
