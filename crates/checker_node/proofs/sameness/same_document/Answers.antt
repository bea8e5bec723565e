use Rattle.std.proofs.Common.{◌∙◌, sym}
use Rattle.std.specs.Cmp.{Equal-is}
use Rattle.bson_doc.proofs.KeyLemmas.{place_cmp-antisymmetric}
use Rattle.checker_node.proofs.SameLemmas.{options_same, pairs_same}
use Rattle.checker_node.proofs.sameness.same_document.Goals as goal

pub returns-then-is_eq : goal.returns-then-is_eq
returns-then-is_eq c = λ same.
    let one = c.args.one.now in
    let two = c.args.other.now in
    pairs_same one two
    (place_cmp-antisymmetric one.0 two.0 (sym c.cmp.ensures ∙ (Equal-is c.cmp.result).0 (sym c.is_eq.ensures ∙ c.if-is_eq.true)))
    (options_same one.1 two.1 (sym c.eq.ensures ∙ same))
