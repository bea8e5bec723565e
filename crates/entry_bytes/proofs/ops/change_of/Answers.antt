use Rattle.std.proofs.Common.{◌≡◌, pos, codes, ap, sym, ◌∙◌, arith}
use Rattle.std.proofs.lemmas.Int.{ints}
use Rattle.bson_doc.specs.Tree.{int32, field, no_fields, fields_from}
use Rattle.bson_doc.proofs.DocLemmas.{fields_from-zero}
use Rattle.std.specs.Option.{option_copied}
use Rattle.entry_bytes.specs.Layout.{part, changes}
use Rattle.entry_bytes.specs.Parts.{given}
use Rattle.entry_bytes.proofs.PlaceLemmas.{count-from}
use Rattle.entry_bytes.proofs.AnswerLemmas.{change_reads}
use Rattle.entry_bytes.proofs.ops.change_of.Goals as goal

pub parts_in-requires : goal.parts_in-requires
parts_in-requires c = omega (arith, count-from c.args.o.now 0 _ _ _ c.in-Some.ensures)

pub returns : goal.returns
returns c =
    let version : c.in-Some.version ≡ pos 1 = omega (arith, ints) in
    let unset = given (option_copied c.in-Some-parts_in.parts.unsets) in
    let parts : fields_from 1 c.args.o.now ≡ part (codes "$set") c.in_ok-sets.sets (part (codes "$unset") c.in_ok-unsets.unsets no_fields) =
    c.in-Some-parts_in.ensures
    ∙ ap (λ s. part (codes "$set") s (part (codes "$unset") unset no_fields)) (sym c.in_ok-sets.ensures)
    ∙ ap (λ u. part (codes "$set") c.in_ok-sets.sets (part (codes "$unset") u no_fields)) (sym c.in_ok-unsets.ensures) in
    let body : c.args.o.now ≡ changes c.in_ok-sets.sets c.in_ok-unsets.unsets =
    sym (fields_from-zero c.args.o.now)
    ∙ c.in-Some.ensures
    ∙ ap (λ n. field (codes "$v") (int32 n) (fields_from 1 c.args.o.now)) version
    ∙ ap (λ rest. field (codes "$v") (int32 (pos 1)) rest) parts in
    change_reads c.args.ns.now c.args.id.now c.args.o.now c.in_ok-sets.sets c.in_ok-unsets.unsets c.fields_of.result body c.fields_of.ensures
