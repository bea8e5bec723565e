use Rattle.std.proofs.Common.{◌∙◌, refl, arith}
use Rattle.bson_doc.specs.Names.{AreAllNames}
use Rattle.bson_doc.proofs.DocLemmas.{count-with_field}
use Rattle.bson_doc.proofs.NameLemmas.{is_some-with_field}
use Rattle.bson_doc.proofs.builder.with_name.Goals.{in-Some, in-None-2+in_ok-all-in-None-2}
use Rattle.bson_doc.proofs.builder.with_name.Goals as goal

pub returns-in-None : goal.returns-in-None
returns-in-None c = λ value. omega (arith, count-with_field c.args.doc.now c.args.name.now value, c.len.ensures.count, c.if-len-lt-FEW_FIELDS.true)

pub returns : goal.returns
returns c = λ value name.
    let before : AreAllNames c.args.doc.now c.match-names.all = elim c.match-names.branch [
      | in-Some w ↦ rw w.all-is (rw w.in-Some.is at c.requires)
      | in-None-2+in_ok-all-in-None-2 w ↦ rw w.all-is w.in_ok-all-in-None-2.ensures
    ] in
    rw is_some-with_field (c.in_ok-insert.ensures name ∙ rw (before name) refl)
