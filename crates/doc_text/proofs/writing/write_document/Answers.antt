use Rattle.std.proofs.Common.{◌≡◌, ◌++◌, arith}
use Rattle.std.proofs.lemmas.Grind.{common_steps}
use Rattle.std.specs.Prelude.{string_bytes}
use Rattle.bson_doc.specs.Tree.{document}
use Rattle.doc_text.specs.Printing.{printed}
use Rattle.doc_text.proofs.PrintedIsSpelled.{printed_spells, read_again}
use Rattle.doc_text.proofs.writing.write_document.Goals as goal

pub returns-clause-spelled : goal.returns-clause-spelled
returns-clause-spelled c = printed_spells (document c.args.document.now) c.in_ok-write_fields.ensures.lawful

pub returns-clause-again : goal.returns-clause-again
returns-clause-again c =
    let whole : string_bytes c.push_str.new.self ≡ string_bytes c.args.out.now ++ printed (document c.args.document.now) = grind (arith, common_steps) in
    read_again (string_bytes c.args.out.now) (string_bytes c.push_str.new.self) (document c.args.document.now) c.in_ok-write_fields.ensures.lawful whole
