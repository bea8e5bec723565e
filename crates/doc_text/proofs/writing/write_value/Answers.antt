use Rattle.std.proofs.Common.{◌≡◌, ◌++◌, arith}
use Rattle.std.proofs.lemmas.Grind.{common_steps}
use Rattle.std.specs.Prelude.{string_bytes}
use Rattle.bson_doc.specs.View.{tree_of}
use Rattle.doc_text.specs.Printing.{printed}
use Rattle.doc_text.proofs.PrintedIsSpelled.{printed_spells, read_again}
use Rattle.doc_text.proofs.writing.write_value.Goals as goal

pub returns-clause-spelled : goal.returns-clause-spelled
returns-clause-spelled c = printed_spells (tree_of c.args.value.now) c.in_ok-write.ensures.lawful

pub returns-clause-again : goal.returns-clause-again
returns-clause-again c =
    let whole : string_bytes c.push_str.new.self ≡ string_bytes c.args.out.now ++ printed (tree_of c.args.value.now) = grind (arith, common_steps) in
    read_again (string_bytes c.args.out.now) (string_bytes c.push_str.new.self) (tree_of c.args.value.now) c.in_ok-write.ensures.lawful whole
