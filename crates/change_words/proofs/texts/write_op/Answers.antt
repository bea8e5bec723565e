use Rattle.bson_doc.proofs.BindLemmas.{on_ok}
use Rattle.change_words.proofs.TextLemmas.{update_written}
use Rattle.change_words.proofs.texts.write_op.Goals as goal

pub returns-in_ok-write_words-in-Fields : goal.returns-in_ok-write_words-in-Fields
returns-in_ok-write_words-in-Fields c =
    on_ok c.write_changes.result (update_written c.args.op.now c.in-Fields.ns c.in-Fields.id c.in-Fields.sets c.in-Fields.unsets _ _ _ c.in-Fields.is c.in_ok-write_words-in-Fields.ensures)
    c.write_changes.ensures
