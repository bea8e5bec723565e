use Rattle.std.proofs.Common.{◌∙◌, ap, sym}
use Rattle.std.specs.Str.{is_utf8}
use Rattle.bson_doc.proofs.BindLemmas.{on_ok}
use Rattle.entry_bytes.proofs.AppendingLemmas.{sound_front}
use Rattle.entry_bytes.proofs.appending.put_head.Goals as goal

pub returns-clause-sound : goal.returns-clause-sound
returns-clause-sound c =
    on_ok c.put_string-2.result
    (λ _. sound_front c.args.optime c.args.op.now c.put_stamp.ensures.fits c.requires.term (sym (ap is_utf8 c.letter.ensures) ∙ c.put_string.ensures.sound)
    (sym (ap is_utf8 c.collection_in.ensures.name) ∙ c.put_string-2.ensures.sound)) c.put_string-2.ensures.laid
