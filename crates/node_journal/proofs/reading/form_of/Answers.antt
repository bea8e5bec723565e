use Rattle.std.proofs.Common.{◌∙◌, sym, append-nil}
use Rattle.bson_codec.proofs.NumberLemmas.{long, number_read}
use Rattle.node_journal.proofs.reading.form_of.Goals as goal

pub u32_of-requires : goal.u32_of-requires
u32_of-requires c = long 4 _ _ _ (c.requires.2 ∙ sym (append-nil _))

pub returns : goal.returns
returns c = λ form fits is. number_read 4 form _ _ _ fits (is ∙ sym (append-nil _)) c.u32_of.ensures.number
