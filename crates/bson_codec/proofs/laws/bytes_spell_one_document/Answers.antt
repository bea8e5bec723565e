use Rattle.bson_codec.proofs.AgainLemmas.{one_document}
use Rattle.bson_codec.proofs.laws.bytes_spell_one_document.Goals as goal

pub returns : goal.returns
returns c = one_document
