use Rattle.bson_codec.proofs.PartLemmas.{number_takes, wide4}
use Rattle.entry_bytes.proofs.direct_reading.short_of.Goals as goal

pub returns-in-Ok : goal.returns-in-Ok
returns-in-Ok c = (number_takes 4 wide4 c.args.bytes.now _ _ (λ i. (c.type_inv.bytes i).fits) c.in-Ok.ensures).0.parts
