use Rattle.record_file.proofs.ParseLemmas.{first_is}
use Rattle.std.proofs.Common.{get_or}
use Rattle.record_file.proofs.parse.first_record.Goals as goal

pub returns : goal.returns
returns c = (
  get_or c.args.bytes.now 0 0,
  first_is c.args.bytes.now c.from_le_bytes-len.result c.in-len5-up.len_at_least (λ i. (c.type_inv.bytes i).fits)
      c.from_le_bytes-len.ensures c.from_le_bytes-len.type_inv c.if-rest-len.false c.if-gate-eq0.false,
)
