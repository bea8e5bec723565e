use Rattle.std.proofs.Common.{ap, arith, length, length-append}
use Rattle.bson_codec.proofs.NumberLemmas.{long, number_read, rest_read}
use Rattle.record_file.proofs.ListLemmas.{piece_is, later_is}
use Rattle.checkpoint_store.proofs.PartLemmas.{sized_parts}
use Rattle.checkpoint_store.proofs.reading.sized_of.Goals as goal

pub u32_of-size-requires : goal.u32_of-size-requires
u32_of-size-requires c = long 4 _ _ _ (sized_parts c.requires.0 _ _ c.requires.3)

pub split_at-requires : goal.split_at-requires
split_at-requires c =
    let parts = sized_parts c.requires.0 _ _ c.requires.3 in
    let size = number_read 4 _ _ _ _ (omega (arith, c.requires.2)) parts c.u32_of-size.ensures.number in
    let rest = rest_read 4 _ _ _ _ parts c.u32_of-size.ensures.rest in
    omega (arith, size, ap length rest, length-append c.requires.0 c.requires.1)

pub returns : goal.returns
returns c = λ piece after short is.
    let parts = sized_parts piece _ _ is in
    let size = number_read 4 _ _ _ _ (omega (arith, short)) parts c.u32_of-size.ensures.number in
    let rest = rest_read 4 _ _ _ _ parts c.u32_of-size.ensures.rest in
    (piece_is piece _ _ _ _ rest size c.split_at.ensures.front, later_is piece _ _ _ _ rest size c.split_at.ensures.back)
