use Rattle.record_file.proofs.ListLemmas.{piece_is, later_is}
use Rattle.node_journal.proofs.PartLemmas.{entry_parts, entry_short, no_fault, no_other_shape, spelled_here}
use Rattle.std.proofs.Common.{ap, arith, length, length-append}
use Rattle.bson_codec.proofs.NumberLemmas.{number_read, rest_read}
use Rattle.node_journal.specs.Layout.{entry_bytes}
use Rattle.node_journal.proofs.reading.entry_of.Goals as goal

pub split_at-requires : goal.split_at-requires
split_at-requires c =
    let e = c.requires.0 in
    let parts = entry_parts e _ _ c.requires.3 in
    let size = number_read 4 _ _ _ _ (entry_short e c.requires.2) parts c.u32_of-size.ensures.number in
    let rest = rest_read 4 _ _ _ _ parts c.u32_of-size.ensures.rest in
    omega (arith, size, ap length rest, length-append (entry_bytes e) c.requires.1)

pub returns-in-Ok : goal.returns-in-Ok
returns-in-Ok c = λ e after is_entry is.
    let parts = entry_parts e _ _ is in
    let size = number_read 4 _ _ _ _ (entry_short e is_entry) parts c.u32_of-size.ensures.number in
    let rest = rest_read 4 _ _ _ _ parts c.u32_of-size.ensures.rest in
    let piece = piece_is (entry_bytes e) _ _ _ _ rest size c.split_at.ensures.front in
    (c.in-Ok.ensures.only e is_entry.lawful is_entry.sound (spelled_here e _ is_entry piece), later_is (entry_bytes e) _ _ _ _ rest size c.split_at.ensures.back)

pub unreachable-requires : goal.unreachable-requires
unreachable-requires c =
    let e = c.requires.0 in
    let parts = entry_parts e _ _ c.requires.3 in
    let size = number_read 4 _ _ _ _ (entry_short e c.requires.2) parts c.u32_of-size.ensures.number in
    let rest = rest_read 4 _ _ _ _ parts c.u32_of-size.ensures.rest in
    let piece = piece_is (entry_bytes e) _ _ _ _ rest size c.split_at.ensures.front in
    no_fault e _ _ (c.in-Err-Codec.ensures.only e c.requires.2.lawful c.requires.2.sound (spelled_here e _ c.requires.2 piece)) c.in-Err-Codec.field-0-is

pub unreachable-requires-in-Err-Shape : goal.unreachable-requires-in-Err-Shape
unreachable-requires-in-Err-Shape c =
    let e = c.requires.0 in
    let parts = entry_parts e _ _ c.requires.3 in
    let size = number_read 4 _ _ _ _ (entry_short e c.requires.2) parts c.u32_of-size.ensures.number in
    let rest = rest_read 4 _ _ _ _ parts c.u32_of-size.ensures.rest in
    let piece = piece_is (entry_bytes e) _ _ _ _ rest size c.split_at.ensures.front in
    no_other_shape e _ (c.in-Err-Shape.ensures.only e c.requires.2.lawful c.requires.2.sound (spelled_here e _ c.requires.2 piece)) c.in-Err-Shape.field-0-is
