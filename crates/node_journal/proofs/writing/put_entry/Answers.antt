use Rattle.std.proofs.Common.{◌≡◌, ◌∙◌, length, arith, refl}
use Rattle.bson_doc.specs.Tree.{document}
use Rattle.bson_codec.specs.Numbers.{number_bytes}
use Rattle.bson_codec.proofs.SpellingLemmas.{length-number_bytes, length-value_bytes, sized_after}
use Rattle.entry_bytes.specs.Layout.{document_of}
use Rattle.node_journal.specs.Layout.{entry_bytes}
use Rattle.node_journal.proofs.SizeLemmas.{entry_after, entry_room}
use Rattle.node_journal.proofs.writing.put_entry.Goals as goal

pub put_size-requires-clause-room : goal.put_size-requires-clause-room
put_size-requires-clause-room c =
    let start : c.len-start.result ≡ length c.args.out.now.items = omega arith in
    omega (arith, start, entry_room c.args.entry.now _ _ _ c.in_ok-put_u32.ensures.laid c.in_ok-put_bytes.ensures.laid)

pub put_size-requires-clause-short : goal.put_size-requires-clause-short
put_size-requires-clause-short c =
    let start : c.len-start.result ≡ length c.args.out.now.items = omega arith in
    omega (arith, start, entry_room c.args.entry.now _ _ _ c.in_ok-put_u32.ensures.laid c.in_ok-put_bytes.ensures.laid, c.requires.within.bytes)

pub returns-clause-laid : goal.returns-clause-laid
returns-clause-laid c =
    let start : c.len-start.result ≡ length c.args.out.now.items = omega arith in
    let whole = entry_after c.args.entry.now _ _ _ c.in_ok-put_u32.ensures.laid c.in_ok-put_bytes.ensures.laid in
    c.put_size.ensures.laid ∙ (rw start (sized_after c.args.out.now.items (number_bytes 4 0) (entry_bytes c.args.entry.now) c.put_bytes.new.out.items (length-number_bytes 4 0) whole))

pub returns-clause-fits : goal.returns-clause-fits
returns-clause-fits c = record {
  lawful = c.requires.lawful;
  sound = c.in_ok-put_bytes.ensures.sound;
  spelling = record {
    spelled = refl;
    in_bytes = omega (arith, length-value_bytes (document (document_of c.args.entry.now)), c.requires.within.bytes);
    in_levels = c.requires.within.levels;
  };
}
