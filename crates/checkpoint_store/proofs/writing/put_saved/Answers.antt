use Rattle.std.proofs.Common.{◌≡◌, ◌∙◌, length, arith, refl}
use Rattle.bson_doc.specs.Tree.{document}
use Rattle.bson_codec.specs.Numbers.{number_bytes}
use Rattle.bson_codec.specs.Spelling.{document_bytes}
use Rattle.bson_codec.proofs.SpellingLemmas.{length-number_bytes, length-value_bytes, sized_after}
use Rattle.version_store.specs.Shown.{placed}
use Rattle.checkpoint_store.proofs.SizeLemmas.{document_after, document_room, saved_whole}
use Rattle.checkpoint_store.proofs.writing.put_saved.Goals as goal

pub put_size-requires-clause-room : goal.put_size-requires-clause-room
put_size-requires-clause-room c =
    let start : c.len-start.result ≡ length c.put_name.new.out.items = omega arith in
    omega (arith, start, document_room c.args.shown.now.document.now _ _ _ c.in_ok-put_u32.ensures c.in_ok-write.ensures.laid)

pub put_size-requires-clause-short : goal.put_size-requires-clause-short
put_size-requires-clause-short c =
    let start : c.len-start.result ≡ length c.put_name.new.out.items = omega arith in
    omega (arith, start, document_room c.args.shown.now.document.now _ _ _ c.in_ok-put_u32.ensures c.in_ok-write.ensures.laid, c.requires.bytes)

pub returns-clause-laid : goal.returns-clause-laid
returns-clause-laid c =
    let start : c.len-start.result ≡ length c.put_name.new.out.items = omega arith in
    let whole = document_after c.args.shown.now.document.now _ _ _ c.in_ok-put_u32.ensures c.in_ok-write.ensures.laid in
    c.put_size.ensures.laid ∙ (rw start (sized_after c.put_name.new.out.items (number_bytes 4 0) (document_bytes c.args.shown.now.document.now) c.write.new.out.items (length-number_bytes 4 0) whole))
    ∙ saved_whole (placed c.args.shown.now) c.args.out.now.items c.put_name.new.out.items c.in_ok-put_name.ensures.laid

pub returns-clause-fits : goal.returns-clause-fits
returns-clause-fits c = record {
  short = c.requires.short;
  text = c.put_name.ensures.text;
  key = c.requires.key;
  sound = c.recall_sound.ensures;
  spelling = record {
    spelled = refl;
    in_bytes = omega (arith, length-value_bytes (document c.args.shown.now.document.now), c.requires.bytes);
    in_levels = c.requires.levels;
  };
}
