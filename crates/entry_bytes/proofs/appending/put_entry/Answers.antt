use Rattle.std.proofs.Common.{◌≡◌, ◌∙◌, ◌+◌, ◌++◌, ◌∷◌, [], ℕ, length, ap, arith, refl}
use Rattle.std.proofs.lemmas.Result.{IfOk-equal}
use Rattle.bson_doc.proofs.BindLemmas.{on_ok}
use Rattle.bson_codec.specs.Numbers.{number_bytes}
use Rattle.bson_codec.specs.Spelling.{fields_bytes}
use Rattle.bson_codec.proofs.SpellingLemmas.{closed, length-fields_bytes}
use Rattle.entry_bytes.specs.Layout.{document_of}
use Rattle.entry_bytes.proofs.AppendingLemmas.{entry_counts, entry_laid, room, sound_document}
use Rattle.entry_bytes.proofs.appending.put_entry.Goals as goal

pub close-requires-clause-short : goal.close-requires-clause-short
close-requires-clause-short c =
    let whole = entry_laid c.args.entry.now _ _ _ _ _ _ c.in_ok-extend_from_slice.ensures.items (rw c.requires.op at c.in_ok-put_head.ensures.laid) (rw c.requires.op at c.in_ok-put_body.ensures.laid) (rw c.requires.op at c.in_ok-put_target.ensures.laid) c.in_ok-put_session.ensures.laid in
    let counts = entry_counts c.args.entry.now _ _ whole in
    let start : c.len-start.result ≡ length c.args.out.now.items = omega arith in
    omega (arith, counts, start, c.requires.short)

pub returns-clause-laid : goal.returns-clause-laid
returns-clause-laid c =
    let fields = document_of c.args.entry.now in
    let whole = entry_laid c.args.entry.now _ _ _ _ _ _ c.in_ok-extend_from_slice.ensures.items (rw c.requires.op at c.in_ok-put_head.ensures.laid) (rw c.requires.op at c.in_ok-put_body.ensures.laid) (rw c.requires.op at c.in_ok-put_target.ensures.laid) c.in_ok-put_session.ensures.laid in
    let start : c.len-start.result ≡ length c.args.out.now.items = omega arith in
    let sealed = closed c.args.out.now.items room (fields_bytes fields) c.put_session.new.out.items refl whole in
    let counted = ap (λ (n : ℕ). c.args.out.now.items ++ (number_bytes 4 (5 + n) ++ fields_bytes fields ++ 0 ∷ [])) (length-fields_bytes fields) in
    IfOk-equal c.close.result c.close.new.out.items _ _ c.close.ensures.laid (rw start (sealed ∙ counted))

pub returns-clause-sound : goal.returns-clause-sound
returns-clause-sound c =
    on_ok c.close.result (λ _. sound_document c.args.entry.now (rw c.requires.op at c.in_ok-put_head.ensures.sound) (rw c.requires.op at c.in_ok-put_body.ensures.sound) (rw c.requires.op at c.in_ok-put_target.ensures.sound) c.in_ok-put_session.ensures.sound) c.close.ensures.laid
