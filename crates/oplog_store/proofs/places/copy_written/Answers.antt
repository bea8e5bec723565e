use Rattle.std.proofs.Common.{◌≡◌, ◌<◌, ◌∙◌, ◌++◌, ◌∷◌, [], ap, arith, sym, length, take}
use Rattle.std.proofs.lemmas.List.{append_assoc}
use Rattle.oplog_store.specs.Places.{written}
use Rattle.oplog_store.proofs.PlaceLemmas.{written_next}
use Rattle.oplog_store.proofs.places.copy_written.Goals as goal

pub loop-place-preserved : goal.loop-place-preserved
loop-place-preserved c =
    let places = c.args.beyond.now.items in
    let long : c.args.beyond.now.len ≡ length places = c.args.beyond.now.ok.0 in
    let end : c.len-place-end.result ≡ c.args.beyond.now.len = c.len-place-end.ensures in
    let within : c.loop-place.place < length places = omega (arith, c.loop-place-test.true) in
    c.in_ok-copy_entry.ensures ∙ ap (λ log. log ++ written (c.index.result.now ∷ [])) c.loop-place.invariant
    ∙ append_assoc c.args.copies.now.items (written (take c.loop-place.place places)) (written (c.index.result.now ∷ []))
    ∙ ap (λ log. c.args.copies.now.items ++ log) (sym (written_next places c.loop-place.place c.index.result.now within c.index.ensures))
