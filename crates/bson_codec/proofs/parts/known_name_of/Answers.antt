use Rattle.std.proofs.Common.{◌≡◌, [], sym, ◌∙◌, arith}
use Rattle.std.proofs.lemmas.List.{nil_from_length}
use Rattle.bson_codec.proofs.TextLemmas.{known_cut}
use Rattle.bson_codec.proofs.parts.known_name_of.Goals as goal

pub returns-in-empty : goal.returns-in-empty
returns-in-empty c =
    let empty : c.loop-wanted.rest.now ≡ [] = nil_from_length c.loop-wanted.rest.now (omega arith) in
    sym c.loop-wanted.invariant ∙ rw empty (known_cut c.args.name.now c.loop-wanted.wanted-index c.loop-wanted-test.true)
