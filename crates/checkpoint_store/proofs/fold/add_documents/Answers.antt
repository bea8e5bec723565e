use Rattle.std.proofs.Common.{sym, arith}
use Rattle.bson_codec.proofs.NumberLemmas.{long, number_read, rest_read}
use Rattle.bson_doc.proofs.BindLemmas.{on_ok}
use Rattle.checkpoint_store.proofs.fold.add_documents.Goals as goal

pub u32_of-count-requires : goal.u32_of-count-requires
u32_of-count-requires c = long 4 _ _ _ c.requires.2

pub add_each-requires : goal.add_each-requires
add_each-requires c =
    let count = number_read 4 _ _ _ _ (omega (arith, c.requires.1.0)) c.requires.2 c.u32_of-count.ensures.number in
    (c.requires.0, record { number = sym count; each = c.requires.1.1; spelled = rest_read 4 _ _ _ _ c.requires.2 c.u32_of-count.ensures.rest })

pub returns : goal.returns
returns c =
    on_ok c.add_each.result
    (λ added more are is.
    let count = number_read 4 _ _ _ _ (omega (arith, are.0)) is c.u32_of-count.ensures.number in
    added more (record { number = sym count; each = are.1; spelled = rest_read 4 _ _ _ _ is c.u32_of-count.ensures.rest }))
    c.add_each.ensures
