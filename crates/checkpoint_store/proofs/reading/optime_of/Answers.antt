use Rattle.std.proofs.Common.{◌∙◌, sym, append-nil}
use Rattle.bson_codec.proofs.NumberLemmas.{long, number_read, rest_read}
use Rattle.checkpoint_store.proofs.reading.optime_of.Goals as goal

pub u64_of-term-requires : goal.u64_of-term-requires
u64_of-term-requires c = long 8 _ _ _ c.requires.2

pub u64_of-ts-requires : goal.u64_of-ts-requires
u64_of-ts-requires c = long 8 _ _ _ (rest_read 8 _ _ _ _ c.requires.2 c.u64_of-term.ensures.rest ∙ sym (append-nil _))

pub returns : goal.returns
returns c = λ at fits is.
    let second = rest_read 8 _ _ _ _ is c.u64_of-term.ensures.rest ∙ sym (append-nil _) in
    let term = number_read 8 at.term _ _ _ fits.0 is c.u64_of-term.ensures.number in
    let ts = number_read 8 at.ts _ _ _ fits.1 second c.u64_of-ts.ensures.number in
    λ i. record { term = term i; ts = ts i }
