use Rattle.std.proofs.Common.{◌≡◌, refl, arith}
use Rattle.std.specs.Prelude.{codes}
use Rattle.std.proofs.lemmas.Slice.Eq.{text_from_reads}
use Rattle.script_words.proofs.verb.Verb.named.Goals as goal

pub returns-in-deliver : goal.returns-in-deliver
returns-in-deliver c =
    let same : c.as_bytes.result.now ≡ codes "deliver" = text_from_reads c.as_bytes.result.now (codes "deliver") (omega arith) (omega arith, (omega arith, (omega arith, (omega arith, (omega arith, (omega arith, (omega arith, tt))))))) in
    rw (← c.as_bytes.ensures.value, same) refl
