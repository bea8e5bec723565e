use Rattle.std.proofs.Common.{◌≡◌, refl, arith}
use Rattle.std.specs.Prelude.{codes}
use Rattle.std.proofs.lemmas.Slice.Eq.{text_from_reads}
use Rattle.script_words.proofs.verb.WriteKind.named.Goals as goal

pub returns-in-insert : goal.returns-in-insert
returns-in-insert c =
    let same : c.as_bytes.result.now ≡ codes "insert" = text_from_reads c.as_bytes.result.now (codes "insert") (omega arith) (omega arith, (omega arith, (omega arith, (omega arith, (omega arith, (omega arith, tt)))))) in
    rw (← c.as_bytes.ensures.value, same) refl

pub returns-in-replace : goal.returns-in-replace
returns-in-replace c =
    let same : c.as_bytes.result.now ≡ codes "replace" = text_from_reads c.as_bytes.result.now (codes "replace") (omega arith) (omega arith, (omega arith, (omega arith, (omega arith, (omega arith, (omega arith, (omega arith, tt))))))) in
    rw (← c.as_bytes.ensures.value, same) refl

pub returns-in-update : goal.returns-in-update
returns-in-update c =
    let same : c.as_bytes.result.now ≡ codes "update" = text_from_reads c.as_bytes.result.now (codes "update") (omega arith) (omega arith, (omega arith, (omega arith, (omega arith, (omega arith, (omega arith, tt)))))) in
    rw (← c.as_bytes.ensures.value, same) refl

pub returns-in-delete : goal.returns-in-delete
returns-in-delete c =
    let same : c.as_bytes.result.now ≡ codes "delete" = text_from_reads c.as_bytes.result.now (codes "delete") (omega arith) (omega arith, (omega arith, (omega arith, (omega arith, (omega arith, (omega arith, tt)))))) in
    rw (← c.as_bytes.ensures.value, same) refl
