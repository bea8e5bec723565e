use Rattle.std.proofs.Common.{◌≡◌, length, arith, ap}
use Rattle.bson_codec.specs.Spelling.{document_bytes}
use Rattle.bson_doc.specs.Tree.{document}
use Rattle.bson_codec.proofs.SpellingLemmas.{length-value_bytes}
use Rattle.bson_codec.proofs.encoding.encode.Goals as goal

pub returns-clause-ok : goal.returns-clause-ok
returns-clause-ok c =
    let spelled : c.write.new.out.items ≡ document_bytes c.args.doc.now = rw c.new-bytes.ensures.items at c.in_ok-write.ensures.laid in
    record {
      spelled = spelled;
      in_bytes = omega (arith, ap length spelled, length-value_bytes (document c.args.doc.now));
      in_levels = omega arith;
    }
