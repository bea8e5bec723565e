use Rattle.std.proofs.Common.{subst, arith}
use Rattle.bson_doc.specs.Tree.{Fields}
use Rattle.bson_codec.specs.declared.error.DecodeError.{DecodeError}
use Rattle.std.specs.Prelude.{Result}
use Rattle.bson_codec.specs.Outcome.{Gives}
use Rattle.bson_codec.proofs.AgainLemmas.{document_again}
use Rattle.bson_codec.proofs.DocumentLemmas.{is_found}
use Rattle.bson_codec.proofs.whole.decode.Goals as goal

pub returns-clause-ok : goal.returns-clause-ok
returns-clause-ok c =
    is_found c.args.bounds.bytes c.args.bounds.levels c.args.bytes.now c.read.result (λ i. omega (arith, c.type_inv.bytes i)) c.read.ensures

pub returns-clause-only : goal.returns-clause-only
returns-clause-only c = λ d sound spelling.
    subst (λ (read : Result Fields DecodeError). Gives (λ (x : Fields). x) c.read.result read)
    (document_again c.args.bounds.bytes c.args.bounds.levels c.args.bytes.now d c.requires sound spelling) c.read.ensures
