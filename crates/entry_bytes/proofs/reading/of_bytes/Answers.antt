use Rattle.entry_bytes.specs.Layout.{document_of}
use Rattle.entry_bytes.proofs.AnswerLemmas.{answered, read_again, not_refused}
use Rattle.entry_bytes.proofs.DirectLemmas.{spelled_answers, spelled_once}
use Rattle.entry_bytes.proofs.reading.of_bytes.Goals as goal

pub returns-in-Some-clause-only : goal.returns-in-Some-clause-only
returns-in-Some-clause-only c = λ e law sound spelling.
    let told = rw c.in-Some.is at c.in_ok-entry.ensures in
    spelled_once c.in-Some.entry e c.args.bytes.now told.0 told.1 told.2 law sound spelling

pub returns-in-Some-clause-exact : goal.returns-in-Some-clause-exact
returns-in-Some-clause-exact c =
    let told = rw c.in-Some.is at c.in_ok-entry.ensures in
    spelled_answers c.in-Some.entry c.args.bytes.now told.0 told.1 told.2

pub returns-in_err-document-clause-only : goal.returns-in_err-document-clause-only
returns-in_err-document-clause-only c = λ e law sound spelling.
    let told = not_refused c.in_err-document.field-0.0 e (c.in_err-document.ensures.only (document_of e) sound spelling) in
    answered e _ c.from_residual-in_err-document.result c.from_residual-in_err-document.ensures.1 told

pub returns-clause-only : goal.returns-clause-only
returns-clause-only c = λ e law sound spelling.
    read_again e c.in_ok-document.document c.entry_of.result law (c.in_ok-document.ensures.only (document_of e) sound spelling) c.entry_of.ensures
