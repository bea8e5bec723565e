use Rattle.std.proofs.Common.{sym, ◌∙◌}
use Rattle.bson_doc.specs.View.{tree_of}
use Rattle.doc_text.proofs.ReadValues.{read_stands}
use Rattle.doc_text.proofs.SpelledIsRead.{stands_answer, read_answer, refused_answer}
use Rattle.doc_text.proofs.Refusals.{rules_out}
use Rattle.doc_text.proofs.values.read_value.Goals as goal

pub returns-in-Ok-clause-found : goal.returns-in-Ok-clause-found
returns-in-Ok-clause-found c =
    read_stands c.args.text.now c.range_from.result.now c.args.at (tree_of c.in-Ok.value) c.in-Ok.rest.now c.requires.0 c.range_from.ensures.value c.in-Ok.ensures.gives

pub returns-in-Ok-clause-only : goal.returns-in-Ok-clause-only
returns-in-Ok-clause-only c = λ tree end stands.
    sym (stands_answer c.args.text.now c.args.at tree end c.requires.0 stands) ∙ read_answer c.args.text.now c.range_from.result.now c.args.at (tree_of c.in-Ok.value) c.in-Ok.rest.now c.range_from.ensures.value c.in-Ok.ensures.gives

pub returns-in-Err-Fault-clause-only : goal.returns-in-Err-Fault-clause-only
returns-in-Err-Fault-clause-only c = λ tree end stands.
    absurd (cc (sym (stands_answer c.args.text.now c.args.at tree end c.requires.0 stands) ∙ refused_answer c.args.text.now c.range_from.result.now c.args.at c.in-Err-Fault.fault c.range_from.ensures.value (rw c.in-Err-Fault.field-0-is at c.in-Err-Fault.ensures.gives)))

pub returns-in-Err-Fault-clause-no_further : goal.returns-in-Err-Fault-clause-no_further
returns-in-Err-Fault-clause-no_further c =
    rw c.placed.ensures (rules_out c.args.text.now c.range_from.result.now c.args.at c.in-Err-Fault.fault c.requires.0 c.range_from.ensures.value (rw c.in-Err-Fault.field-0-is at c.in-Err-Fault.ensures.gives))
