use Rattle.std.proofs.Common.{sym, ap, ◌∙◌}
use Rattle.oplog_entry.specs.Step.{document_after}
use Rattle.doc_fold.proofs.MapLemmas.{applied-documents_of, applied-documents_of-twice}
use Rattle.doc_fold.proofs.fold.apply_entry.Goals as goal

pub returns-in_ok-insert-in-Some-2-clause-ok : goal.returns-in_ok-insert-in-Some-2-clause-ok
returns-in_ok-insert-in-Some-2-clause-ok c =
    applied-documents_of c.args.docs.now.entries c.insert.new.self.entries c.args.entry.now c.in-Some.place _ _
    (sym c.in_ok-place.ensures ∙ c.in-Some.is) c.get.ensures.value (sym c.in-Some-2.is ∙ (rw c.or.ensures at c.in_ok-document.ensures.after)) c.in_ok-insert-in-Some-2.ensures.updates.0

pub returns-in_ok-insert-in-Some-2-clause-twice : goal.returns-in_ok-insert-in-Some-2-clause-twice
returns-in_ok-insert-in-Some-2-clause-twice c =
    applied-documents_of-twice c.args.docs.now.entries c.insert.new.self.entries c.args.entry.now c.in-Some.place _ _
    (sym c.in_ok-place.ensures ∙ c.in-Some.is) c.get.ensures.value (sym c.in-Some-2.is ∙ (rw c.or.ensures at c.in_ok-document.ensures.after))
    (ap (document_after c.args.entry.now.op) (sym c.in-Some-2.is) ∙ (rw c.or.ensures at c.in_ok-document.ensures.twice) ∙ c.in-Some-2.is) c.in_ok-insert-in-Some-2.ensures.updates.0

pub returns-in-None-clause-ok : goal.returns-in-None-clause-ok
returns-in-None-clause-ok c =
    applied-documents_of c.args.docs.now.entries c.remove.new.self.entries c.args.entry.now c.in-Some.place _ _
    (sym c.in_ok-place.ensures ∙ c.in-Some.is) c.get.ensures.value (sym c.in-None.is ∙ (rw c.or.ensures at c.in_ok-document.ensures.after)) c.remove.ensures.updates.0

pub returns-in-None-clause-twice : goal.returns-in-None-clause-twice
returns-in-None-clause-twice c =
    applied-documents_of-twice c.args.docs.now.entries c.remove.new.self.entries c.args.entry.now c.in-Some.place _ _
    (sym c.in_ok-place.ensures ∙ c.in-Some.is) c.get.ensures.value (sym c.in-None.is ∙ (rw c.or.ensures at c.in_ok-document.ensures.after))
    (ap (document_after c.args.entry.now.op) (sym c.in-None.is) ∙ (rw c.or.ensures at c.in_ok-document.ensures.twice) ∙ c.in-None.is) c.remove.ensures.updates.0
