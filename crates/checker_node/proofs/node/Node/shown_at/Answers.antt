use Rattle.std.proofs.Common.{◌≡◌, ◌∙◌, IfOk, ap, subst, sym, take}
use Rattle.std.specs.FinMap.{get}
use Rattle.doc_shelf.specs.Shelf.{Shelf}
use Rattle.doc_shelf.proofs.ShelfLemmas.{documents_shelf}
use Rattle.oplog_entry.specs.Docs.{Documents, docs}
use Rattle.set_model.specs.Node.{Node}
use Rattle.set_model.specs.Reads.{shown_documents}
use Rattle.set_model.specs.declared.command.ReadLevel.{ReadLevel}
use Rattle.set_model.specs.declared.command.ReadLevel.TheVariants.{Local, Majority}
use Rattle.checker_node.proofs.node.Node.shown_at.Goals as goal

pub returns-in_ok-local-in-Local-clause-document : goal.returns-in_ok-local-in-Local-clause-document
returns-in_ok-local-in-Local-clause-document c =
    let node = c.args.self.now in
    let count = c.local_count-count.result in
    let documents : c.in_ok-local-in-Local.field-0.now.documents ≡ shown_documents node Local =
    ap (λ (s : Shelf). s.documents) c.in_ok-local-in-Local.ensures.shelf ∙ documents_shelf (take count c.self.inside.log)
    ∙ ap (λ (n : Node). docs (take count n.log)) c.self.view_is ∙ ap docs c.local_count-count.ensures.shown in
    subst (λ (l : ReadLevel). IfOk c.copied_at.result (λ found. found ≡ get (shown_documents node l) c.args.place.now)) (sym c.in-Local.is)
    (subst (λ (d : Documents). IfOk c.copied_at.result (λ found. found ≡ get d c.args.place.now)) documents c.copied_at.ensures)

pub returns-in_ok-majority-in-Majority-clause-document : goal.returns-in_ok-majority-in-Majority-clause-document
returns-in_ok-majority-in-Majority-clause-document c =
    let node = c.args.self.now in
    let count = c.majority_count-count.result in
    let documents : c.in_ok-majority-in-Majority.field-0.now.documents ≡ shown_documents node Majority =
    ap (λ (s : Shelf). s.documents) c.in_ok-majority-in-Majority.ensures.shelf ∙ documents_shelf (take count c.self.inside.log)
    ∙ ap (λ (n : Node). docs (take count n.log)) c.self.view_is ∙ ap docs c.majority_count-count.ensures.shown in
    subst (λ (l : ReadLevel). IfOk c.copied_at-in-Majority.result (λ found. found ≡ get (shown_documents node l) c.args.place.now)) (sym c.in-Majority.is)
    (subst (λ (d : Documents). IfOk c.copied_at-in-Majority.result (λ found. found ≡ get d c.args.place.now)) documents c.copied_at-in-Majority.ensures)
