use Rattle.std.proofs.Common.{◌≡◌, ◌∙◌, IfOk, List, ap, map, subst, sym, take}
use Rattle.std.specs.FinMap.{get}
use Rattle.std.specs.List.{All}
use Rattle.std.proofs.lemmas.List.Elements.{All-filter}
use Rattle.bson_doc.specs.Place.{Place}
use Rattle.doc_shelf.specs.Shelf.{Shelf}
use Rattle.doc_shelf.proofs.ShelfLemmas.{documents_shelf}
use Rattle.oplog_entry.specs.Docs.{docs}
use Rattle.oplog_entry.specs.Lawful.{IsLawful}
use Rattle.oplog_entry.specs.Visible.{is_before, log_after}
use Rattle.oplog_entry.specs.declared.entry.Entry.{Entry}
use Rattle.repl_msg.specs.Rollback.{each_once, places_of}
use Rattle.set_model.specs.Node.{Node}
use Rattle.set_model.specs.Reads.{local_documents}
use Rattle.set_model.specs.Rollback.{lost_documents}
use Rattle.checker_node.proofs.node.Node.lost_after.Goals as goal

pub touched-requires : goal.touched-requires
touched-requires c =
    let same : c.after.result.now ≡ log_after c.args.point c.args.self.now.log =
    c.after.ensures ∙ ap (log_after c.args.point) c.log.ensures ∙ ap (λ (n : Node). log_after c.args.point n.log) c.self.view_is in
    subst (All IsLawful) (sym same) (All-filter (λ (e : Entry). is_before c.args.point e.optime) IsLawful c.args.self.now.log c.recall_log.ensures.lawful)

pub returns-clause-lost : goal.returns-clause-lost
returns-clause-lost c =
    let node = c.args.self.now in
    let point = c.args.point in
    let same : c.after.result.now ≡ log_after point node.log =
    c.after.ensures ∙ ap (log_after point) c.log.ensures ∙ ap (λ (n : Node). log_after point n.log) c.self.view_is in
    let places : c.in_ok-places.places.items ≡ each_once (places_of (log_after point node.log)) =
    c.in_ok-places.ensures ∙ ap (λ (l : List Entry). each_once (places_of l)) same in
    let count = c.local_count-count.result in
    let documents : c.in_ok-local.field-0.now.documents ≡ local_documents node =
    ap (λ (s : Shelf). s.documents) c.in_ok-local.ensures.shelf ∙ documents_shelf (take count c.self.inside.log)
    ∙ ap (λ (n : Node). docs (take count n.log)) c.self.view_is ∙ ap docs c.local_count-count.ensures.shown in
    let listed : map (λ (place : Place). (place, get c.in_ok-local.field-0.now.documents place)) c.in_ok-places.places.items ≡ lost_documents (local_documents node) (log_after point node.log) =
    λ i. map (λ (place : Place). (place, get (documents i) place)) (places i) in
    subst (λ value. IfOk c.stood.result (λ lost. lost ≡ value)) listed c.stood.ensures
