use Rattle.std.proofs.Common.{◌≡◌, ◌∙◌, ap, map, subst, sym, IfOk}
use Rattle.std.specs.FinMap as maps
use Rattle.std.specs.List.{All}
use Rattle.std.proofs.lemmas.List.Elements.{All-filter}
use Rattle.oplog_entry.specs.Lawful.{IsLawful}
use Rattle.oplog_entry.specs.Visible.{is_before}
use Rattle.oplog_entry.specs.declared.entry.Entry.{Entry}
use Rattle.oplog_store.specs.Places.{LogWithHoles}
use Rattle.repl_msg.specs.Logs.{log_after}
use Rattle.repl_msg.specs.Rollback.{touched_documents}
use Rattle.rollback_core.specs.Lost.{lost_of}
use Rattle.set_model.specs.Reads.{local_documents}
use Rattle.node_data.specs.NodeData.{NodeData as Seen}
use Rattle.node_data.proofs.ShownLemmas.{local_latest}
use Rattle.node_data.proofs.keeping.NodeData.lost_after.Goals as goal

pub lost_documents-requires : goal.lost_documents-requires
lost_documents-requires c =
    let same : c.after.result.now ≡ log_after c.args.at c.self.inside.log.entries = c.after.ensures ∙ ap (log_after c.args.at) (c.settled.ensures ∙ ap (λ (l : LogWithHoles). l.settled) (c.written.ensures ∙ c.gather.ensures)) in
    subst (All IsLawful) (sym same) (All-filter (λ (e : Entry). is_before c.args.at e.optime) IsLawful c.self.inside.log.entries c.self.invariant.sound.oplog.lawful)

pub returns-clause-lost : goal.returns-clause-lost
returns-clause-lost c =
    let same : c.after.result.now ≡ log_after c.args.at c.self.inside.log.entries = c.after.ensures ∙ ap (log_after c.args.at) (c.settled.ensures ∙ ap (λ (l : LogWithHoles). l.settled) (c.written.ensures ∙ c.gather.ensures)) in
    subst (λ value. IfOk c.lost_documents.result (λ lost. map lost_of lost.items ≡ value))
    ((λ i. touched_documents (λ place. local_latest _ c.self.inside.store c.self.invariant place i) (same i))
    ∙ ap (λ (s : Seen). touched_documents (λ place. maps.get (local_documents s.node) place) (log_after c.args.at s.node.log)) c.self.view_is)
    c.lost_documents.ensures
