use Rattle.std.proofs.Common.{◌≡◌, ◌∙◌, ◌++◌, ap, List}
use Rattle.std.specs.FinMap as maps
use Rattle.std.specs.FinSet as sets
use Rattle.oplog_entry.specs.Visible.{last_of}
use Rattle.oplog_entry.specs.declared.entry.Entry.{Entry}
use Rattle.oplog_store.specs.Places.{LogWithHoles}
use Rattle.optime_slots.specs.Reserved.{Reserved}
use Rattle.set_model.specs.Fetching.{seen_after}
use Rattle.node_data.specs.NodeData.{NodeData as Seen}
use Rattle.node_data.specs.Versions.{version_as_of}
use Rattle.node_data.proofs.RestoreLemmas.{kept_stored, restored_is}
use Rattle.node_data.proofs.keeping.NodeData.restore.Goals as goal

pub invariant_of-node_data-2 : goal.invariant_of-node_data-2
invariant_of-node_data-2 g c =
    let log : c.log-2.inside.log.entries ≡ c.args.entries =
    ap (λ (l : LogWithHoles). l.entries) c.log-2.view_is ∙ c.insert_all.ensures.entries ∙ ap (λ (es : List Entry). es ++ c.into_entries-entries.result.items) (c.in_ok-reserve.ensures.entries ∙ c.new-log.ensures)
    ∙ c.into_entries-entries.ensures.entries in
    let slots : c.insert_all.new.slots.slots ≡ sets.empty = ap (λ (s : Reserved). s.slots) c.insert_all.ensures.slots ∙ ap (λ (s : Reserved). s.slots) c.new-slots.ensures in
    let seen : c.insert_all.new.slots.mark ≡ seen_after 0 c.args.entries =
    ap (λ (s : Reserved). s.mark) c.insert_all.ensures.slots ∙ ap (λ (s : Reserved). seen_after s.mark c.into_entries-entries.result.items) c.new-slots.ensures ∙ ap (λ es. seen_after 0 es) c.into_entries-entries.ensures.entries in
    rw (log, slots, seen, c.new.ensures)
    (kept_stored c.in_ok-stored.field-0 c.args.entries c.args.at c.requires.oplog c.requires.within c.requires.small c.requires.reached
    (λ p. c.in_ok-stored.ensures.versions p ∙ ap (λ d. version_as_of c.args.at (maps.get d p)) c.requires.documents) c.in_ok-stored.ensures.free c.in_ok-stored.ensures.count)

pub returns : goal.returns
returns g c =
    let log : c.log-2.inside.log.entries ≡ c.args.entries =
    ap (λ (l : LogWithHoles). l.entries) c.log-2.view_is ∙ c.insert_all.ensures.entries ∙ ap (λ (es : List Entry). es ++ c.into_entries-entries.result.items) (c.in_ok-reserve.ensures.entries ∙ c.new-log.ensures)
    ∙ c.into_entries-entries.ensures.entries in
    let slots : c.insert_all.new.slots.slots ≡ sets.empty = ap (λ (s : Reserved). s.slots) c.insert_all.ensures.slots ∙ ap (λ (s : Reserved). s.slots) c.new-slots.ensures in
    let seen : c.insert_all.new.slots.mark ≡ seen_after 0 c.args.entries =
    ap (λ (s : Reserved). s.mark) c.insert_all.ensures.slots ∙ ap (λ (s : Reserved). seen_after s.mark c.into_entries-entries.result.items) c.new-slots.ensures ∙ ap (λ es. seen_after 0 es) c.into_entries-entries.ensures.entries in
    let end : c.last-last.result ≡ last_of c.args.entries = c.last-last.ensures ∙ ap (λ (l : LogWithHoles). last_of l.entries) c.written.ensures ∙ ap (λ (es : List Entry). last_of es) c.insert_all.ensures.entries
    ∙ ap (λ (es : List Entry). last_of (es ++ c.into_entries-entries.result.items)) (c.in_ok-reserve.ensures.entries ∙ c.new-log.ensures) ∙ ap last_of c.into_entries-entries.ensures.entries in
    ap (λ (l : Seen). l.node) c.in_ok-apply_to.ensures.ok
    ∙ restored_is c.insert_all.new.slots.mark c.log-2.inside.log.entries c.args.entries c.insert_all.new.slots.slots c.new.result c.last-last.result c.args.at log slots c.new.ensures seen end
    c.requires.oplog.order c.requires.reached
