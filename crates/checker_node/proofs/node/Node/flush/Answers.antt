use Rattle.std.proofs.Common.{◌≡◌, ◌∙◌, Bool, List, ap, arith, cond, length, subst, sym, take}
use Rattle.std.specs.List.{All}
use Rattle.std.proofs.lemmas.List.{length-take}
use Rattle.oplog_entry.specs.Lawful.{IsLawful}
use Rattle.oplog_entry.specs.declared.entry.Entry.{Entry}
use Rattle.repl_msg.specs.Kept.{kept}
use Rattle.repl_msg.specs.declared.record.Record.TheVariants as records
use Rattle.set_model.specs.Disk.{flush, unjournaled}
use Rattle.set_model.specs.Node.{Node}
use Rattle.set_model.specs.Points.{evaluated}
use Rattle.set_model.specs.Stores.{in_doubt, stored}
use Rattle.set_model.specs.declared.store.Store.TheVariants as stores
use Rattle.safety_laws.specs.Sound.{IsSoundNode}
use Rattle.checker_node.specs.Done.{Does}
use Rattle.checker_node.proofs.DiskLemmas.{durable_next, entries_next, flush_broken, flush_done, flush_none, flush_stays, flushed_next, record_next}
use Rattle.checker_tables.proofs.UnkeptLemmas.{unkept_lawful}
use Rattle.checker_node.proofs.node.Node.flush.Goals as goal

pub next_durable-point-requires : goal.next_durable-point-requires
next_durable-point-requires c = omega (arith, ap length c.in_ok-next.ensures.found, length-take 2001 (unjournaled c.args.self.now))

pub new-list-requires : goal.new-list-requires
new-list-requires c =
    let node = c.args.self.now in
    subst (λ (l : List Entry). All IsLawful l) (sym (c.next_durable-point.ensures.next ∙ entries_next node c.in_ok-next.next.items c.in_ok-next.ensures.found))
    (unkept_lawful 2000 node.log (kept node.records).entries c.requires.sound.oplog)

pub store-requires-clause-stays : goal.store-requires-clause-stays
store-requires-clause-stays c =
    let node = c.unjournaled.new.self in
    let next = c.in_ok-next.next.items in
    let found = c.in_ok-next.ensures.found ∙ ap (λ (n : Node). take 2001 (unjournaled n)) (sym c.unjournaled.ensures.same) in
    let sound : IsSoundNode node = subst (λ (n : Node). IsSoundNode n) (sym c.unjournaled.ensures.same) c.requires.sound in
    flush_stays node (stores.Record (records.Entries c.new-list.result c.next_durable-point.result))
    (record_next node next c.next_durable-point.new.next.items c.new-list.result c.visible_point-visible.result c.next_durable-point.result found c.visible_point-visible.ensures
    c.next_durable-point.ensures.next c.new-list.ensures c.next_durable-point.ensures.point) sound.flushes

pub returns-then-is_flushed : goal.returns-then-is_flushed
returns-then-is_flushed c =
    let node = c.unjournaled.new.self in
    let next = c.in_ok-next.next.items in
    let found = c.in_ok-next.ensures.found ∙ ap (λ (n : Node). take 2001 (unjournaled n)) (sym c.unjournaled.ensures.same) in
    subst (λ (n : Node). Does (flush n) c.args.failed.now c.args.failed.now c.refuses.result node) c.unjournaled.ensures.same
    (flush_none node c.args.failed.now c.refuses.result node
    (sym (flushed_next node next found c.visible_point-visible.result c.visible_point-visible.ensures)
    ∙ sym (rw c.deref.ensures.value at c.is_flushed.ensures) ∙ c.if-is_flushed.true) c.refuses.ensures)

pub returns-then-not-branch : goal.returns-then-not-branch
returns-then-not-branch c =
    let node = c.unjournaled.new.self in
    let next = c.in_ok-next.next.items in
    let item = stores.Record (records.Entries c.new-list.result c.next_durable-point.result) in
    let found = c.in_ok-next.ensures.found ∙ ap (λ (n : Node). take 2001 (unjournaled n)) (sym c.unjournaled.ensures.same) in
    let visible = c.visible_point-visible in
    subst (λ (n : Node). Does (flush n) c.args.failed.now c.store.new.failed c.failed.result c.store.new.self) c.unjournaled.ensures.same
    (flush_broken node item c.args.failed.now c.store.new.failed c.failed.result c.store.new.self
    (sym (flushed_next node next found visible.result visible.ensures) ∙ sym (rw c.deref.ensures.value at c.is_flushed.ensures) ∙ c.if-is_flushed.false)
    (record_next node next c.next_durable-point.new.next.items c.new-list.result visible.result c.next_durable-point.result found visible.ensures
    c.next_durable-point.ensures.next c.new-list.ensures c.next_durable-point.ensures.point)
    (sym c.if-not-branch.true ∙ c.in_ok-store.ensures.stands)
    (c.in_ok-store.ensures.node ∙ ap (λ (b : Bool). cond b (stored node item) (in_doubt node item)) c.if-not-branch.true) c.in_ok-store.ensures.left c.failed.ensures)

pub returns : goal.returns
returns c =
    let node = c.unjournaled.new.self in
    let next = c.in_ok-next.next.items in
    let point = c.next_durable-point.result in
    let item = stores.Record (records.Entries c.new-list.result point) in
    let found = c.in_ok-next.ensures.found ∙ ap (λ (n : Node). take 2001 (unjournaled n)) (sym c.unjournaled.ensures.same) in
    let visible = c.visible_point-visible in
    let count : c.len-count.result ≡ length c.next_durable-point.new.next.items = omega arith in
    subst (λ (n : Node). Does (flush n) c.args.failed.now c.store.new.failed c.replies.result c.evaluate.new.self) c.unjournaled.ensures.same
    (flush_done node item c.len-count.result point c.args.failed.now c.store.new.failed c.replies.result c.store.new.self c.evaluate.new.self
    (sym (flushed_next node next found visible.result visible.ensures) ∙ sym (rw c.deref.ensures.value at c.is_flushed.ensures) ∙ c.if-is_flushed.false)
    (record_next node next c.next_durable-point.new.next.items c.new-list.result visible.result point found visible.ensures
    c.next_durable-point.ensures.next c.new-list.ensures c.next_durable-point.ensures.point)
    (count ∙ ap length (c.next_durable-point.ensures.next ∙ entries_next node next found))
    (c.next_durable-point.ensures.point ∙ durable_next node next found visible.result visible.ensures)
    (sym c.if-not-branch.false ∙ c.in_ok-store.ensures.stands)
    (c.in_ok-store.ensures.node ∙ ap (λ (b : Bool). cond b (stored node item) (in_doubt node item)) c.if-not-branch.false) c.in_ok-store.ensures.left
    (c.evaluate.ensures ∙ ap (λ (n : Node). evaluated (record n { durable = point })) c.self.view_is) c.replies.ensures)
