use Rattle.std.proofs.Common.{◌∙◌, ◌++◌, ◌∷◌, [], ap, sym}
use Rattle.std.proofs.lemmas.List.{append_assoc}
use Rattle.node_data.proofs.AppendLemmas.{log_more, next_oplog, slots_more, spare_more}
use Rattle.node_data.proofs.following.insert_all.Goals as goal

pub take_in-requires-clause-stays : goal.take_in-requires-clause-stays
take_in-requires-clause-stays c =
    let so_far = c.loop-entry.invariant in
    let list = ap (λ rest. c.loop-entry.yielded ++ rest) (sym c.in-Some.ensures.steps.0) ∙ so_far.3 in
    rw so_far.0 (next_oplog c.args.log.now.entries c.loop-entry.yielded _ c.args.entries.items c.in-Some.entry list c.requires.stays)

pub loop-entry-preserved : goal.loop-entry-preserved
loop-entry-preserved c =
    let so_far = c.loop-entry.invariant in
    let list = ap (λ rest. c.loop-entry.yielded ++ rest) (sym c.in-Some.ensures.steps.0) ∙ so_far.3 in (
      log_more c.loop-entry.log.entries c.take_in.new.self.entries c.args.log.now.entries c.loop-entry.yielded _ c.args.entries.items c.in-Some.entry so_far.0 c.take_in.ensures.entries list c.requires.stays,
      spare_more c.args.log.now.spare c.loop-entry.log.spare c.take_in.new.self.spare c.loop-entry.yielded c.in-Some.entry so_far.1 c.take_in.ensures.spare,
      slots_more c.loop-entry.slots c.seen.new.self c.args.slots.now.slots c.args.slots.now.mark c.loop-entry.yielded c.in-Some.entry so_far.2 c.seen.ensures,
      append_assoc c.loop-entry.yielded (c.in-Some.entry ∷ []) c.next.new.self.rest.items ∙ list,
    )
