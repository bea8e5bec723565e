use Rattle.std.proofs.Common.{◌∙◌, ◌++◌, ◌∷◌, [], ap, sym}
use Rattle.std.proofs.lemmas.List.{append_assoc}
use Rattle.checker_tables.proofs.MergeLemmas.{next_merged, next_stays, spare_less, spare_more}
use Rattle.checker_tables.proofs.merging.put_all.Goals as goal

pub insert-requires-clause-room : goal.insert-requires-clause-room
insert-requires-clause-room c =
    let list = ap (λ rest. c.loop-entry.yielded ++ rest) (sym c.in-Some.ensures.steps.0) ∙ c.loop-entry.invariant.2 in
    spare_more c.args.log.now.spare c.loop-entry.log.spare c.loop-entry.yielded _ c.args.entries.items c.in-Some.entry c.requires.room c.loop-entry.invariant.1 list

pub insert-requires-clause-stays : goal.insert-requires-clause-stays
insert-requires-clause-stays c =
    let list = ap (λ rest. c.loop-entry.yielded ++ rest) (sym c.in-Some.ensures.steps.0) ∙ c.loop-entry.invariant.2 in
    next_stays c.loop-entry.log.entries c.args.log.now.entries c.loop-entry.yielded _ c.args.entries.items c.in-Some.entry c.loop-entry.invariant.0 list c.requires.stays

pub loop-entry-preserved : goal.loop-entry-preserved
loop-entry-preserved c =
    let list = ap (λ rest. c.loop-entry.yielded ++ rest) (sym c.in-Some.ensures.steps.0) ∙ c.loop-entry.invariant.2 in (
      next_merged c.loop-entry.log.entries c.insert.new.self.entries c.args.log.now.entries c.loop-entry.yielded c.in-Some.entry c.loop-entry.invariant.0 (ap (λ l. l.entries) c.insert.ensures),
      spare_less c.args.log.now.spare c.loop-entry.log.spare c.insert.new.self.spare c.loop-entry.yielded c.in-Some.entry
          (spare_more c.args.log.now.spare c.loop-entry.log.spare c.loop-entry.yielded _ c.args.entries.items c.in-Some.entry c.requires.room c.loop-entry.invariant.1 list)
          c.loop-entry.invariant.1 (ap (λ l. l.spare) c.insert.ensures),
      append_assoc c.loop-entry.yielded (c.in-Some.entry ∷ []) c.next.new.self.rest.items ∙ list,
    )
