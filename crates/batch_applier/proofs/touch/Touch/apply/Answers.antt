use Rattle.std.proofs.Common.{◌∙◌}
use Rattle.bson_doc.proofs.BindLemmas.{on_ok}
use Rattle.batch_applier.proofs.PartLemmas.{applied_one}
use Rattle.batch_applier.proofs.touch.Touch.apply.Goals as goal

pub put_in-requires-clause-own : goal.put_in-requires-clause-own
put_in-requires-clause-own c =
    rw (c.as_str-ns.ensures, c.in_ok-copy.ensures) ((rw (← c.self.view_is) at c.requires.own) (c.self.inside.ns.now, c.self.inside.id) c.self.invariant)

pub put_in-requires-clause-later : goal.put_in-requires-clause-later
put_in-requires-clause-later c =
    rw (c.as_str-ns.ensures, c.in_ok-copy.ensures) ((rw (← c.self.view_is) at c.requires.later) (c.self.inside.ns.now, c.self.inside.id) c.self.invariant)

pub returns-clause-ok : goal.returns-clause-ok
returns-clause-ok c =
    rw (← c.self.view_is)
    (on_ok c.put_in.result
    (λ changes.
    applied_one c.args.shard.now c.put_in.new.self c.self.inside.entry.now (c.self.inside.ns.now, c.self.inside.id) c.in_ok-after.after c.self.invariant
    ((rw c.or.ensures at c.in_ok-after.ensures.after) ∙ (rw (← c.self.view_is) at c.base-before.ensures) (c.self.inside.ns.now, c.self.inside.id) c.self.invariant) changes)
    (rw (c.as_str-ns.ensures, c.in_ok-copy.ensures) at c.put_in.ensures.ok))
