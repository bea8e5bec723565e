use Rattle.std.proofs.Common.{◌∙◌, sym}
use Rattle.version_store.proofs.PartedLemmas.{past_after, past_placed}
use Rattle.version_store.proofs.collection.Collection.history.Goals as goal

pub returns-in-Some : goal.returns-in-Some
returns-in-Some c =
    rw (← c.self.view_is)
    (past_placed c.self.inside.row c.self.inside.others c.args.id.now c.in-Some.place c.in-Some.ensures.found.0 c.in-Some.ensures.order c.in-Some.ensures.found.1
    ∙ sym (c.at.ensures c.args.id.now c.in-Some.ensures.found.0 c.in-Some.ensures.found.1))

pub returns-in-None : goal.returns-in-None
returns-in-None c =
    rw (← c.self.view_is, past_after c.self.inside.row c.self.inside.others c.args.id.now c.in-None.ensures.found) c.history.ensures
