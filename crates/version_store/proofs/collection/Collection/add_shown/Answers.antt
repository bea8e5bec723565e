use Rattle.version_store.proofs.PartedLemmas.{adds_both}
use Rattle.version_store.proofs.collection.Collection.add_shown.Goals as goal

pub returns : goal.returns
returns c =
    rw (← c.self.view_is)
    (adds_both c.args.ns.now c.args.at c.self.inside.row c.self.inside.others c.args.gathered.now.items c.add_shown.new.gathered.items
    c.add_shown-2.new.gathered.items c.self.invariant c.in_ok-add_shown.ensures c.in_ok-add_shown-2.ensures)
