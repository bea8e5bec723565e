use Rattle.version_store.specs.Cuts.{left_by}
use Rattle.version_store.proofs.CutLemmas.{left_nothing}
use Rattle.version_store.proofs.PartedLemmas.{apart_cut, changes_cut}
use Rattle.version_store.proofs.collection.Collection.cut.Goals as goal

pub returns : goal.returns
returns c =
    rw (← c.self.view_is)
    (changes_cut c.self.inside.row c.self.inside.others c.cut.new.self c.cut-2.new.self (left_by c.args.cut) (left_nothing c.args.cut) c.self.invariant c.cut.ensures.kept
    c.cut.ensures.each c.cut-2.ensures)

pub invariant_of-self : goal.invariant_of-self
invariant_of-self c =
    apart_cut c.self.inside.row c.self.inside.others c.cut.new.self c.cut-2.new.self (left_by c.args.cut) (left_nothing c.args.cut) c.self.invariant c.cut.ensures.kept c.cut-2.ensures
