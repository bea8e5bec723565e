use Rattle.std.proofs.Common.{◌∙◌, ap, subst}
use Rattle.set_world.specs.Went.{WentOn}
use Rattle.set_world.specs.World.{Set}
use Rattle.shared_set.specs.Attempts.{WentBy}
use Rattle.shared_set.specs.Passes.{begun_as, sizes_of}
use Rattle.shared_set.specs.Sets.{sizes_in}
use Rattle.shared_set.proofs.CallLemmas.{begun_same, closes, tries}
use Rattle.shared_set.proofs.shared.SharedSet.close.Goals as goal

pub returns-clause-closes : goal.returns-clause-closes
returns-clause-closes g c =
    rw c.into_world.ensures.same (closes g.D.Disk.state (sizes_of c.args.self) c.args.pass.view c.close.result (ap (λ l. sizes_in l) c.requires.pass.0.4) (c.requires.pass.0.3 ∙ c.args.self.fresh)
    (subst (λ (s : Set g.row.D.Denot). WentBy g.D.Disk.state c.close.result.begun s c.close.result.tried) c.into_world.ensures.same c.into_world.ensures.tried) c.close.ensures)

pub returns-clause-went : goal.returns-clause-went
returns-clause-went g c =
    subst (λ (s : Set g.row.D.Denot). WentOn g.D.Disk.state s c.into_world.result) (begun_same c.args.pass.view c.close.result (begun_as c.args.self) c.requires.pass.0.4 c.close.ensures)
    c.into_world.ensures.went

pub returns-clause-tried : goal.returns-clause-tried
returns-clause-tried g c = record {
  all = c.close.result.tried;
  went = subst (λ (s : Set g.row.D.Denot). WentBy g.D.Disk.state s c.into_world.result c.close.result.tried) (begun_same c.args.pass.view c.close.result (begun_as c.args.self) c.requires.pass.0.4 c.close.ensures)
      c.into_world.ensures.tried;
  tried = tries g.D.Disk.state (sizes_of c.args.self) c.args.pass.view c.close.result (ap (λ l. sizes_in l) c.requires.pass.0.4) (c.requires.pass.0.3 ∙ c.args.self.fresh)
      (subst (λ (s : Set g.row.D.Denot). WentBy g.D.Disk.state c.close.result.begun s c.close.result.tried) c.into_world.ensures.same c.into_world.ensures.tried) c.close.ensures;
}
