use Rattle.std.proofs.Common.{◌≡◌, List, [], ap, rules, subst, sym}
use Rattle.set_world.specs.Went.{WentOn}
use Rattle.set_world.specs.World.{Set}
use Rattle.set_world.proofs.WentLemmas.{went_nowhere}
use Rattle.shared_set.specs.declared.attempts.Attempts.{Attempts}
use Rattle.shared_set.specs.Attempts.{WentBy}
use Rattle.shared_set.specs.declared.attempt.Attempt.{Attempt}
use Rattle.shared_set.proofs.AttemptLemmas.{tried_nothing}
use Rattle.shared_set.proofs.turning.Turning.new.Goals as goal

pub invariant_of-result : goal.invariant_of-result
invariant_of-result g c =
    let kept : c.in-Ok.world.value ≡ c.args.world = search rules in
    let begun : c.of-begun.result.value ≡ c.args.world = search rules in
    let none : c.new-in-Ok.result.list ≡ [] = ap (λ (t : Attempts). t.list) c.new-in-Ok.ensures in (
      subst (λ (s : Set g.row.D.Denot). WentOn g.D.Disk.state s c.in-Ok.world.value) (sym begun)
          (subst (λ (s : Set g.row.D.Denot). WentOn g.D.Disk.state c.args.world s) (sym kept) (went_nowhere g.D.Disk.state c.args.world)),
      subst (λ (s : Set g.row.D.Denot). WentBy g.D.Disk.state s c.in-Ok.world.value c.new-in-Ok.result.list) (sym begun)
          (subst (λ (s : Set g.row.D.Denot). WentBy g.D.Disk.state c.args.world s c.new-in-Ok.result.list) (sym kept)
          (subst (λ (l : List Attempt). WentBy g.D.Disk.state c.args.world c.args.world l) (sym none) (tried_nothing g.D.Disk.state c.args.world))),
    )
