use Rattle.std.proofs.Common.{◌∙◌, sym, subst, ap}
use Rattle.checker_machine.specs.Reached.{IsReached}
use Rattle.run_checker.specs.Checking.{set_of}
use Rattle.set_model.specs.Limits.{Fits}
use Rattle.set_model.specs.World.{World, step}
use Rattle.play.proofs.RunLemmas.{event_fits, world_after, world_reached}
use Rattle.play.proofs.machine.done_again.Goals as goal

pub act-requires-clause-reached : goal.act-requires-clause-reached
act-requires-clause-reached c =
    subst IsReached (sym c.loop-place.invariant) (world_reached (set_of c.args.sizes) c.args.history.now c.requires c.loop-place.place c.get.result.now c.get.ensures)

pub act-requires-clause-fits : goal.act-requires-clause-fits
act-requires-clause-fits c =
    subst (λ (w : World). Fits w c.get.result.now) (sym c.loop-place.invariant)
    (event_fits (set_of c.args.sizes) c.args.history.now c.requires c.loop-place.place c.get.result.now c.get.ensures)

pub loop-place-preserved : goal.loop-place-preserved
loop-place-preserved c =
    c.in_ok-act.ensures.world ∙ ap (λ (w : World). (step w c.get.result.now).world) c.loop-place.invariant
    ∙ sym (world_after (set_of c.args.sizes) c.args.history.now c.requires c.loop-place.place c.get.result.now c.get.ensures)
