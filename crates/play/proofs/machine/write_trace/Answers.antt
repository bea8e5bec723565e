use Rattle.std.proofs.Common.{◌∙◌, sym, subst, ap}
use Rattle.checker_machine.specs.Reached.{IsReached}
use Rattle.run_checker.specs.Checking.{set_of}
use Rattle.set_model.specs.Limits.{Fits}
use Rattle.set_model.specs.World.{World, step}
use Rattle.play.proofs.RunLemmas.{event_fits, trace_more, world_after, world_reached}
use Rattle.play.proofs.machine.write_trace.Goals as goal

pub write_entry-requires-clause-reached : goal.write_entry-requires-clause-reached
write_entry-requires-clause-reached c =
    subst IsReached (sym c.loop-place.invariant.0) (world_reached (set_of c.args.sizes) c.args.history.now c.requires c.loop-place.place c.get.result.now c.get.ensures)

pub write_entry-requires-clause-fits : goal.write_entry-requires-clause-fits
write_entry-requires-clause-fits c =
    subst (λ (w : World). Fits w c.get.result.now) (sym c.loop-place.invariant.0)
    (event_fits (set_of c.args.sizes) c.args.history.now c.requires c.loop-place.place c.get.result.now c.get.ensures)

pub loop-place-preserved : goal.loop-place-preserved
loop-place-preserved c = (
  c.in_ok-write_entry.ensures.world ∙ ap (λ (w : World). (step w c.get.result.now).world) c.loop-place.invariant.0
      ∙ sym (world_after (set_of c.args.sizes) c.args.history.now c.requires c.loop-place.place c.get.result.now c.get.ensures),
  trace_more c.args.sizes c.args.history.now c.requires c.loop-place.place c.get.result.now c.get.ensures _ c.loop-place.machine _ _ c.loop-place.invariant.0 c.loop-place.invariant.1 c.in_ok-write_entry.ensures.text,
)
