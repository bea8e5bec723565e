use Rattle.std.proofs.Common.{string_bytes}
use Rattle.chance_script.specs.Generated.{set_text}
use Rattle.chance_script.proofs.HappeningLemmas.{with_next}
use Rattle.chance_script.proofs.generated.generate.Goals as goal

pub loop-event-preserved : goal.loop-event-preserved
loop-event-preserved c =
    with_next c.args.nodes c.args.seed c.loop-event.event c.draw.result c.loop-event.generator c.draw.new.generator (set_text c.args.nodes)
    (string_bytes c.loop-event.out) _ c.loop-event.invariant.0 c.loop-event.invariant.1 c.draw.ensures c.in_ok-write.ensures
