use Rattle.std.specs.Prelude.{string_bytes}
use Rattle.play.proofs.StepsLemmas.{SoFar, more}
use Rattle.play.proofs.play.Play.steps.Goals as goal

pub loop-rest-preserved : goal.loop-rest-preserved
loop-rest-preserved c =
    let was = c.loop-rest.invariant in
    let so_far : SoFar c.args.self.now c.args.text.now (string_bytes c.args.out.now) c.loop-rest.self c.loop-rest.rest.now (string_bytes c.loop-rest.out) =
    record { done = was.0; told = was.1; are = was.2; plays = was.3; out_is = was.4 } in
    let then_so_far = more c.args.self.now c.args.text.now (string_bytes c.args.out.now) c.loop-rest.self c.loop-rest.rest.now (string_bytes c.loop-rest.out) so_far
    c.next_line.result.0.now c.next_line.result.1.now c.next_line.ensures.cut c.step.new.self (string_bytes c.step.new.out) c.in_ok-step.ensures.ok in
    (then_so_far.done, then_so_far.told, then_so_far.are, then_so_far.plays, then_so_far.out_is)
