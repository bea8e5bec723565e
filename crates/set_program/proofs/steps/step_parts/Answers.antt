use Rattle.std.proofs.Common.{arith}
use Rattle.fault_script.specs.declared.script.Part.TheVariants.{Line, Par}
use Rattle.set_program.proofs.StepLemmas.{next_stepped, next_stops, nothing_stepped, passes, room}
use Rattle.set_program.proofs.steps.step_parts.Goals as goal

pub loop-part-init : goal.loop-part-init
loop-part-init g c = nothing_stepped g.D.Disk.state c.args.parts c.into_rest-rest.result c.args.world c.args.replies.now.items c.requires.start c.requires.empty c.into_rest-rest.ensures c.requires.fits

pub step_line-requires-clause-few : goal.step_line-requires-clause-few
step_line-requires-clause-few g c κs within =
    let few = room g.D.Disk.state c.args.parts c.loop-part.rest c.args.world c.loop-part.world c.loop-part.invariant.up_to (Line c.in-Line.line c.in-Line.command) c.next.new.self (rw c.in-Line.is at c.in-Some.ensures) c.requires.few in
    omega (arith, few)

pub step_line-requires-clause-fits : goal.step_line-requires-clause-fits
step_line-requires-clause-fits g c κs within =
    passes g.D.Disk.state c.args.parts c.loop-part.rest c.args.world c.loop-part.world c.loop-part.invariant.up_to (Line c.in-Line.line c.in-Line.command) c.next.new.self (rw c.in-Line.is at c.in-Some.ensures)

pub loop-part-preserved-in_default-step_line : goal.loop-part-preserved-in_default-step_line
loop-part-preserved-in_default-step_line g c =
    next_stepped g.D.Disk.state c.args.parts c.loop-part.rest c.args.world c.loop-part.world c.loop-part.replies.items c.loop-part.invariant (Line c.in-Line.line c.in-Line.command) c.next.new.self (rw c.in-Line.is at c.in-Some.ensures)
    c.step_line.new.world c.step_line.new.replies.items (rw c.in_default-step_line.is at c.step_line.ensures)

pub returns-in-Err : goal.returns-in-Err
returns-in-Err g c =
    next_stops g.D.Disk.state c.args.parts c.loop-part.rest c.args.world c.loop-part.world c.loop-part.replies.items c.loop-part.invariant (Line c.in-Line.line c.in-Line.command) c.next.new.self (rw c.in-Line.is at c.in-Some.ensures)
    c.step_line.new.world (rw c.in-Err.is at c.step_line.ensures)

pub step_block-requires-clause-few : goal.step_block-requires-clause-few
step_block-requires-clause-few g c κs within =
    room g.D.Disk.state c.args.parts c.loop-part.rest c.args.world c.loop-part.world c.loop-part.invariant.up_to (Par c.in-Par.lists) c.next.new.self (rw c.in-Par.is at c.in-Some.ensures) c.requires.few

pub step_block-requires-clause-fits : goal.step_block-requires-clause-fits
step_block-requires-clause-fits g c κs within =
    passes g.D.Disk.state c.args.parts c.loop-part.rest c.args.world c.loop-part.world c.loop-part.invariant.up_to (Par c.in-Par.lists) c.next.new.self (rw c.in-Par.is at c.in-Some.ensures)

pub loop-part-preserved : goal.loop-part-preserved
loop-part-preserved g c =
    next_stepped g.D.Disk.state c.args.parts c.loop-part.rest c.args.world c.loop-part.world c.loop-part.replies.items c.loop-part.invariant (Par c.in-Par.lists) c.next.new.self (rw c.in-Par.is at c.in-Some.ensures)
    c.step_block.result.1 c.step_block.new.replies.items (rw c.in-Ok-default.is-0 at c.step_block.ensures)

pub returns-in-Err-default : goal.returns-in-Err-default
returns-in-Err-default g c =
    next_stops g.D.Disk.state c.args.parts c.loop-part.rest c.args.world c.loop-part.world c.loop-part.replies.items c.loop-part.invariant (Par c.in-Par.lists) c.next.new.self (rw c.in-Par.is at c.in-Some.ensures)
    c.step_block.result.1 (rw c.in-Err-default.is-0 at c.step_block.ensures)
