use Rattle.std.proofs.Common.{◌≡◌, ◌≤◌, Err, arith, rules}
use Rattle.fault_script.specs.declared.script.Part.TheVariants.{Line, Par}
use Rattle.set_program.specs.declared.stop.Stop.TheVariants.{Memory}
use Rattle.set_program.proofs.PlayLemmas.{nothing_played, part_disks, part_played, part_stops}
use Rattle.set_program.proofs.StepLemmas.{passes, room}
use Rattle.set_program.proofs.play.play.Goals as goal

pub loop-part-init : goal.loop-part-init
loop-part-init g c =
    nothing_played g.K.Sink.held g.K.Sink.faults g.K.Sink.steady g.D.Disk.state c.args.parts c.into_rest-rest.result c.args.sink.now c.args.world c.requires.start c.into_rest-rest.ensures c.requires.fits

pub play_line-ended-requires-clause-few : goal.play_line-ended-requires-clause-few
play_line-ended-requires-clause-few g c κs within =
    let few = room g.D.Disk.state c.args.parts c.loop-part.rest c.args.world c.loop-part.world c.loop-part.invariant.up_to (Line c.in-Line.line c.in-Line.command) c.next.new.self (rw c.in-Line.is at c.in-Some.ensures) c.requires.few in
    omega (arith, few)

pub play_line-ended-requires-clause-fits : goal.play_line-ended-requires-clause-fits
play_line-ended-requires-clause-fits g c κs within =
    passes g.D.Disk.state c.args.parts c.loop-part.rest c.args.world c.loop-part.world c.loop-part.invariant.up_to (Line c.in-Line.line c.in-Line.command) c.next.new.self (rw c.in-Line.is at c.in-Some.ensures)

pub loop-part-preserved-in_default-ended : goal.loop-part-preserved-in_default-ended
loop-part-preserved-in_default-ended g c =
    let later : g.K.Sink.faults c.loop-part.sink ≤ g.K.Sink.faults c.play_line-ended.new.sink = search rules in
    part_played g.K.Sink.held g.K.Sink.faults g.K.Sink.steady g.D.Disk.state c.args.parts c.loop-part.rest c.args.sink.now c.loop-part.sink c.args.world c.loop-part.world c.loop-part.invariant
    (Line c.in-Line.line c.in-Line.command) c.next.new.self (rw c.in-Line.is at c.in-Some.ensures) c.play_line-ended.new.sink c.play_line-ended.new.world c.play_line-ended.ensures.sizes
    (c.play_line-ended.result ≡ Err Memory) (rw c.in_default-ended.is at c.play_line-ended.ensures.plays) (λ out. cc (out, c.in_default-ended.is)) c.play_line-ended.ensures.disks later (λ still. (c.play_line-ended.ensures.steady still).0)

pub returns-in-Err-clause-ends : goal.returns-in-Err-clause-ends
returns-in-Err-clause-ends g c =
    part_stops g.K.Sink.held g.K.Sink.faults g.K.Sink.steady g.D.Disk.state c.args.parts c.loop-part.rest c.args.sink.now c.loop-part.sink c.args.world c.loop-part.world c.loop-part.invariant
    (Line c.in-Line.line c.in-Line.command) c.next.new.self (rw c.in-Line.is at c.in-Some.ensures) c.play_line-ended.new.sink c.play_line-ended.new.world c.play_line-ended.ensures.sizes c.in-Err.stop (rw c.in-Err.is at c.play_line-ended.ensures.plays)

pub returns-in-Err-clause-disks : goal.returns-in-Err-clause-disks
returns-in-Err-clause-disks g c =
    part_disks g.K.Sink.held g.K.Sink.faults g.K.Sink.steady g.D.Disk.state c.args.parts c.loop-part.rest c.args.sink.now c.loop-part.sink c.args.world c.loop-part.world c.loop-part.invariant
    (Line c.in-Line.line c.in-Line.command) c.next.new.self (rw c.in-Line.is at c.in-Some.ensures) c.play_line-ended.new.sink c.play_line-ended.new.world c.play_line-ended.ensures.sizes _ _ (λ out. out) (rw c.in-Err.is at c.play_line-ended.ensures.disks)

pub returns-in-Err-clause-cause : goal.returns-in-Err-clause-cause
returns-in-Err-clause-cause g c =
    let cause = rw c.in-Err.is at c.play_line-ended.ensures.cause in
    record {
      later = omega (arith, c.loop-part.invariant.later, cause.later);
      rose = λ failed. omega (arith, c.loop-part.invariant.later, cause.rose failed);
    }

pub play_block-requires-clause-few : goal.play_block-requires-clause-few
play_block-requires-clause-few g c κs within =
    room g.D.Disk.state c.args.parts c.loop-part.rest c.args.world c.loop-part.world c.loop-part.invariant.up_to (Par c.in-Par.lists) c.next.new.self (rw c.in-Par.is at c.in-Some.ensures) c.requires.few

pub play_block-requires-clause-fits : goal.play_block-requires-clause-fits
play_block-requires-clause-fits g c κs within =
    passes g.D.Disk.state c.args.parts c.loop-part.rest c.args.world c.loop-part.world c.loop-part.invariant.up_to (Par c.in-Par.lists) c.next.new.self (rw c.in-Par.is at c.in-Some.ensures)

pub loop-part-preserved : goal.loop-part-preserved
loop-part-preserved g c =
    let later : g.K.Sink.faults c.loop-part.sink ≤ g.K.Sink.faults c.play_block.new.sink = search rules in
    part_played g.K.Sink.held g.K.Sink.faults g.K.Sink.steady g.D.Disk.state c.args.parts c.loop-part.rest c.args.sink.now c.loop-part.sink c.args.world c.loop-part.world c.loop-part.invariant
    (Par c.in-Par.lists) c.next.new.self (rw c.in-Par.is at c.in-Some.ensures) c.play_block.new.sink c.play_block.result.1 c.play_block.ensures.sizes
    (c.play_block.result.0 ≡ Err Memory) (rw c.in-Ok-default.is-0 at c.play_block.ensures.plays) (λ out. cc (out, c.in-Ok-default.is-0)) c.play_block.ensures.disks later (λ still. (c.play_block.ensures.steady still).0)

pub returns-in-Err-default-clause-ends : goal.returns-in-Err-default-clause-ends
returns-in-Err-default-clause-ends g c =
    part_stops g.K.Sink.held g.K.Sink.faults g.K.Sink.steady g.D.Disk.state c.args.parts c.loop-part.rest c.args.sink.now c.loop-part.sink c.args.world c.loop-part.world c.loop-part.invariant
    (Par c.in-Par.lists) c.next.new.self (rw c.in-Par.is at c.in-Some.ensures) c.play_block.new.sink c.play_block.result.1 c.play_block.ensures.sizes c.in-Err-default.stop (rw c.in-Err-default.is-0 at c.play_block.ensures.plays)

pub returns-in-Err-default-clause-disks : goal.returns-in-Err-default-clause-disks
returns-in-Err-default-clause-disks g c =
    part_disks g.K.Sink.held g.K.Sink.faults g.K.Sink.steady g.D.Disk.state c.args.parts c.loop-part.rest c.args.sink.now c.loop-part.sink c.args.world c.loop-part.world c.loop-part.invariant
    (Par c.in-Par.lists) c.next.new.self (rw c.in-Par.is at c.in-Some.ensures) c.play_block.new.sink c.play_block.result.1 c.play_block.ensures.sizes _ _ (λ out. out) (rw c.in-Err-default.is-0 at c.play_block.ensures.disks)

pub returns-in-Err-default-clause-cause : goal.returns-in-Err-default-clause-cause
returns-in-Err-default-clause-cause g c =
    let cause = rw c.in-Err-default.is-0 at c.play_block.ensures.cause in
    record {
      later = omega (arith, c.loop-part.invariant.later, cause.later);
      rose = λ failed. omega (arith, c.loop-part.invariant.later, cause.rose failed);
    }

pub returns-clause-cause : goal.returns-clause-cause
returns-clause-cause g c = record { later = c.loop-part.invariant.later; rose = λ never. absurd (cc never) }
