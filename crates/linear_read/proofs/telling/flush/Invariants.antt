use Rattle.std.proofs.Common.{◌-◌}
use Rattle.linear_read.specs.Points.{flushes}
use Rattle.linear_read.proofs.Going.{Going}
use Rattle.linear_read.proofs.telling.flush.Given as goal

abbrev pub invariant-loop : goal.invariant-loop
invariant-loop g l =
    Going g.S.Stepper.is_alone g.S.Stepper.sizes g.S.Stepper.known g.S.Stepper.own g.S.Stepper.stays g.S.Stepper.is_whole l.initial.set l.set (flushes l.node l.most) (flushes l.node (l.most - l.counter))
