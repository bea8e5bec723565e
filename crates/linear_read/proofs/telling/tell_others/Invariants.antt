use Rattle.std.proofs.Common.{◌-◌}
use Rattle.linear_read.specs.Points.{others_told}
use Rattle.linear_read.proofs.Going.{Going}
use Rattle.linear_read.proofs.telling.tell_others.Given as goal

abbrev pub invariant-loop-other : goal.invariant-loop-other
invariant-loop-other g l =
    Going g.S.Stepper.is_alone g.S.Stepper.sizes g.S.Stepper.known g.S.Stepper.own g.S.Stepper.stays g.S.Stepper.is_whole l.initial.set l.set (others_told l.node l.at 0 l.nodes)
    (others_told l.node l.at l.other (l.nodes - l.other))
