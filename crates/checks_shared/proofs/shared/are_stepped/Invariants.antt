use Rattle.shared_set.specs.Passes.{IsPass}
use Rattle.turn_board.specs.Passes.{IsFree}
use Rattle.checks_shared.proofs.shared.are_stepped.Given as goal

abbrev pub invariant-loop-part : goal.invariant-loop-part
invariant-loop-part g l = IsPass l.set l.pass × IsFree l.pass
