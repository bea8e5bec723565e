use Rattle.shared_set.specs.Passes.{IsPass}
use Rattle.turn_board.specs.Passes.{IsFree}
use Rattle.checks_shared.proofs.callers.meets.Given as goal

abbrev pub invariant-loop-step : goal.invariant-loop-step
invariant-loop-step g l = IsPass l.set l.pass × IsFree l.pass
