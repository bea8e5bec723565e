use Rattle.std.proofs.Common.{◌≡◌, take}
use Rattle.run_checker.specs.Checking.{set_of}
use Rattle.set_model.specs.Run.{run}
use Rattle.play.proofs.machine.done_again.Given as goal

abbrev pub invariant-loop-place : goal.invariant-loop-place
invariant-loop-place l = l.machine ≡ (run (set_of l.fn.sizes) (take l.place l.history)).world
