use Rattle.std.proofs.Common.{◌≡◌, ◌++◌, take, map}
use Rattle.std.specs.Prelude.{string_bytes}
use Rattle.run_checker.specs.Checking.{set_of}
use Rattle.run_checker.specs.Trace.{trace_text}
use Rattle.set_model.specs.Run.{run}
use Rattle.play.proofs.machine.write_trace.Given as goal

abbrev pub invariant-loop-place : goal.invariant-loop-place
invariant-loop-place l =
    (l.machine ≡ (run (set_of l.fn.sizes) (take l.place l.history)).world)
    × (string_bytes l.out ≡ string_bytes l.fn.out ++ trace_text l.fn.sizes (take l.place l.history) (map (λ reply. reply.1) (run (set_of l.fn.sizes) (take l.place l.history)).replies))
