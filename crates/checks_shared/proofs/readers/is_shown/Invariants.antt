use Rattle.std.proofs.Common.{◌≡◌}
use Rattle.checks_shared.proofs.readers.is_shown.Given as goal

abbrev pub invariant-loop : goal.invariant-loop
invariant-loop g l = g.S.Stepper.sizes l.set ≡ g.S.Stepper.sizes l.initial.set
