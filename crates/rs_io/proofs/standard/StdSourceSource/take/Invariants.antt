use Rattle.std.proofs.Common.{◌≡◌}
use Rattle.std.specs.Io.KnownBytes.{Keeps}
use Rattle.rs_io.proofs.standard.StdSourceSource.take.Given as goal

abbrev pub invariant-tries : goal.invariant-tries
invariant-tries g l =
    Keeps (g.R.Read.remaining l.initial.self.reader) (g.R.Read.remaining l.self.reader) × (l.self.faults ≡ l.initial.self.faults)
