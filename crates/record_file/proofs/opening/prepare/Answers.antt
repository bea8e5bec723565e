use Rattle.std.proofs.Common.{◌≡◌, rules, arith}
use Rattle.std.specs.Prelude.{Ok, Err}
use Rattle.record_file.proofs.OpenLemmas.{stops_at_once, synced_has, begins, repairs}
use Rattle.record_file.proofs.StepLemmas.{stops_ends}
use Rattle.record_file.proofs.opening.prepare.Goals as goal

pub returns-in_err-len-clause-calls : goal.returns-in_err-len-clause-calls
returns-in_err-len-clause-calls g c =
    let is : c.from_residual.result ≡ Err c.in_err-len.field-0.0 = search rules in
    stops_at_once _ _ _ _ c.requires is c.in_err-len.ensures.calls

pub returns-in_err-begin-clause-calls : goal.returns-in_err-begin-clause-calls
returns-in_err-begin-clause-calls g c =
    let is : c.from_residual-in_err-begin.result ≡ Err c.in_err-begin.field-0.0 = search rules in
    begins _ _ _ _ c.in_ok-len.ensures.calls (omega (arith, c.in_ok-len.ensures.length)) (stops_ends _ _ _ _ _ is c.in_err-begin.ensures.calls)

pub returns-then-len-le1-clause-calls : goal.returns-then-len-le1-clause-calls
returns-then-len-le1-clause-calls g c = begins {T = Unit {0}} (Ok tt) _ _ _ c.in_ok-len.ensures.calls (omega (arith, c.in_ok-len.ensures.length)) c.in_ok-begin.ensures.calls

pub returns-clause-calls : goal.returns-clause-calls
returns-clause-calls g c = repairs _ _ _ _ c.in_ok-len.ensures.calls (omega (arith, c.in_ok-len.ensures.length)) c.repair.ensures.calls

pub repair-requires-clause-has : goal.repair-requires-clause-has
repair-requires-clause-has g c = synced_has _ _ c.requires c.in_ok-len.ensures.calls
