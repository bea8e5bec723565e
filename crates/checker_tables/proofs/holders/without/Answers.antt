use Rattle.std.proofs.Common.{◌≡◌, Some, arith, subst}
use Rattle.checker_tables.specs.Holding.{Holders, LeadsTo}
use Rattle.checker_tables.proofs.HoldingLemmas.{led_less}
use Rattle.checker_tables.proofs.holders.without.Goals as goal

pub returns : goal.returns
returns c = λ place other apart leads.
    let numbers = c.in-Some-holders.numbers in
    let led = c.in-Some-remove.led in
    let same : led ≡ c.args.number = omega arith in
    led_less numbers c.remove.new.self c.in-Some.place c.args.number (Some led) c.in-Some-remove.ensures.value
    (λ writer is. let one : led ≡ writer = cc is in cc (one, same))
    c.remove.ensures.updates.2 place other apart (subst (λ (h : Holders). LeadsTo h place other) c.in-Some-holders.is leads)
