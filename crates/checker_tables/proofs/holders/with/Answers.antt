use Rattle.std.proofs.Common.{Option, Some, subst, sym, ◌∙◌}
use Rattle.bson_doc.specs.Place.{Place}
use Rattle.checker_tables.specs.Holding.{Holders, LeadAlso}
use Rattle.checker_tables.proofs.HoldingLemmas.{led_more}
use Rattle.checker_tables.proofs.holders.with.Goals as goal

pub returns : goal.returns
returns c =
    let place = c.in-Some.place in
    let numbers = c.in-Some-holders.numbers in
    let new : Holders = Some c.insert.new.self in
    subst (λ (p : Option Place). LeadAlso p c.args.number c.args.holders new) (sym c.in-Some.is)
    (subst (λ (h : Holders). LeadAlso (Some place) c.args.number h new) (sym c.in-Some-holders.is)
    (led_more numbers c.insert.new.self place c.args.number (sym c.contains_key.ensures ∙ c.if-contains_key.false) c.in_ok-insert.ensures.updates.1 c.in_ok-insert.ensures.updates.2))
