use Rattle.std.proofs.Common.{◌≡◌, ◌∙◌, ◌<◌, ◌-◌, ap, arith, rules, subst, sym, List, Some, length}
use Rattle.std.specs.Prelude.{slice_get, slice_index_or}
use Rattle.oplog_store.specs.Places.{Placed, Precedes, optime_of}
use Rattle.oplog_store.specs.declared.places.Place.{Place}
use Rattle.oplog_store.proofs.PlaceLemmas.{last_there, on_none, placed_last, placed_within}
use Rattle.oplog_store.proofs.places.put.Goals as goal

pub returns-then-precedes-clause-placed : goal.returns-then-precedes-clause-placed
returns-then-precedes-clause-placed c =
    let places = c.args.beyond.now.items in
    let long : c.args.beyond.now.len ≡ length places = c.args.beyond.now.ok.0 in
    let some : 0 < c.args.beyond.now.len = search rules in
    let there : slice_get places (length places - 1) ≡ Some c.in-Some.last.now =
    last_there places c.in-Some.last.now (omega arith) (c.in-Some.ensures.lookup ∙ ap (λ n. slice_index_or places (n - 1) c.in-Some.last.now) long) in
    let before : Precedes (optime_of c.in-Some.last.now) c.args.entry.optime = subst (λ o. Precedes o c.args.entry.optime) c.optime.ensures (c.precedes.ensures c.if-precedes.true) in
    on_none c.push.result _ _
    (λ is settled held oplog. subst (λ (ps : List Place). Placed settled places c.args.entry ps) (sym is) (placed_last settled places c.args.entry c.in-Some.last.now held oplog there before))
    c.push.ensures.pushed

pub returns-clause-placed : goal.returns-clause-placed
returns-clause-placed c =
    let places = c.args.beyond.now.items in
    on_none c.fill.result _ _
    (λ is settled held oplog. subst (λ (ps : List Place). Placed settled places c.args.entry ps) (sym is.2) (placed_within settled places c.args.entry is.0 held oplog is.1))
    c.fill.ensures.filled
