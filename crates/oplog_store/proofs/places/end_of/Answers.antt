use Rattle.std.proofs.Common.{◌≡◌, ◌∙◌, ◌<◌, ◌-◌, ap, arith, rules, subst, Some, length}
use Rattle.std.specs.Prelude.{slice_get, slice_index_or}
use Rattle.oplog_store.specs.Places.{Precedes}
use Rattle.oplog_store.proofs.PlaceLemmas.{all_precede, all_precede_end, last_there, no_length}
use Rattle.oplog_store.proofs.places.end_of.Goals as goal

pub returns-in-Some : goal.returns-in-Some
returns-in-Some c = λ settled at held last before.
    let places = c.args.beyond.now.items in
    let long : c.args.beyond.now.len ≡ length places = c.args.beyond.now.ok.0 in
    let some : 0 < c.args.beyond.now.len = search rules in
    let there : slice_get places (length places - 1) ≡ Some c.in-Some.place.now =
    last_there places c.in-Some.place.now (omega arith) (c.in-Some.ensures.lookup ∙ ap (λ n. slice_index_or places (n - 1) c.in-Some.place.now) long) in
    all_precede settled places c.in-Some.place.now at held there (subst (λ o. Precedes o at) c.optime.ensures before)

pub returns-in-None : goal.returns-in-None
returns-in-None c = λ settled at held last before.
    let places = c.args.beyond.now.items in
    let long : c.args.beyond.now.len ≡ length places = c.args.beyond.now.ok.0 in
    let none : length places ≡ 0 = grind (arith, rules) in
    all_precede_end settled places c.args.last at (no_length places none) held last before
