use Rattle.std.proofs.Common.{◌≡◌, ◌∙◌, ◌<◌, arith, ap, rules, sym, true, Some, length}
use Rattle.std.proofs.lemmas.Bool.{not-false}
use Rattle.std.specs.Prelude.{slice_get}
use Rattle.oplog_entry.specs.Visible.{is_before}
use Rattle.oplog_store.specs.Places.{optime_of}
use Rattle.oplog_store.proofs.PlaceLemmas.{at_place, none_up_to}
use Rattle.oplog_store.proofs.places.begins_by.Goals as goal

pub returns-in-Some : goal.returns-in-Some
returns-in-Some c = λ no.
    let places = c.args.beyond.now.items in
    let long : c.args.beyond.now.len ≡ length places = c.args.beyond.now.ok.0 in
    let some : 0 < c.args.beyond.now.len = search rules in
    let there : slice_get places 0 ≡ Some c.in-Some.place.now = at_place places 0 c.in-Some.place.now (omega arith) c.in-Some.ensures.lookup in
    let late : is_before c.args.at (optime_of c.in-Some.place.now) ≡ true = ap (λ o. is_before c.args.at o) (sym c.optime.ensures) ∙ not-false _ (sym c.is_up_to.ensures ∙ no) in
    none_up_to places c.in-Some.place.now c.args.at c.requires there late
