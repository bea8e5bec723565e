use Rattle.std.proofs.Common.{◌≡◌, ◌≢◌, ◌∙◌, ◌<◌, ◌≤◌, ap, arith, rules, length, Some}
use Rattle.std.proofs.lemmas.Option.{slice_get_within}
use Rattle.std.specs.Prelude.{slice_get}
use Rattle.oplog_store.specs.declared.places.Place.{Place}
use Rattle.oplog_store.proofs.PlaceLemmas.{at_place, none_at, none_there, other_there, written_at}
use Rattle.oplog_store.proofs.places.entry_at.Goals as goal

pub returns-in_default-clause-none : goal.returns-in_default-clause-none
returns-in_default-clause-none c =
    let long : c.args.beyond.now.len ≡ length c.args.beyond.now.items = c.args.beyond.now.ok.0 in
    let past : length c.args.beyond.now.items ≤ c.place_from.result = grind (arith, rules) in
    none_at c.args.beyond.now.items c.place_from.result c.args.at c.requires (c.place_from.ensures.front c.requires) (c.place_from.ensures.back c.requires)
    (λ entry is. let within : c.place_from.result < length c.args.beyond.now.items = slice_get_within c.args.beyond.now.items c.place_from.result _ is in absurd (omega arith))

pub returns-in_default-entry-clause-none : goal.returns-in_default-entry-clause-none
returns-in_default-entry-clause-none c =
    let long : c.args.beyond.now.len ≡ length c.args.beyond.now.items = c.args.beyond.now.ok.0 in
    let some : c.place_from.result < c.args.beyond.now.len = search rules in
    let there : slice_get c.args.beyond.now.items c.place_from.result ≡ Some c.in-Some.place.now = at_place c.args.beyond.now.items c.place_from.result c.in-Some.place.now (omega arith) c.in-Some.ensures.lookup in
    none_at c.args.beyond.now.items c.place_from.result c.args.at c.requires (c.place_from.ensures.front c.requires) (c.place_from.ensures.back c.requires)
    (none_there c.args.beyond.now.items c.place_from.result c.in-Some.place.now c.args.at there c.in_default-entry.ensures)

pub returns-then-ne-clause-none : goal.returns-then-ne-clause-none
returns-then-ne-clause-none c =
    let long : c.args.beyond.now.len ≡ length c.args.beyond.now.items = c.args.beyond.now.ok.0 in
    let some : c.place_from.result < c.args.beyond.now.len = search rules in
    let there : slice_get c.args.beyond.now.items c.place_from.result ≡ Some c.in-Some.place.now = at_place c.args.beyond.now.items c.place_from.result c.in-Some.place.now (omega arith) c.in-Some.ensures.lookup in
    let other : c.in-Some-entry.entry.now.optime ≢ c.args.at = search rules in
    none_at c.args.beyond.now.items c.place_from.result c.args.at c.requires (c.place_from.ensures.front c.requires) (c.place_from.ensures.back c.requires)
    (other_there c.args.beyond.now.items c.place_from.result c.in-Some-entry.entry.now c.args.at (there ∙ ap (λ (p : Place). Some p) c.in-Some-entry.ensures) other)

pub returns-clause-found : goal.returns-clause-found
returns-clause-found c =
    let long : c.args.beyond.now.len ≡ length c.args.beyond.now.items = c.args.beyond.now.ok.0 in
    let some : c.place_from.result < c.args.beyond.now.len = search rules in
    let there : slice_get c.args.beyond.now.items c.place_from.result ≡ Some c.in-Some.place.now = at_place c.args.beyond.now.items c.place_from.result c.in-Some.place.now (omega arith) c.in-Some.ensures.lookup in
    let found = written_at c.args.beyond.now.items c.place_from.result c.in-Some-entry.entry.now (there ∙ ap (λ (p : Place). Some p) c.in-Some-entry.ensures) in
    let same : c.in-Some-entry.entry.now.optime ≡ c.args.at = search rules in
    (found.0, found.1, same)
