use Rattle.std.proofs.Common.{◌∙◌, ◌++◌, ◌∷◌, [], ap, sym}
use Rattle.oplog_entry.specs.Visible.{last_of}
use Rattle.oplog_store.specs.Places.{written}
use Rattle.oplog_store.specs.declared.places.Place.{Place}
use Rattle.oplog_store.proofs.PlaceLemmas.{last_is_one}
use Rattle.oplog_store.proofs.places.written_or.Goals as goal

pub returns-in-Some : goal.returns-in-Some
returns-in-Some c = λ entries is. sym (ap (λ (p : Place). last_of (entries ++ written (p ∷ []))) c.in-Some.ensures ∙ last_is_one entries c.in-Some.entry.now)
