use Rattle.std.proofs.Common.{◌≡◌, ◌++◌}
use Rattle.bson_doc.specs.Place.{Place}
use Rattle.version_store.specs.Shown.{shown_here}
use Rattle.version_store.proofs.ListedLemmas.{listed_in}
use Rattle.version_store.proofs.listing.add_listed.Given as goal

-- what is added and what is left to add are what there was and what there was to add
abbrev pub invariant-loop-place : goal.invariant-loop-place
invariant-loop-place l = (q : Place)
    → (shown_here q l.gathered.items ++ listed_in l.documents l.listing.at q l.place-iterator)
    ≡ (shown_here q l.fn.gathered.items ++ listed_in l.documents l.listing.at q l.initial.place-iterator)
