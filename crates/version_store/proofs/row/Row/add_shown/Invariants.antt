use Rattle.std.proofs.Common.{◌≡◌, ◌++◌, drop}
use Rattle.bson_doc.specs.Place.{Place}
use Rattle.version_store.specs.Shown.{shown_here}
use Rattle.version_store.proofs.ShownLemmas.{left_in}
use Rattle.version_store.proofs.row.Row.add_shown.Given as goal

-- what is added and what is left to add are what there was and what there was to add
abbrev pub invariant-loop-entry : goal.invariant-loop-entry
invariant-loop-entry l = (place : Place)
    → (shown_here place l.gathered.items ++ left_in l.ns l.at (drop l.entry-index l.entry-items) place)
    ≡ (shown_here place l.fn.gathered.items ++ left_in l.ns l.at l.entry-items place)
