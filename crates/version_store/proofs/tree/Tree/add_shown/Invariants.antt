use Rattle.std.proofs.Common.{◌≡◌, ◌++◌}
use Rattle.bson_doc.specs.Place.{Place}
use Rattle.version_store.specs.Shown.{shown_here}
use Rattle.version_store.proofs.ShownLemmas.{left_in}
use Rattle.version_store.proofs.tree.Tree.add_shown.Given as goal

-- what is added and what is left to add are what there was and what there was to add
abbrev pub invariant-loop-id : goal.invariant-loop-id
invariant-loop-id l = (place : Place)
    → (shown_here place l.gathered.items ++ left_in l.ns l.at l.id-iterator place)
    ≡ (shown_here place l.fn.gathered.items ++ left_in l.ns l.at l.initial.id-iterator place)
