use Rattle.std.proofs.Common.{◌≡◌, ◌++◌}
use Rattle.bson_doc.specs.Place.{Place}
use Rattle.version_store.specs.Shown.{shown_here}
use Rattle.version_store.proofs.ShownLemmas.{left_of}
use Rattle.version_store.proofs.shard_documents.ShardDocuments.add_shown.Given as goal

-- what is added and what is left to add are what there was and what there was to add
abbrev pub invariant-loop-name : goal.invariant-loop-name
invariant-loop-name l = (place : Place)
    → (shown_here place l.gathered.items ++ left_of l.at l.name-iterator place)
    ≡ (shown_here place l.fn.gathered.items ++ left_of l.at l.initial.name-iterator place)
