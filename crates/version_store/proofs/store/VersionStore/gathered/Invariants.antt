use Rattle.std.proofs.Common.{◌≡◌, ◌<◌, ℕ, take}
use Rattle.std.specs.Prelude.{slice_index_or}
use Rattle.bson_doc.specs.Place.{Place}
use Rattle.version_store.specs.Shards.{Shard, HasItsOwn}
use Rattle.version_store.specs.Shown.{shown_here}
use Rattle.version_store.proofs.ShownLemmas.{left_at}
use Rattle.version_store.proofs.store.VersionStore.gathered.Given as goal

-- the documents of the shards so far, each of which has its own
abbrev pub invariant-loop-shard : goal.invariant-loop-shard
invariant-loop-shard l =
    ((place : Place) → shown_here place l.documents.items ≡ left_at l.at (take l.shard-index l.shard-items) place)
    × ((k : ℕ) (d : Shard) → k < l.shard-index → HasItsOwn (slice_index_or l.shard-items k d))
