use Rattle.std.proofs.Common.{◌≡◌, ◌⊎◌, None}
use Rattle.bson_doc.specs.Place.{Place}
use Rattle.version_store.specs.Store.{holder_at, versions_at}
use Rattle.node_data.proofs.ReleaseLemmas.{SomeHeld}
use Rattle.node_data.proofs.writer_map.WriterMap.release_all.Given as goal

abbrev pub invariant-loop-held : goal.invariant-loop-held
invariant-loop-held l =
    ((place : Place) → versions_at l.store place ≡ versions_at l.initial.store place)
    × ((place : Place) → (holder_at l.store place ≡ None) ⊎ SomeHeld place l.held-iterator)
    × (l.store.count ≡ l.initial.store.count)
