use Rattle.std.proofs.Common.{map, take}
use Rattle.initial_sync.specs.Pinned.{placed}
use Rattle.initial_sync.proofs.DocumentLemmas.{Stores}
use Rattle.initial_sync.proofs.documents.store_of.Given as goal

abbrev pub invariant-loop-one : goal.invariant-loop-one
invariant-loop-one l = Stores l.fn.at (map placed (take l.one-index l.documents)) l.store
