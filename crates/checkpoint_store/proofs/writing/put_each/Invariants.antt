use Rattle.std.proofs.Common.{◌≡◌, ◌++◌, take}
use Rattle.std.specs.Prelude.{All}
use Rattle.std.specs.List.{flat_map}
use Rattle.version_store.specs.Shown.{placed}
use Rattle.checkpoint_store.specs.Layout.{saved_bytes}
use Rattle.checkpoint_store.specs.Spelled.{IsSaved}
use Rattle.checkpoint_store.proofs.writing.put_each.Given as goal

abbrev pub invariant-loop-shown : goal.invariant-loop-shown
invariant-loop-shown l = record {
  laid : l.out.items ≡ l.initial.out.items ++ flat_map (λ shown. saved_bytes (placed shown)) (take l.shown-index l.documents);
  fits : All (λ shown. IsSaved (placed shown)) (take l.shown-index l.documents);
}
