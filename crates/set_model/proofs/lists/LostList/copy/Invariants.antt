use Rattle.std.proofs.Common.{◌≡◌, take}
use Rattle.set_model.proofs.lists.LostList.copy.Given as goal

abbrev pub invariant-loop-collection : goal.invariant-loop-collection
invariant-loop-collection l = l.copies ≡ take l.collection-index l.collection-items
