-- A list that its owners share.
use Rattle.std.specs.Prelude.{List, [], Option, None, Some}
use Rattle.std.specs.declared.alloc.Global.{Global}
use Rattle.std.specs.declared.sync.Arc.{Arc}
use Rattle.std.specs.declared.vec.Vec.{Vec}

-- where there is none, it is empty
abbrev pub items_of : {T : Type 0} → Option (Arc (Vec T Global) Global) → List T
items_of None = []
items_of (Some shared) = shared.value.items
