-- The greatest timestamp seen never falls, and the next one is past it.
use Rattle.std.proofs.Common.{◌<◌, ◌≤◌, arith, List, [], ◌∷◌, ℕ}
use Rattle.std.specs.Prelude.{max}
use Rattle.oplog_entry.specs.declared.entry.Entry.{Entry}
use Rattle.set_model.specs.Fetching.{seen_after}
use Rattle.set_model.specs.Node.{Node}
use Rattle.set_model.specs.Points.{next_optime}

pub seen_least : (seen : ℕ) (entries : List Entry) → seen ≤ seen_after seen entries
seen_least seen [] = omega arith
seen_least seen (entry ∷ entries) = omega (arith, seen_least (max seen entry.optime.ts) entries)

pub next_past : (node : Node) → node.seen < (next_optime node).ts
next_past node = omega arith
