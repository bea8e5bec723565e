-- The place of the newest message from one node to another.
use Rattle.std.specs.Prelude.{◌≡◌, ◌<◌, ◌+◌, ◌*◌, ℕ, List, Option, None, Some, length, slice_get}
use Rattle.std.specs.FinMap as maps
use Rattle.std.specs.Ordering.{nat_cmp}
use Rattle.repl_msg.specs.declared.message.Message.{Message}
use Rattle.set_model.specs.World.{latest_between}

-- one number for two below 2^32
abbrev pub pair_of : ℕ → ℕ → ℕ
pair_of from to = from * 4294967296 + to

-- the newest message from one node to another is the one at this place; or there is none
abbrev pub IsNewest : List Message → ℕ → ℕ → Option ℕ → Type 0
IsNewest messages from to None = latest_between messages from to ≡ None
IsNewest messages from to (Some place) =
    (place < length messages) × (latest_between messages from to ≡ slice_get messages place)

-- these are the places of the newest message from each node to each
abbrev pub AreNewest : List Message → maps.FinMap nat_cmp ℕ → Type 0
AreNewest messages places =
    (from to : ℕ) → from < 4294967296 → to < 4294967296
    → IsNewest messages from to (maps.get places (pair_of from to))
