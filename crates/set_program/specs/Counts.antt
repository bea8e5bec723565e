-- What the events of a run say about the disks that it leaves: how often they failed, and which orders they
-- were given.
use Rattle.std.specs.Prelude.{ℕ, ◌≡◌, ◌⊎◌, ◌<◌, ◌≤◌, ◌+◌, ◌*◌, ◌-◌, ◌^◌, ◌==◌, ◌&&◌, List, [], ◌∷◌, Some, is_some, slice_get, if◌then◌else◌}
use Rattle.rs_disk.specs.Orders.{Orders}
use Rattle.rs_disk.specs.State.{State}
use Rattle.rs_io.specs.Fault.{CountRose}
use Rattle.set_model.specs.declared.command.DiskName.{DiskName}
use Rattle.set_model.specs.declared.command.DiskName.TheVariants.{Journal, Checkpoint}
use Rattle.set_model.specs.declared.command.Event.{Event}
use Rattle.set_model.specs.declared.reply.Refusal.TheVariants.{DiskFailed}
use Rattle.set_model.specs.declared.reply.Reply.TheVariants.{Armed, Refused}
use Rattle.set_model.specs.Run.{Sizes, opening}
use Rattle.set_model.specs.Safety.{Answers}
use Rattle.set_model.specs.World.{World, step, touched_node}
use Rattle.node_core.specs.Acting.{orders_after}
use Rattle.set_world.specs.World.{Set}

-- This holds of the two disks of a node, before the call and after it.
pub record OfNode {D : Type 0} (state : D → State) (handed left : List D) (number : ℕ)
    (So : State → State → State → State → Type 0) : Type 0 where
  pub journal : D
  pub journal' : D
  pub checkpoints : D
  pub checkpoints' : D
  pub journal_was : slice_get handed (2 * number) ≡ Some journal
  pub journal_is : slice_get left (2 * number) ≡ Some journal'
  pub checkpoints_was : slice_get handed (2 * number + 1) ≡ Some checkpoints
  pub checkpoints_is : slice_get left (2 * number + 1) ≡ Some checkpoints'
  pub so : So (state journal) (state journal') (state checkpoints) (state checkpoints')

-- ---- stores that failed

-- how many of the events failed to store something at the node of this number
abbrev pub failures_at : ℕ → World → List Event → ℕ
failures_at number world [] = 0
failures_at number world (event ∷ later) =
    (if is_some event.failed && touched_node world event.command == number then 1 else 0)
    + failures_at number (step world event).world later

-- two disks failed at least this often, unless a count is at its last value
abbrev pub FailedAtLeast : ℕ → State → State → State → State → Type 0
FailedAtLeast count j j' c c' = (count + j.faults + c.faults ≤ j'.faults + c'.faults)
    ⊎ (2 ^ 64 - 1 ≤ j'.faults) ⊎ (2 ^ 64 - 1 ≤ c'.faults)

-- No node has more events with a failed store than its two counts rose.
abbrev pub FailuresCount : {D : Type 0} → (D → State) → List D → Set D → Type 0
FailuresCount state handed set =
    (number : ℕ) → number < set.sizes.nodes → OfNode state handed set.disks number
    (FailedAtLeast (failures_at number (opening set.sizes).world set.history))

-- the count of one of two disks rose
abbrev pub EitherFaultCounted : State → State → State → State → Type 0
EitherFaultCounted j j' c c' = CountRose j.faults j'.faults ⊎ CountRose c.faults c'.faults

-- `DiskFailed` is the reply only at a node one of whose disks failed.
abbrev pub FaultsHaveCauses : {D : Type 0} → (D → State) → List D → Set D → Type 0
FaultsHaveCauses state handed set =
    (place number : ℕ) (event : Event) → number < set.sizes.nodes
    → Answers set.sizes set.history place number event (Refused DiskFailed)
    → OfNode state handed set.disks number EitherFaultCounted

-- `DiskFailed` is the reply only at a node one of whose disks was armed by an earlier event.
abbrev pub FaultsAreArmed : Sizes → List Event → Type 0
FaultsAreArmed sizes events =
    (place number : ℕ) (event : Event) → number < sizes.nodes
    → Answers sizes events place number event (Refused DiskFailed)
    → (before : ℕ) × (earlier : Event) × (before < place) × Answers sizes events before number earlier Armed

-- ---- orders

-- The orders of a node's disk after these events: each event at the node whose reply is `down`, or `armed`
-- for this disk, gives it one, and nothing else does.
abbrev pub orders_since : DiskName → ℕ → World → List Event → Orders → Orders
orders_since name number world [] orders = orders
orders_since name number world (event ∷ later) orders =
    orders_since name number (step world event).world later
    (if touched_node world event.command == number
    then orders_after name event.command (step world event).reply orders
    else orders)

abbrev pub OrdersAre : ℕ → World → List Event → State → State → State → State → Type 0
OrdersAre number world events j j' c c' =
    (j'.orders ≡ orders_since Journal number world events j.orders)
    × (c'.orders ≡ orders_since Checkpoint number world events c.orders)

-- Each disk of a node has the orders that the events gave to it.
abbrev pub OrdersCount : {D : Type 0} → (D → State) → List D → Set D → Type 0
OrdersCount state handed set =
    (number : ℕ) → number < set.sizes.nodes
    → OfNode state handed set.disks number (OrdersAre number (opening set.sizes).world set.history)
