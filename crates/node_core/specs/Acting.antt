-- What a command or a message does to a node and to its disks.
use Rattle.std.specs.Prelude.{◌≡◌, ◌⊎◌, ◌↔◌, ◌≤◌, ◌++◌, ◌∷◌, [], ℕ, Bool, true, false, not, ◌&&◌, ◌||◌, ⊤, IsTrue, IfSome, IsSome, Option, Some, Err}
use Rattle.rs_io.specs.Fault.{CountRose}
use Rattle.rs_disk.specs.File.{contents}
use Rattle.rs_disk.specs.Orders.{Orders, ordered, arm, power_cut}
use Rattle.rs_disk.specs.Moments.{EachMoment}
use Rattle.rs_disk.specs.State.{State, IsArmed, IsCut, SameButRoom}
use Rattle.record_file.specs.declared.error.FileError.TheVariants.{Disk, Memory}
use Rattle.node_journal.specs.Files.{HasJournal, IsOneOf as IsOneJournal}
use Rattle.checkpoint_store.specs.Files.{HasCheckpoint, IsOneOf as IsOneCheckpoint}
use Rattle.set_model.specs.declared.command.Command.{Command}
use Rattle.set_model.specs.declared.command.Command.TheVariants.{Crash, Restart, DiskFail}
use Rattle.set_model.specs.declared.command.DiskName.{DiskName}
use Rattle.set_model.specs.declared.command.DiskName.TheVariants as disks
use Rattle.set_model.specs.declared.reply.Reply.{Reply}
use Rattle.set_model.specs.declared.reply.Reply.TheVariants as reply
use Rattle.set_model.specs.declared.store.Store.{Store}
use Rattle.set_model.specs.declared.store.Store.TheVariants as stores
use Rattle.set_model.specs.Limits.{is_restart, passes_first, is_in_doubt}
use Rattle.set_model.specs.Node.{Node}
use Rattle.set_model.specs.Stores.{Plan, finished, storing, done, reaches}
use Rattle.node_core.specs.Opening.{ReopensInTurn}
use Rattle.node_core.specs.Stands.{Stands, documents_at}
use Rattle.node_core.specs.declared.done.Done.{Done}

-- the answer is the plan's, up to the store that failed, if one did
pub record Follows (plan : Plan) (node : Node) (done : Done) : Type 0 where
  pub outcome : Rattle.set_model.specs.Stores.done plan done.failed
      ≡ record { reply = done.reply; node = node; sent = done.sent.items }
  pub reached : reaches plan done.failed ≡ true

-- a restart that gets past its first store settles the store in doubt, and nothing else does
abbrev pub MaySettle : Node → Command → Done → Type 0
MaySettle node command done =
    (not done.kept || (is_restart command && passes_first done.failed && is_in_doubt node)) ≡ true

-- Faults of two disks: their counts never fall. A store fails only where one of them rose, and on steady
-- disks only where one was armed.
pub record Fails (Fault : Type 0) (journal journal' checkpoints checkpoints' : State) : Type 0 where
  pub journal_faults : journal.faults ≤ journal'.faults
  pub checkpoint_faults : checkpoints.faults ≤ checkpoints'.faults
  pub cause : Fault
      → CountRose journal.faults journal'.faults ⊎ CountRose checkpoints.faults checkpoints'.faults
  pub only_armed : Fault → IsTrue journal.is_steady → IsTrue checkpoints.is_steady
      → IsTrue journal.is_armed ⊎ IsTrue checkpoints.is_armed
  pub journal_steady : IsTrue journal.is_steady → IsTrue journal'.is_steady
  pub checkpoint_steady : IsTrue checkpoints.is_steady → IsTrue checkpoints'.is_steady

-- only an order arms a disk
abbrev pub ArmedBefore : State → State → Type 0
ArmedBefore old new = IsTrue new.is_armed → IsTrue old.is_armed

-- a disk is ordered to fail
abbrev pub is_disk_fail : Command → Bool
is_disk_fail (DiskFail node disk call pick) = true
is_disk_fail _ = false

-- the orders that a command gives to one of the disks: a crash with this reply cuts the power of both
abbrev pub orders_after : DiskName → Command → Reply → Orders → Orders
orders_after name (Crash node pick) reply.Down orders = ordered (power_cut pick) orders
orders_after disks.Journal (DiskFail node disks.Journal call pick) reply.Armed orders =
    ordered (arm call pick) orders
orders_after disks.Checkpoint (DiskFail node disks.Checkpoint call pick) reply.Armed orders =
    ordered (arm call pick) orders
orders_after name command answer orders = orders

-- one of two disks was asked to fail, and the other is as it was
abbrev pub Arms : DiskName → ℕ → Option ℕ → State → State → State → State → Type 0
Arms disks.Journal call pick j j' c c' = IsArmed call pick j j' × (c' ≡ c)
Arms disks.Checkpoint call pick j j' c c' = (j' ≡ j) × IsArmed call pick c c'

-- The two disks of a node, across a command with this reply: a fault comes only where one of their counts
-- rose, only a `diskfail` arms them, and only a crash and a `diskfail` give them orders.
pub record DisksActed (command : Command) (reply : Reply) (Fault : Type 0) (j j' c c' : State) : Type 0 where
  pub fails : Fails Fault j j' c c'
  pub journal_armed : is_disk_fail command ≡ false → ArmedBefore j j'
  pub checkpoints_armed : is_disk_fail command ≡ false → ArmedBefore c c'
  pub journal_orders : j'.orders ≡ orders_after disks.Journal command reply j.orders
  pub checkpoints_orders : c'.orders ≡ orders_after disks.Checkpoint command reply c.orders

-- Disks that were given no orders, and weren't armed. A fault comes only where one of them failed.
pub record RunsWithoutOrders (Fault : Type 0) (j j' c c' : State) : Type 0 where
  pub fails : Fails Fault j j' c c'
  pub journal_armed : ArmedBefore j j'
  pub checkpoints_armed : ArmedBefore c c'
  pub journal_orders : j'.orders ≡ j.orders
  pub checkpoints_orders : c'.orders ≡ c.orders

-- the two disks are as they were, except for their room
pub record AreSame (j j' c c' : State) : Type 0 where
  pub journal : SameButRoom j j'
  pub checkpoints : SameButRoom c c'

-- ---- what a call of a node results in

-- the plan stores nothing
abbrev pub IsFinished : Plan → Type 0
IsFinished (finished outcome) = ⊤
IsFinished (storing broken rest) = ⊥

-- How a command that stores nothing leaves the two disks, by its reply: a crash with the reply `down` cuts
-- the power of both, and does nothing else to them; a `diskfail` arms the one that it names; any other leaves
-- both as they were.
abbrev pub UnstoredBy : Command → Reply → State → State → State → State → Type 0
UnstoredBy (Crash node pick) reply.Down j j' c c' = IsCut pick j j' × IsCut pick c c'
UnstoredBy (DiskFail node disk call pick) reply.Armed j j' c c' = Arms disk call pick j j' c c'
UnstoredBy command answer j j' c c' = AreSame j j' c c'

-- what was being stored is on the disks: the journal has that record too, or the last checkpoint is the one
-- of that optime
abbrev pub IsThere : Node → Store → State → State → Type 0
IsThere node (stores.Record item) j c = HasJournal (contents j.file) (node.records ++ item ∷ [])
IsThere node (stores.Checkpoint at) j c = HasCheckpoint (contents c.file) (documents_at node at)

-- What a command with this plan and this reply did to the two disks of its node, given the node before it.
pub record DidToDisks (node : Node) (plan : Plan) (command : Command) (reply : Reply) (failed : Option ℕ)
    (kept : Bool) (j j' c c' : State) : Type 0 where
  pub acted : DisksActed command reply (IsSome failed) j j' c c'
  pub unstored : IsFinished plan → UnstoredBy command reply j j' c c'
  -- a restart opens both disks first: where that failed, nothing else was done
  pub opening : is_restart command ≡ true → failed ≡ Some 0
      → ReopensInTurn {T = Unit {0}} (Err Disk) j j' c c'
  -- if it didn't fail, `kept` is true exactly if what was in doubt is on disk
  pub found : is_restart command ≡ true → passes_first failed ≡ true
      → IfSome node.doubt (λ item. kept ≡ true ↔ IsThere node item j c)

-- A command was done at a node with these two disks.
pub record Acted (plan : Plan) (command : Command) (old new : Node) (j j' c c' : State)
    (done : Done) : Type 0 where
  pub follows : Follows plan new done
  pub settles : MaySettle old command done
  pub stands : Stands new j' c'
  pub disks : DidToDisks old plan command done.reply done.failed done.kept j j' c c'

-- A message was taken.
pub record Took (plan : Plan) (new : Node) (j j' c c' : State) (done : Done) : Type 0 where
  pub follows : Follows plan new done
  pub stands : Stands new j' c'
  pub runs : RunsWithoutOrders (IsSome done.failed) j j' c c'
  pub unstored : IsFinished plan → AreSame j j' c c'

-- ---- out of memory

-- Two disks that were opened again, as far as memory went, and nothing more was done. No orders were given to
-- them, and at each moment a crash left what an earlier crash could have left.
pub record AreReopened (j j' c c' : State) : Type 0 where
  pub calls : ReopensInTurn {T = Unit {0}} (Err Memory) j j' c c'
  pub runs : RunsWithoutOrders ⊥ j j' c c'
  pub journal : EachMoment (IsOneJournal j) j j'
  pub checkpoints : EachMoment (IsOneCheckpoint c) c c'

-- how a command that wasn't done leaves the two disks of its node
abbrev pub DisksLeft : Command → State → State → State → State → Type 0
DisksLeft (Restart node) j j' c c' = AreReopened j j' c c'
DisksLeft _ j j' c c' = AreSame j j' c c'

-- The node is as it was, and its disks are as such a command leaves them.
pub record Unchanged (Disks : State → State → State → State → Type 0) (old new : Node)
    (j j' c c' : State) : Type 0 where
  pub node : new ≡ old
  pub stands : Stands new j' c'
  pub disks : Disks j j' c c'
