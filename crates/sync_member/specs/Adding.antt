-- How a set gets a new member.
use Rattle.std.specs.Prelude.{◌≡◌, ◌≢◌, ℕ, List, Option, Result, Ok, Err, true}
use Rattle.rs_disk.specs.State.{State}
use Rattle.initial_sync.specs.Answers.{RanBoth}
use Rattle.initial_sync.specs.Copies.{Copy}
use Rattle.initial_sync.specs.Pinned.{IsPinned, copy_of}
use Rattle.initial_sync.specs.declared.pinned.Pinned.{Pinned}
use Rattle.set_model.specs.declared.command.Event.{Event}
use Rattle.set_model.specs.Limits.{IsRun}
use Rattle.set_world.specs.Disks.{AllStand, OneChanged}
use Rattle.set_world.specs.Went.{WentOn}
use Rattle.set_world.specs.World.{Set}
use Rattle.sync_copy.specs.Making.{BecomesMember, pinned_text}
use Rattle.sync_pin.specs.Asking.{HaveLeaders, Pins}
use Rattle.sync_words.specs.Putting.{PutsText}
use Rattle.sync_words.specs.declared.stop.SyncStop.{SyncStop}
use Rattle.sync_words.specs.declared.stop.SyncStop.TheVariants.{DiskFault, Memory}

-- Two disks become a new member's. They are the reason for a failure only if a count of theirs rises.
abbrev pub DisksOfMember : Copy → Result (Unit {0}) SyncStop → State → State → State → State → Type 0
DisksOfMember copy made j j' c c' =
    BecomesMember copy made j j' c c' × RanBoth (made ≡ Err DiskFault) j j' c c'

-- A node of the set was asked, and the set was closed after these events. Of its disks, the next two after
-- those of its nodes became a member's with what the node showed, and its lines were put; the others are as
-- the set left them.
pub record AddsMember {D : Type 0} (state : D → State) (node : ℕ) (old : Set D) (held now : Option (List ℕ))
    (made : Result (Unit {0}) SyncStop) (events : List Event) (disks : List D)
    : Type 0 where
  pub set : Set D
  pub went : WentOn state old set
  pub whole : set.whole ≡ true
  pub defined : IsRun set.sizes set.history
  pub stands : AllStand state set
  pub events_are : events ≡ set.history
  pub pinned : Pinned
  pub is_pinned : IsPinned pinned
  pub asked : Option (List ℕ)
  pub pins : Pins old.sizes node old.history set.history held asked (Ok pinned)
  pub leaders : HaveLeaders old.sizes set.history pinned
  pub member : OneChanged state (DisksOfMember (copy_of pinned) made) old.sizes.nodes set.disks disks
  pub puts : PutsText asked now (pinned_text old.sizes.nodes pinned) made

-- The set is still there: a node was asked, and there is nothing to begin with, or the line that says so
-- couldn't be put.
pub record AddsNoMember {D : Type 0} (state : D → State) (node : ℕ) (old left : Set D)
    (held now : Option (List ℕ)) (ended : Result (Unit {0}) SyncStop)
    : Type 0 where
  pub why : SyncStop
  pub ends : ended ≡ Err why
  pub pins : Pins old.sizes node old.history left.history held now (Err why)
  pub went : WentOn state old left
  pub whole : why ≢ Memory → left.whole ≡ true
