-- A set from an earlier moment to its closing.
use Rattle.std.proofs.Common.{◌≡◌, arith, ℕ, ◌≤◌, ◌+◌, ◌*◌, ◌⊎◌, inl, inr, sym, subst, true, length, drop}
use Rattle.std.specs.Prelude.{All}
use Rattle.rs_io.specs.Fault.{CountRose, HasCause}
use Rattle.rs_disk.specs.File.{IsEmpty}
use Rattle.rs_disk.specs.State.{State}
use Rattle.set_model.specs.Limits.{IsRun}
use Rattle.set_model.specs.Run.{AreSizes, Sizes, run}
use Rattle.safety_laws.specs.Bounds.{NumbersStaySmall}
use Rattle.safety_laws.specs.Laws.{InEveryRun}
use Rattle.set_world.specs.Went.{DisksPlay, GoesOn, WentOn}
use Rattle.set_world.specs.World.{Set}
use Rattle.set_world.proofs.WentLemmas.{went_nowhere}
use Rattle.sync_member.proofs.IdleLemmas.{room_after, went_idle}

pub went_by : {D : Type 0} (state : D → State) (old new : Set D) → (new ≡ old) ⊎ GoesOn state old new → WentOn state old new
went_by {D} state old new (inl same) = subst (λ (set : Set D). WentOn state old set) (sym same) (went_nowhere state old)
went_by state old new (inr goes) = goes old (went_nowhere state old)

-- a fault comes from the second of two calls
pub cause_then : (before between now : ℕ) (First Second : Type 0) → HasCause before between First → HasCause between now Second → HasCause before now Second
cause_then before between now First Second first second = record {
  later = omega (arith, first.later, second.later);
  rose = λ fault. let rose : CountRose between now = second.rose fault in omega (arith, first.later, rose);
}

-- the disks without a node are then as they were
module _ {D : Type 0} (state : D → State) (law : InEveryRun NumbersStaySmall) (old new : Set D) (went : WentOn state old new) (whole : new.whole ≡ true) (are : AreSizes new.sizes) (is_run : IsRun new.sizes new.history) where
  idle : drop (2 * old.sizes.nodes) new.disks ≡ drop (2 * old.sizes.nodes) old.disks
  idle = subst (λ (s : Sizes). drop (2 * s.nodes) new.disks ≡ drop (2 * s.nodes) old.disks) went.sizes
      (went_idle state new.sizes old.history went.added new.history went.history (law new.sizes new.history are is_run) is_run old.disks new.disks
      (subst (λ (s : Sizes). DisksPlay state (run s old.history).world went.added old.disks new.disks) (sym went.sizes) (went.played whole)))

  pub spare_still : All (λ (disk : D). IsEmpty (state disk).file) (drop (2 * old.sizes.nodes) old.disks) → All (λ (disk : D). IsEmpty (state disk).file) (drop (2 * old.sizes.nodes) new.disks)
  spare_still spare = subst (All (λ (disk : D). IsEmpty (state disk).file)) (sym idle) spare

  pub room_still : 2 * old.sizes.nodes + 2 ≤ length old.disks → 2 * old.sizes.nodes + 2 ≤ length new.disks
  room_still room = room_after (2 * old.sizes.nodes) old.disks new.disks idle room
