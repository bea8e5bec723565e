-- Empty disks.
use Rattle.std.proofs.Common.{ℕ, ◌≡◌, ◌≤◌, List, [], ◌∷◌, ◌++◌, length, refl, sym, subst, arith}
use Rattle.std.specs.Prelude.{All, Option}
use Rattle.std.proofs.lemmas.List.Elements.{All-push}
use Rattle.rs_disk.specs.File.{IsEmpty}
use Rattle.rs_disk.specs.Memory.{fresh, state_of}
use Rattle.rs_disk.specs.State.{State, IsArmed}
use Rattle.rs_disk.specs.declared.memory.MemDisk.{MemDisk}

none_left : (image : List ℕ) → length image ≤ 0 → image ≡ []
none_left [] short = refl
none_left (byte ∷ image) short = absurd (omega (arith, short))

-- nothing stands on a fresh disk
pub fresh_is_empty : (disk : MemDisk) → state_of disk ≡ fresh → IsEmpty (state_of disk).file
fresh_is_empty disk is =
    subst (λ (s : State). IsEmpty s.file) (sym is) (record { reads = refl; leaves = λ image left. none_left image left.no_longer })

-- nor on one that was only armed
pub armed_is_empty : (disk after : MemDisk) (call : ℕ) (pick : Option ℕ) → state_of disk ≡ fresh → IsArmed call pick (state_of disk) (state_of after) → IsEmpty (state_of after).file
armed_is_empty disk after call pick is armed = subst (λ (s : State). IsEmpty s.file) (sym armed) (fresh_is_empty disk is)

-- an empty disk more
pub empty_more : (disks after : List MemDisk) (disk : MemDisk) → after ≡ disks ++ disk ∷ [] → IsEmpty (state_of disk).file → All (λ (d : MemDisk). IsEmpty (state_of d).file) disks
    → All (λ (d : MemDisk). IsEmpty (state_of d).file) after
empty_more disks after disk is empty all =
    subst (All (λ (d : MemDisk). IsEmpty (state_of d).file)) (sym is) (All-push (λ (d : MemDisk). IsEmpty (state_of d).file) disks disk all empty)
