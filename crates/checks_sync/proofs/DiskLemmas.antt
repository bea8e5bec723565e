-- Disks in memory on which a copy can be made.
use Rattle.std.proofs.Common.{◌≡◌, [], sym, subst, refl}
use Rattle.rs_disk.specs.File.{IsEmpty}
use Rattle.rs_disk.specs.Images.{only_image}
use Rattle.rs_disk.specs.Memory.{fresh}
use Rattle.rs_disk.specs.State.{State}
use Rattle.initial_sync.specs.Copies.{AreCopyDisks, empty_disks}

fresh_is_empty : (state : State) → state ≡ fresh → IsEmpty state.file
fresh_is_empty state is = subst (λ (s : State). IsEmpty s.file) (sym is) (record { reads = refl; leaves = λ image left. only_image [] image left })

pub fresh_disks : (j c : State) → j ≡ fresh → c ≡ fresh → AreCopyDisks j c
fresh_disks j c one two = empty_disks j c (fresh_is_empty j one) (fresh_is_empty c two)
