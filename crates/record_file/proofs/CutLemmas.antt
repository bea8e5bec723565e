-- What a power cut leaves.
use Rattle.std.proofs.Common.{ℕ, List, sym, subst}
use Rattle.rs_disk.specs.File.{LeavesOnly, contents}
use Rattle.rs_disk.specs.Images.{only_image}
use Rattle.rs_disk.specs.State.{State, IsCut}

-- what holds of all that a crash may leave holds of what this one left
pub cut_leaves : (P : List ℕ → Type 0) (pick : ℕ) (old new : State) → IsCut pick old new → LeavesOnly P old.file → LeavesOnly P new.file
cut_leaves P pick old new is leaves =
    subst (LeavesOnly P) (sym is.synced) (λ image one. subst P (sym (only_image (contents new.file) image one)) (leaves (contents new.file) is.image))
