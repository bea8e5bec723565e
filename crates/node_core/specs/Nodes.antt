-- A node on its disks, when it is opened.
use Rattle.std.specs.Prelude.{◌≡◌, Result, Ok, Err}
use Rattle.record_file.specs.declared.error.FileError.{FileError}
use Rattle.record_file.specs.declared.error.FileError.TheVariants.{Disk}
use Rattle.set_model.specs.Node.{Node}

-- the disks after an opening
abbrev pub journal_after : {D : Type 0} → Result (Node × D × D) (D × D × FileError) → D
journal_after (Ok opened) = opened.1
journal_after (Err refused) = refused.0

abbrev pub checkpoints_after : {D : Type 0} → Result (Node × D × D) (D × D × FileError) → D
checkpoints_after (Ok opened) = opened.2
checkpoints_after (Err refused) = refused.1

-- the result of an opening, without the disks that it hands back
abbrev pub answer_of :
    {D : Type 0} → Result (Node × D × D) (D × D × FileError) → Result (Node × D × D) FileError
answer_of (Ok opened) = Ok opened
answer_of (Err refused) = Err refused.2

-- a disk failed
abbrev pub HasFailed : {T : Type 0} → Result T FileError → Type 0
HasFailed (Ok value) = ⊥
HasFailed (Err error) = error ≡ Disk
