use Rattle.std.proofs.Common.{◌≡◌, ◌≢◌, ◌∙◌, refl, sym}
use Rattle.record_file.specs.declared.error.FileError.{FileError}
use Rattle.record_file.specs.declared.error.FileError.TheVariants.{Disk, Memory}
use Rattle.node_core.specs.Down.{down_node, down_state}
use Rattle.node_core.proofs.PuttingLemmas.{runs_as}
use Rattle.node_core.proofs.RisingLemmas.{can_cut, cut_up, doubted_follows, doubted_lies, failed_by}
use Rattle.node_core.proofs.coming_up.go_up.Goals as goal

pub returns-in-Ok-clause-rests : goal.returns-in-Ok-clause-rests
returns-in-Ok-clause-rests g c =
    let node = down_node c.args.state.now.node (down_state c.args.prepared.left) in
    let can = can_cut node c.in-Some.at (sym c.in-Some.is ∙ c.requires.prepared.cut) c.requires.well in
    cut_up node c.args.prepared c.in-Some.at c.is_up-in-Ok.new.up c.is_up-in-Ok.new.state.node (down_state c.args.left.now) c.add.new.self.count
    (g.D.Disk.state c.add.new.self.journal.0) (g.D.Disk.state c.add.new.self.checkpoints)
    c.requires.prepared c.in-Some.is c.is_up-in-Ok.ensures.up c.is_up-in-Ok.ensures.state (c.in-Ok.ensures.puts node c.requires.rests can).ok

pub returns-clause-follows : goal.returns-clause-follows
returns-clause-follows g c = λ broken.
    doubted_follows c.args.up.now c.args.state.now.node (down_state c.args.prepared.left) (down_state c.cut_failed.new.left) c.in-Some.at c.requires.down c.cut_failed.ensures.left
    (sym c.in-Some.is ∙ c.requires.prepared.cut) c.requires.well broken c.cut_failed.result c.cut_failed.ensures.reply c.cut_failed.ensures.sent c.cut_failed.ensures.failed

pub returns-clause-rests : goal.returns-clause-rests
returns-clause-rests g c =
    let node = down_node c.args.state.now.node (down_state c.args.prepared.left) in
    let is = sym c.in-Some.is ∙ c.requires.prepared.cut in
    let can = can_cut node c.in-Some.at is c.requires.well in
    doubted_lies c.args.up.now c.args.state.now.node (down_state c.args.prepared.left) (down_state c.cut_failed.new.left) c.in-Some.at c.requires.down c.cut_failed.ensures.left
    is c.requires.well c.in-Err.field-0 c.add.new.self.count (g.D.Disk.state c.add.new.self.journal.0) (g.D.Disk.state c.add.new.self.checkpoints)
    (c.in-Err.ensures.room tt c.requires.room) (c.in-Err.ensures.puts node c.requires.rests can)

-- an error that isn't out of memory is a disk's
of_disk : (error : FileError) → failed_by error ≢ failed_by Memory → failed_by error ≡ failed_by Disk
of_disk Disk other = refl
of_disk Memory other = absurd (other refl)

pub returns-clause-runs : goal.returns-clause-runs
returns-clause-runs g c =
    runs_as (g.D.Disk.state c.args.disks.now.journal.0) (g.D.Disk.state c.add.new.self.journal.0) (g.D.Disk.state c.args.disks.now.checkpoints) (g.D.Disk.state c.add.new.self.checkpoints)
    (λ failed. of_disk c.in-Err.field-0 (c.in-Err.ensures.room tt c.requires.room)) c.in-Err.ensures.runs
