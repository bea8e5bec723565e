use Rattle.std.proofs.Common.{◌≡◌, ◌∙◌, Ok, length, rules, subst, sym}
use Rattle.std.specs.List.{AllPass}
use Rattle.std.proofs.lemmas.List.Sums.{AllPass-from_list_all}
use Rattle.set_program.specs.Parts.{can_be_run}
use Rattle.fault_script.specs.Script.{sizes_of}
use Rattle.set_model.specs.Run.{Sizes}
use Rattle.set_world.specs.Disks.{Opens}
use Rattle.set_program.proofs.OpenLemmas.{refused}
use Rattle.set_program.proofs.SyncedLemmas.{spare_first, task_plays}
use Rattle.set_program.proofs.set.run_script.Goals as goal

pub play_task-requires-clause-fits : goal.play_task-requires-clause-fits
play_task-requires-clause-fits g c κs within =
    subst (λ (s : Sizes). AllPass (can_be_run s.nodes) c.args.script.parts) (sym c.in-Ok.ensures.sizes)
    (AllPass-from_list_all (can_be_run c.args.script.nodes) c.args.script.parts c.requires.fits)

pub play_task-requires-clause-many : goal.play_task-requires-clause-many
play_task-requires-clause-many g c κs within =
    let many : length c.args.disks.items ≡ 100 = search rules in
    let opened : Opens g.D.Disk.state c.args.script.nodes (Ok tt) c.args.disks.items c.in-Ok.world.disks = search rules in
    opened.count ∙ many

pub play_task-requires-clause-spare : goal.play_task-requires-clause-spare
play_task-requires-clause-spare g c κs within =
    let opened : Opens g.D.Disk.state c.args.script.nodes (Ok tt) c.args.disks.items c.in-Ok.world.disks = search rules in
    spare_first g.D.Disk.state c.args.disks.items c.in-Ok.world (sizes_of c.args.script) c.in-Ok.ensures.sizes opened c.requires.empty

pub returns-in-Ok-clause-plays : goal.returns-in-Ok-clause-plays
returns-in-Ok-clause-plays g c =
    let many : length c.args.disks.items ≡ 100 = search rules in
    let opened : Opens g.D.Disk.state c.args.script.nodes (Ok tt) c.args.disks.items c.in-Ok.world.disks = search rules in
    task_plays g.D.Disk.state c.args.disks.items many c.safe.ensures c.numbers_stay_small.ensures c.args.task c.args.script c.in-Ok.world c.play_task.result.1 (g.K.Sink.held c.args.sink.now) (g.K.Sink.held c.play_task.new.sink)
    c.play_task.result.0 c.requires.sizes c.in-Ok.ensures.sizes opened c.play_task.ensures.sizes c.play_task.ensures.ends c.play_task.ensures.disks c.play_task.ensures.member

pub returns-in-Err-clause-plays : goal.returns-in-Err-clause-plays
returns-in-Err-clause-plays g c =
    refused g.D.Disk.state c.args.disks.items c.args.task c.args.script (g.K.Sink.held c.args.sink.now) c.in-Err.error c.from.result c.new.result c.in-Err.disks c.from.ensures c.new.ensures.items
    c.in-Err.ensures.refused c.in-Err.ensures.handed_back
