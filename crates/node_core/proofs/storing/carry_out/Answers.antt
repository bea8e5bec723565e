use Rattle.std.proofs.Common.{ap, sym, subst, inr, arith, Err}
use Rattle.record_file.specs.Files.{spare}
use Rattle.record_file.specs.declared.error.FileError.{FileError}
use Rattle.node_core.specs.Putting.{EndsFrom, BeginsUnreserved, IsEnd, plan_of}
use Rattle.node_state.specs.Ready.{IsReadyTurn}
use Rattle.node_state.specs.declared.turn.Turn.{Turn}
use Rattle.node_core.specs.declared.storing.Ended.TheVariants.{StoreFailed}
use Rattle.node_core.proofs.CarryLemmas.{ends_here, goes_on, leaves_broken, rests_on, room_on}
use Rattle.node_core.proofs.PuttingLemmas.{runs_as, runs_then, same_none}
use Rattle.node_core.proofs.storing.carry_out.Goals as goal

pub carry_on-requires-clause-rests : goal.carry_on-requires-clause-rests
carry_on-requires-clause-rests g c =
    let old = c.args.state.now.node in
    let j = g.D.Disk.state c.put.new.self.journal.0 in
    let k = g.D.Disk.state c.put.new.self.checkpoints in
    rests_on c.in-Storing.item c.in-Storing.then old c.go_on-next.new.state.node c.go_on-next.result c.go_on-next.ensures.turn
    c.put.new.self.count j k c.in-Ok.ensures.puts.ok

pub carry_on-requires-clause-room : goal.carry_on-requires-clause-room
carry_on-requires-clause-room g c =
    let r = subst (λ (t : Turn). IsReadyTurn t c.args.state.now) c.in-Storing.is c.requires.ready in
    room_on c.args.state.now c.go_on-next.result c.args.state.now.node c.go_on-next.new.state.node
    (spare (g.D.Disk.state c.args.disks.now.journal.0) c.args.disks.now.journal.1)
    (spare (g.D.Disk.state c.put.new.self.journal.0) c.put.new.self.journal.1)
    c.requires.room c.in-Storing.item c.in-Storing.then r.0 c.in-Ok.ensures.spare c.go_on-next.ensures.turn

pub returns-in-Ok-clause-ends : goal.returns-in-Ok-clause-ends
returns-in-Ok-clause-ends g c =
    let old = c.args.state.now.node in
    let final = c.carry_on.new.state.node in
    subst (λ (t : Turn). EndsFrom 0 (plan_of t old) final c.carry_on.result) (sym c.in-Storing.is)
    (goes_on c.in-Storing.item c.in-Storing.then old c.go_on-next.new.state.node c.go_on-next.result c.go_on-next.ensures.turn 0 final c.carry_on.result c.carry_on.ensures.ends)

pub returns-in-Ok-clause-runs : goal.returns-in-Ok-clause-runs
returns-in-Ok-clause-runs g c =
    runs_then (g.D.Disk.state c.args.disks.now.journal.0) (g.D.Disk.state c.put.new.self.journal.0) (g.D.Disk.state c.carry_on.new.disks.journal.0)
    (g.D.Disk.state c.args.disks.now.checkpoints) (g.D.Disk.state c.put.new.self.checkpoints) (g.D.Disk.state c.carry_on.new.disks.checkpoints)
    (λ broken. inr broken) c.in-Ok.ensures.runs c.carry_on.ensures.runs

pub returns-in-Err-Memory-clause-runs : goal.returns-in-Err-Memory-clause-runs
returns-in-Err-Memory-clause-runs g c =
    runs_as (g.D.Disk.state c.args.disks.now.journal.0) (g.D.Disk.state c.put.new.self.journal.0)
    (g.D.Disk.state c.args.disks.now.checkpoints) (g.D.Disk.state c.put.new.self.checkpoints)
    (λ none. absurd none) c.in-Err-Memory.ensures.runs

pub returns-in-Err-Memory-clause-long : goal.returns-in-Err-Memory-clause-long
returns-in-Err-Memory-clause-long g c =
    subst (λ (t : Turn). BeginsUnreserved t) (sym c.in-Storing.is)
    (λ short. c.in-Err-Memory.ensures.room short (omega (arith, c.requires.room)) (ap (λ (e : FileError). Err e) c.in-Err-Memory.field-0-is))

pub returns-in-Err-Disk-clause-ends : goal.returns-in-Err-Disk-clause-ends
returns-in-Err-Disk-clause-ends g c =
    let old = c.args.state.now.node in
    subst (λ (t : Turn). EndsFrom 0 (plan_of t old) old (StoreFailed c.in-Storing.item 0)) (sym c.in-Storing.is)
    (ends_here 0 c.in-Storing.item c.in-Storing.then old)

pub returns-in-Err-Disk-clause-leaves : goal.returns-in-Err-Disk-clause-leaves
returns-in-Err-Disk-clause-leaves g c =
    let old = c.args.state.now.node in
    let j = g.D.Disk.state c.put.new.self.journal.0 in
    let k = g.D.Disk.state c.put.new.self.checkpoints in
    leaves_broken c.in-Storing.item 0 old c.put.new.self.count j k c.in-Err-Disk.ensures.puts.uncounted
    (c.in-Err-Disk.ensures.puts.broken (ap (λ (e : FileError). Err e) c.in-Err-Disk.field-0-is))
    c.recall_can_store.ensures.well c.recall_can_store.ensures.doubtful

pub returns-in-Err-Disk-clause-runs : goal.returns-in-Err-Disk-clause-runs
returns-in-Err-Disk-clause-runs g c =
    runs_as (g.D.Disk.state c.args.disks.now.journal.0) (g.D.Disk.state c.put.new.self.journal.0)
    (g.D.Disk.state c.args.disks.now.checkpoints) (g.D.Disk.state c.put.new.self.checkpoints)
    (λ broken. ap (λ (e : FileError). Err e) c.in-Err-Disk.field-0-is) c.in-Err-Disk.ensures.runs

pub returns-in-Err-Memory-clause-unused : goal.returns-in-Err-Memory-clause-unused
returns-in-Err-Memory-clause-unused g c = c.in-Err-Memory.ensures.memory (ap (λ (e : FileError). Err e) c.in-Err-Memory.field-0-is)

pub returns-in-Finished-clause-unstored : goal.returns-in-Finished-clause-unstored
returns-in-Finished-clause-unstored g c = λ _. same_none (g.D.Disk.state c.args.disks.now.journal.0) (g.D.Disk.state c.args.disks.now.checkpoints)

pub returns-in-Ok-clause-unstored : goal.returns-in-Ok-clause-unstored
returns-in-Ok-clause-unstored g c = λ end. absurd (subst (λ (t : Turn). IsEnd t) c.in-Storing.is end)

pub returns-in-Err-Disk-clause-unstored : goal.returns-in-Err-Disk-clause-unstored
returns-in-Err-Disk-clause-unstored g c = λ end. absurd (subst (λ (t : Turn). IsEnd t) c.in-Storing.is end)
