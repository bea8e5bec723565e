use Rattle.std.proofs.Common.{ap, sym, subst, Err}
use Rattle.record_file.specs.declared.error.FileError.{FileError}
use Rattle.node_core.specs.Putting.{EndsFrom, plan_of}
use Rattle.node_state.specs.declared.turn.Turn.{Turn}
use Rattle.node_core.specs.declared.storing.Ended.TheVariants.{StoreFailed}
use Rattle.node_core.proofs.CarryLemmas.{ends_here, goes_on, leaves_broken, leaves_whole, rests_on}
use Rattle.node_core.proofs.PuttingLemmas.{runs_as}
use Rattle.node_core.proofs.storing.carry_on.Goals as goal

pub returns-in-Ok-clause-ends : goal.returns-in-Ok-clause-ends
returns-in-Ok-clause-ends g c =
    let old = c.args.state.now.node in
    let new = c.go_on-last.new.state.node in
    subst (λ (t : Turn). EndsFrom 1 (plan_of t old) new c.said.result) (sym c.in-Storing.is)
    (goes_on c.in-Storing.item c.in-Storing.then old new c.go_on-last.result c.go_on-last.ensures.turn 1 new c.said.result (c.said.ensures.ends 2 new))

pub returns-in-Ok-clause-leaves : goal.returns-in-Ok-clause-leaves
returns-in-Ok-clause-leaves g c =
    let old = c.args.state.now.node in
    let new = c.go_on-last.new.state.node in
    let j = g.D.Disk.state c.put.new.self.journal.0 in
    let k = g.D.Disk.state c.put.new.self.checkpoints in
    leaves_whole c.said.result new c.put.new.self.count j k c.said.ensures.whole
    (rests_on c.in-Storing.item c.in-Storing.then old new c.go_on-last.result c.go_on-last.ensures.turn c.put.new.self.count j k c.in-Ok.ensures.puts.ok)

pub returns-in-Ok-clause-runs : goal.returns-in-Ok-clause-runs
returns-in-Ok-clause-runs g c =
    runs_as (g.D.Disk.state c.args.disks.now.journal.0) (g.D.Disk.state c.put.new.self.journal.0)
    (g.D.Disk.state c.args.disks.now.checkpoints) (g.D.Disk.state c.put.new.self.checkpoints)
    (λ broken. absurd (c.said.ensures.whole broken)) c.in-Ok.ensures.runs

pub returns-in-Err-Disk-clause-ends : goal.returns-in-Err-Disk-clause-ends
returns-in-Err-Disk-clause-ends g c =
    let old = c.args.state.now.node in
    subst (λ (t : Turn). EndsFrom 1 (plan_of t old) old (StoreFailed c.in-Storing.item 1)) (sym c.in-Storing.is)
    (ends_here 1 c.in-Storing.item c.in-Storing.then old)

pub returns-in-Err-Disk-clause-leaves : goal.returns-in-Err-Disk-clause-leaves
returns-in-Err-Disk-clause-leaves g c =
    let old = c.args.state.now.node in
    let j = g.D.Disk.state c.put.new.self.journal.0 in
    let k = g.D.Disk.state c.put.new.self.checkpoints in
    leaves_broken c.in-Storing.item 1 old c.put.new.self.count j k c.in-Err-Disk.ensures.puts.uncounted
    (c.in-Err-Disk.ensures.puts.broken (ap (λ (e : FileError). Err e) c.in-Err-Disk.field-0-is))
    c.recall_can_store.ensures.well c.recall_can_store.ensures.doubtful

pub returns-in-Err-Disk-clause-runs : goal.returns-in-Err-Disk-clause-runs
returns-in-Err-Disk-clause-runs g c =
    runs_as (g.D.Disk.state c.args.disks.now.journal.0) (g.D.Disk.state c.put.new.self.journal.0)
    (g.D.Disk.state c.args.disks.now.checkpoints) (g.D.Disk.state c.put.new.self.checkpoints)
    (λ broken. ap (λ (e : FileError). Err e) c.in-Err-Disk.field-0-is) c.in-Err-Disk.ensures.runs
