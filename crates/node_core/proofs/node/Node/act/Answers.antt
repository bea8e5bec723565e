use Rattle.std.proofs.Common.{sym, subst}
use Rattle.std.specs.Prelude.{IfOk, OnErr}
use Rattle.set_model.specs.declared.command.Command.{Command}
use Rattle.set_model.specs.Rows.{row}
use Rattle.node_core.specs.Acting.{Acted, DisksLeft, Unchanged}
use Rattle.node_core.proofs.ActingLemmas.{own_acted, own_here, own_unchanged}
use Rattle.node_core.proofs.node.Node.act.Goals as goal

pub returns-in-Crash-clause-ok : goal.returns-in-Crash-clause-ok
returns-in-Crash-clause-ok g c =
    let old = c.args.self.now in
    let new = c.crash.new.self in
    subst (λ (x : Command). Acted (row c.args.nodes c.args.next c.crash.result.kept old.0 x) x old.0 new.0
    (g.D.Disk.state old.1) (g.D.Disk.state new.1) (g.D.Disk.state old.2) (g.D.Disk.state new.2) c.crash.result)
    (sym c.in-Crash.is) (c.crash.ensures.ok c.args.nodes c.args.next c.in-Crash.node)

pub returns-in-Restart-clause-ok : goal.returns-in-Restart-clause-ok
returns-in-Restart-clause-ok g c =
    let old = c.args.self.now in
    let new = c.restart.new.self in
    subst (λ (x : Command). IfOk c.restart.result (λ done. Acted (row c.args.nodes c.args.next done.kept old.0 x) x old.0 new.0
    (g.D.Disk.state old.1) (g.D.Disk.state new.1) (g.D.Disk.state old.2) (g.D.Disk.state new.2) done))
    (sym c.in-Restart.is) (c.restart.ensures.ok c.args.nodes c.args.next c.in-Restart.node)

pub returns-in-Restart-clause-err : goal.returns-in-Restart-clause-err
returns-in-Restart-clause-err g c =
    let old = c.args.self.now in
    let new = c.restart.new.self in
    subst (λ (x : Command). OnErr c.restart.result (Unchanged (DisksLeft x) old.0 new.0
    (g.D.Disk.state old.1) (g.D.Disk.state new.1) (g.D.Disk.state old.2) (g.D.Disk.state new.2)))
    (sym c.in-Restart.is) c.restart.ensures.err

pub returns-in-DiskFail-clause-ok : goal.returns-in-DiskFail-clause-ok
returns-in-DiskFail-clause-ok g c =
    let old = c.args.self.now in
    let new = c.disk_fail.new.self in
    subst (λ (x : Command). Acted (row c.args.nodes c.args.next c.disk_fail.result.kept old.0 x) x old.0 new.0
    (g.D.Disk.state old.1) (g.D.Disk.state new.1) (g.D.Disk.state old.2) (g.D.Disk.state new.2) c.disk_fail.result)
    (sym c.in-DiskFail.is) (c.disk_fail.ensures.ok c.args.nodes c.args.next c.in-DiskFail.node)

pub returns-in_default : goal.returns-in_default
returns-in_default g c =
    let old = c.args.self.now in
    let new = c.act_in_memory.new.self in
    record {
      ok = own_acted c.act_in_memory.result c.args.nodes c.args.next c.args.command.now old.0 new.0
          (g.D.Disk.state old.1) (g.D.Disk.state new.1) (g.D.Disk.state old.2) (g.D.Disk.state new.2)
          (own_here c.args.command.now c.requires.here c.in_default.not-Crash c.in_default.not-Restart c.in_default.not-DiskFail)
          c.act_in_memory.ensures.ok c.act_in_memory.ensures.unkept;
      err = own_unchanged c.act_in_memory.result c.args.command.now old.0 new.0
          (g.D.Disk.state old.1) (g.D.Disk.state new.1) (g.D.Disk.state old.2) (g.D.Disk.state new.2)
          (own_here c.args.command.now c.requires.here c.in_default.not-Crash c.in_default.not-Restart c.in_default.not-DiskFail)
          c.act_in_memory.ensures.err;
    }
