use Rattle.std.proofs.Common.{◌≡◌, subst, ℕ, true, false, rules}
use Rattle.std.specs.Prelude.{IfOk}
use Rattle.set_model.specs.declared.command.Command.TheVariants.{Restart}
use Rattle.set_model.specs.Disk.{restart}
use Rattle.set_model.specs.Node.{Node}
use Rattle.node_core.specs.Acting.{Acted}
use Rattle.node_core.specs.Down.{down_state, seen_node}
use Rattle.node_core.proofs.RisingLemmas.{acted_come, acted_up, unchanged_come}
use Rattle.node_core.proofs.node.Node.restart.Goals as goal

pub returns-then-not-self-clause-ok : goal.returns-then-not-self-clause-ok
returns-then-not-self-clause-ok g c =
    let s = c.self.inside in
    let n = c.come_up.new in
    let down : s.up ≡ false = search rules in
    subst (λ (v : Node × g.row.D.Denot × g.row.D.Denot). (nodes next number : ℕ) → IfOk c.come_up.result (λ done.
    Acted (restart v.0 done.kept) (Restart number) v.0 (seen_node n.up n.state.node (down_state n.left)) (g.D.Disk.state v.1) (g.D.Disk.state n.disks.journal.0) (g.D.Disk.state v.2) (g.D.Disk.state n.disks.checkpoints) done))
    c.self.view_is
    (λ nodes next number. acted_come s.up n.up s.state.node n.state.node (down_state s.left) (down_state n.left) n.disks.count
    (g.D.Disk.state s.disks.journal.0) (g.D.Disk.state n.disks.journal.0) (g.D.Disk.state s.disks.checkpoints) (g.D.Disk.state n.disks.checkpoints) down
    c.come_up.result c.come_up.ensures.follows c.come_up.ensures.settles c.come_up.ensures.rests c.come_up.ensures.runs c.come_up.ensures.opening c.come_up.ensures.found nodes next number)

pub returns-then-not-self-clause-err : goal.returns-then-not-self-clause-err
returns-then-not-self-clause-err g c =
    let s = c.self.inside in
    let n = c.come_up.new in
    let down : s.up ≡ false = search rules in
    rw (← c.self.view_is)
    (unchanged_come s.up n.up s.state.node n.state.node (down_state s.left) (down_state n.left) n.disks.count
    (g.D.Disk.state s.disks.journal.0) (g.D.Disk.state n.disks.journal.0) (g.D.Disk.state s.disks.checkpoints) (g.D.Disk.state n.disks.checkpoints) down
    c.come_up.result c.come_up.ensures.same c.come_up.ensures.left c.come_up.ensures.reopened)

pub returns-clause-ok : goal.returns-clause-ok
returns-clause-ok g c =
    let s = c.self.inside in
    let up : s.up ≡ true = search rules in
    subst (λ (v : Node × g.row.D.Denot × g.row.D.Denot). (nodes next number : ℕ) → Acted (restart v.0 c.answered.result.kept) (Restart number) v.0 v.0
    (g.D.Disk.state v.1) (g.D.Disk.state v.1) (g.D.Disk.state v.2) (g.D.Disk.state v.2) c.answered.result)
    c.self.view_is
    (λ nodes next number. acted_up s.up s.state.node (down_state s.left) s.disks.count (g.D.Disk.state s.disks.journal.0) (g.D.Disk.state s.disks.checkpoints) c.answered.result up
    c.recall_sound.ensures.up c.recall_sound.ensures.settled c.self.invariant c.answered.ensures.reply c.answered.ensures.sent c.answered.ensures.failed c.answered.ensures.unkept nodes next number)
