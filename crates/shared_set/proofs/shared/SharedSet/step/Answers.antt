use Rattle.std.proofs.Common.{◌≡◌, ◌∙◌, true, ap, sym, subst, arith}
use Rattle.set_model.specs.Limits.{IsRun, is_for}
use Rattle.set_model.specs.Run.{AreSizes, Sizes}
use Rattle.shared_set.specs.Passes.{sizes_of}
use Rattle.shared_set.specs.Sets.{sizes_in}
use Rattle.shared_set.proofs.CallLemmas.{all_seen, answers, owes_numbers, owes_value, sizes_here}
use Rattle.shared_set.proofs.shared.SharedSet.step.Goals as goal

pub step-node-requires-clause-command : goal.step-node-requires-clause-command
step-node-requires-clause-command g c κs within =
    let fixed = ap (λ l. sizes_in l) c.requires.pass.0.4 in
    let fresh = c.requires.pass.0.3 ∙ c.args.self.now.fresh in
    subst (λ (s : Sizes). is_for s.nodes c.args.command.now ≡ true) (sym (sizes_here g.D.Disk.state (sizes_of c.args.self.now) c.args.pass.now.view c.enter-set.new.pass.view c.enter-set.result c.enter-set.ensures.entered fixed fresh c.recall_went.ensures.tried)) c.requires.command

pub leave-requires-clause-point : goal.leave-requires-clause-point
leave-requires-clause-point g c =
    let fixed = ap (λ l. sizes_in l) c.requires.pass.0.4 in
    let fresh = c.requires.pass.0.3 ∙ c.args.self.now.fresh in
    let nodes = ap (λ (s : Sizes). s.nodes) (sizes_here g.D.Disk.state (sizes_of c.args.self.now) c.args.pass.now.view c.enter-set.new.pass.view c.enter-set.result c.enter-set.ensures.entered fixed fresh c.recall_went.ensures.tried) in
    let known = c.step-node.ensures.known in
    let points = c.args.self.now.points in
    omega (arith, nodes, known, points)

pub leave-requires-clause-value : goal.leave-requires-clause-value
leave-requires-clause-value g c =
    let fixed = ap (λ l. sizes_in l) c.requires.pass.0.4 in
    let fresh = c.requires.pass.0.3 ∙ c.args.self.now.fresh in
    owes_value g.D.Disk.state (sizes_of c.args.self.now) c.args.pass.now.view c.enter-set.new.pass.view c.enter-set.result c.enter-set.ensures.entered fixed fresh c.recall_went.ensures.tried c.step-node.new.self c.args.line c.args.command.now c.step-node.ensures.fixed c.recall_went-2.ensures.tried c.step-node.ensures.tried

pub leave-requires-clause-numbers : goal.leave-requires-clause-numbers
leave-requires-clause-numbers g c =
    let fixed = ap (λ l. sizes_in l) c.requires.pass.0.4 in
    let fresh = c.requires.pass.0.3 ∙ c.args.self.now.fresh in
    owes_numbers g.D.Disk.state (sizes_of c.args.self.now) c.args.pass.now.view c.enter-set.new.pass.view c.enter-set.result c.enter-set.ensures.entered fixed fresh c.recall_went.ensures.tried c.step-node.new.self c.args.line c.args.command.now c.step-node.ensures.fixed c.recall_went-2.ensures.tried c.step-node.ensures.tried c.step-node.result.1 c.step-node.result.0 c.step-node.ensures.touched c.step-node.ensures.went

pub returns-clause-step : goal.returns-clause-step
returns-clause-step g c =
    let fixed = ap (λ l. sizes_in l) c.requires.pass.0.4 in
    let fresh = c.requires.pass.0.3 ∙ c.args.self.now.fresh in
    let all = all_seen g.D.Disk.state (sizes_of c.args.self.now) c.args.pass.now.view c.enter-set.new.pass.view c.enter-set.result c.enter-set.ensures.entered fixed fresh c.recall_went.ensures.tried c.step-node.new.self c.args.line c.args.command.now c.step-node.ensures.fixed c.recall_went-2.ensures.tried c.step-node.ensures.tried c.leave.new.pass.view c.leave.ensures.added (c.leave.ensures.pass.0.4 ∙ sym c.requires.pass.0.4) (c.leave.ensures.pass.0.3 ∙ c.args.self.now.fresh) c.leave.ensures.seen in
    (answers g.D.Disk.state (sizes_of c.args.self.now) c.args.pass.now.view c.enter-set.new.pass.view c.enter-set.result c.enter-set.ensures.entered fixed fresh c.recall_went.ensures.tried c.step-node.new.self c.args.line c.args.command.now c.step-node.ensures.fixed c.recall_went-2.ensures.tried c.step-node.ensures.tried c.leave.new.pass.view c.leave.ensures.added all c.step-node.result.1 c.step-node.ensures.went).0

pub returns-clause-err : goal.returns-clause-err
returns-clause-err g c =
    let fixed = ap (λ l. sizes_in l) c.requires.pass.0.4 in
    let fresh = c.requires.pass.0.3 ∙ c.args.self.now.fresh in
    let all = all_seen g.D.Disk.state (sizes_of c.args.self.now) c.args.pass.now.view c.enter-set.new.pass.view c.enter-set.result c.enter-set.ensures.entered fixed fresh c.recall_went.ensures.tried c.step-node.new.self c.args.line c.args.command.now c.step-node.ensures.fixed c.recall_went-2.ensures.tried c.step-node.ensures.tried c.leave.new.pass.view c.leave.ensures.added (c.leave.ensures.pass.0.4 ∙ sym c.requires.pass.0.4) (c.leave.ensures.pass.0.3 ∙ c.args.self.now.fresh) c.leave.ensures.seen in
    (answers g.D.Disk.state (sizes_of c.args.self.now) c.args.pass.now.view c.enter-set.new.pass.view c.enter-set.result c.enter-set.ensures.entered fixed fresh c.recall_went.ensures.tried c.step-node.new.self c.args.line c.args.command.now c.step-node.ensures.fixed c.recall_went-2.ensures.tried c.step-node.ensures.tried c.leave.new.pass.view c.leave.ensures.added all c.step-node.result.1 c.step-node.ensures.went).1

pub returns-clause-full : goal.returns-clause-full
returns-clause-full g c =
    let fixed = ap (λ l. sizes_in l) c.requires.pass.0.4 in
    let fresh = c.requires.pass.0.3 ∙ c.args.self.now.fresh in
    let all = all_seen g.D.Disk.state (sizes_of c.args.self.now) c.args.pass.now.view c.enter-set.new.pass.view c.enter-set.result c.enter-set.ensures.entered fixed fresh c.recall_went.ensures.tried c.step-node.new.self c.args.line c.args.command.now c.step-node.ensures.fixed c.recall_went-2.ensures.tried c.step-node.ensures.tried c.leave.new.pass.view c.leave.ensures.added (c.leave.ensures.pass.0.4 ∙ sym c.requires.pass.0.4) (c.leave.ensures.pass.0.3 ∙ c.args.self.now.fresh) c.leave.ensures.seen in
    (answers g.D.Disk.state (sizes_of c.args.self.now) c.args.pass.now.view c.enter-set.new.pass.view c.enter-set.result c.enter-set.ensures.entered fixed fresh c.recall_went.ensures.tried c.step-node.new.self c.args.line c.args.command.now c.step-node.ensures.fixed c.recall_went-2.ensures.tried c.step-node.ensures.tried c.leave.new.pass.view c.leave.ensures.added all c.step-node.result.1 c.step-node.ensures.went).2

pub returns-clause-done : goal.returns-clause-done
returns-clause-done g c =
    let fixed = ap (λ l. sizes_in l) c.requires.pass.0.4 in
    let fresh = c.requires.pass.0.3 ∙ c.args.self.now.fresh in
    let all = all_seen g.D.Disk.state (sizes_of c.args.self.now) c.args.pass.now.view c.enter-set.new.pass.view c.enter-set.result c.enter-set.ensures.entered fixed fresh c.recall_went.ensures.tried c.step-node.new.self c.args.line c.args.command.now c.step-node.ensures.fixed c.recall_went-2.ensures.tried c.step-node.ensures.tried c.leave.new.pass.view c.leave.ensures.added (c.leave.ensures.pass.0.4 ∙ sym c.requires.pass.0.4) (c.leave.ensures.pass.0.3 ∙ c.args.self.now.fresh) c.leave.ensures.seen in
    (answers g.D.Disk.state (sizes_of c.args.self.now) c.args.pass.now.view c.enter-set.new.pass.view c.enter-set.result c.enter-set.ensures.entered fixed fresh c.recall_went.ensures.tried c.step-node.new.self c.args.line c.args.command.now c.step-node.ensures.fixed c.recall_went-2.ensures.tried c.step-node.ensures.tried c.leave.new.pass.view c.leave.ensures.added all c.step-node.result.1 c.step-node.ensures.went).3

pub returns-clause-undone : goal.returns-clause-undone
returns-clause-undone g c =
    let fixed = ap (λ l. sizes_in l) c.requires.pass.0.4 in
    let fresh = c.requires.pass.0.3 ∙ c.args.self.now.fresh in
    let all = all_seen g.D.Disk.state (sizes_of c.args.self.now) c.args.pass.now.view c.enter-set.new.pass.view c.enter-set.result c.enter-set.ensures.entered fixed fresh c.recall_went.ensures.tried c.step-node.new.self c.args.line c.args.command.now c.step-node.ensures.fixed c.recall_went-2.ensures.tried c.step-node.ensures.tried c.leave.new.pass.view c.leave.ensures.added (c.leave.ensures.pass.0.4 ∙ sym c.requires.pass.0.4) (c.leave.ensures.pass.0.3 ∙ c.args.self.now.fresh) c.leave.ensures.seen in
    (answers g.D.Disk.state (sizes_of c.args.self.now) c.args.pass.now.view c.enter-set.new.pass.view c.enter-set.result c.enter-set.ensures.entered fixed fresh c.recall_went.ensures.tried c.step-node.new.self c.args.line c.args.command.now c.step-node.ensures.fixed c.recall_went-2.ensures.tried c.step-node.ensures.tried c.leave.new.pass.view c.leave.ensures.added all c.step-node.result.1 c.step-node.ensures.went).4

pub returns-clause-defined : goal.returns-clause-defined
returns-clause-defined g c =
    let fixed = ap (λ l. sizes_in l) c.requires.pass.0.4 in
    let fresh = c.requires.pass.0.3 ∙ c.args.self.now.fresh in
    let same = c.step-node.ensures.sizes ∙ sizes_here g.D.Disk.state (sizes_of c.args.self.now) c.args.pass.now.view c.enter-set.new.pass.view c.enter-set.result c.enter-set.ensures.entered fixed fresh c.recall_went.ensures.tried in
    let all = all_seen g.D.Disk.state (sizes_of c.args.self.now) c.args.pass.now.view c.enter-set.new.pass.view c.enter-set.result c.enter-set.ensures.entered fixed fresh c.recall_went.ensures.tried c.step-node.new.self c.args.line c.args.command.now c.step-node.ensures.fixed c.recall_went-2.ensures.tried c.step-node.ensures.tried c.leave.new.pass.view c.leave.ensures.added (c.leave.ensures.pass.0.4 ∙ sym c.requires.pass.0.4) (c.leave.ensures.pass.0.3 ∙ c.args.self.now.fresh) c.leave.ensures.seen in
    rw all (subst (λ (s : Sizes). IsRun s c.step-node.new.self.set.history) same c.step-node.ensures.run)

pub returns-clause-sizes : goal.returns-clause-sizes
returns-clause-sizes g c =
    let fixed = ap (λ l. sizes_in l) c.requires.pass.0.4 in
    let fresh = c.requires.pass.0.3 ∙ c.args.self.now.fresh in
    let same = c.step-node.ensures.sizes ∙ sizes_here g.D.Disk.state (sizes_of c.args.self.now) c.args.pass.now.view c.enter-set.new.pass.view c.enter-set.result c.enter-set.ensures.entered fixed fresh c.recall_went.ensures.tried in
    subst AreSizes same c.step-node.ensures.lawful

pub returns-clause-short : goal.returns-clause-short
returns-clause-short g c =
    let fixed = ap (λ l. sizes_in l) c.requires.pass.0.4 in
    let fresh = c.requires.pass.0.3 ∙ c.args.self.now.fresh in
    let all = all_seen g.D.Disk.state (sizes_of c.args.self.now) c.args.pass.now.view c.enter-set.new.pass.view c.enter-set.result c.enter-set.ensures.entered fixed fresh c.recall_went.ensures.tried c.step-node.new.self c.args.line c.args.command.now c.step-node.ensures.fixed c.recall_went-2.ensures.tried c.step-node.ensures.tried c.leave.new.pass.view c.leave.ensures.added (c.leave.ensures.pass.0.4 ∙ sym c.requires.pass.0.4) (c.leave.ensures.pass.0.3 ∙ c.args.self.now.fresh) c.leave.ensures.seen in
    rw all c.step-node.ensures.short
