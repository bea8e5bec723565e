use Rattle.std.proofs.Common.{◌≡◌, ◌<◌, ◌≤◌, arith, false, subst, sym}
use Rattle.set_model.specs.Roles.{is_primary}
use Rattle.node_data.specs.NodeData.{NodeData as Seen}
use Rattle.node_data.proofs.BatchesLemmas.{IsBegun, so_far_none, so_far_more, so_far_less, so_far_whole, so_far_begun}
use Rattle.node_data.proofs.keeping.NodeData.apply_batches.Goals as goal

pub loop-left-init : goal.loop-left-init
loop-left-init g c = so_far_none c.args.self.now c.args.count c.requires.there

pub apply_next-requires-clause-role : goal.apply_next-requires-clause-role
apply_next-requires-clause-role g c κs within = subst (λ (l : Seen). is_primary l.node.role ≡ false) (sym c.loop-left.invariant.is) c.requires.role

pub returns-in_err-left-clause-begun : goal.returns-in_err-left-clause-begun
returns-in_err-left-clause-begun g c =
    subst (λ (l : Seen). IsBegun c.args.self.now l) (sym c.in_err-left.ensures.err) (so_far_begun c.args.self.now c.loop-left.self c.args.count c.loop-left.left c.loop-left.invariant)

pub loop-left-smaller : goal.loop-left-smaller
loop-left-smaller g c =
    let some : 0 < c.min.result = omega (arith, c.min.ensures, c.loop-left-test.true) in
    let within : c.min.result ≤ c.loop-left.left = omega (arith, c.min.ensures) in
    so_far_less c.args.self.now c.loop-left.self c.args.count c.loop-left.left c.min.result c.in_ok-left.field-0 c.recall_sound.ensures.node.oplog.order c.loop-left.invariant some within c.in_ok-left.ensures.count

pub loop-left-preserved : goal.loop-left-preserved
loop-left-preserved g c =
    let some : 0 < c.min.result = omega (arith, c.min.ensures, c.loop-left-test.true) in
    let within : c.min.result ≤ c.loop-left.left = omega (arith, c.min.ensures) in
    so_far_more c.args.self.now c.loop-left.self c.apply_next.new.self c.args.count c.loop-left.left c.min.result c.in_ok-left.field-0 c.recall_sound.ensures.node.oplog.order c.loop-left.invariant some within
    c.in_ok-left.ensures.count c.in_ok-left.ensures.ok

pub returns-clause-ok : goal.returns-clause-ok
returns-clause-ok g c = so_far_whole c.args.self.now c.loop-left.self c.args.count c.loop-left.left c.loop-left.invariant c.loop-left-test.false

pub returns-clause-begun : goal.returns-clause-begun
returns-clause-begun g c = so_far_begun c.args.self.now c.loop-left.self c.args.count c.loop-left.left c.loop-left.invariant
