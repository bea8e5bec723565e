use Rattle.std.proofs.Common.{◌≡◌, ◌∙◌, ◌<◌, Some, ap, length, refl, rules, slice_get, slice_set, subst, sym}
use Rattle.std.proofs.lemmas.Option.{slice_get_read}
use Rattle.set_model.specs.Node.{Node}
use Rattle.set_model.specs.World.{World, acts}
use Rattle.checker_machine.specs.Acting.{Acts, IsOutOfDoubt}
use Rattle.checker_machine.proofs.ActingLemmas.{acts_own, finds_doubt, finds_out_of_doubt}
use Rattle.checker_machine.proofs.ActorLemmas.{acts_there}
use Rattle.checker_machine.proofs.machine.Machine.act_at.Goals as goal

pub index_mut-node-requires : goal.index_mut-node-requires
index_mut-node-requires c =
    let world : World = record { nodes = c.self.inside.nodes.items; messages = c.self.inside.pool } in
    let within : c.args.number < length world.nodes = acts_there c.args.self.now world c.args.number c.args.event.now.command c.self.view_is c.requires.event.command (c.requires.own c.args.self.now) in
    search rules

pub returns-then-is_out_of_doubt-clause-none : goal.returns-then-is_out_of_doubt-clause-none
returns-then-is_out_of_doubt-clause-none c why =
    let world : World = record { nodes = c.self.inside.nodes.items; messages = c.self.inside.pool } in
    let within : c.args.number < length world.nodes = acts_there c.args.self.now world c.args.number c.args.event.now.command c.self.view_is c.requires.event.command (c.requires.own c.args.self.now) in
    let node : Node = c.index_mut-node.result.now in
    let there : slice_get world.nodes c.args.number ≡ Some node = slice_get_read world.nodes (length world.nodes) c.args.number node refl within c.index_mut-node.ensures.value in
    subst (λ (w : World). IsOutOfDoubt w c.args.event.now) c.self.view_is
    (finds_out_of_doubt world c.args.event.now (acts c.args.number) (c.requires.own world) node there c.is_out_of_doubt.result c.is_out_of_doubt.ensures c.if-is_out_of_doubt.true)

pub act-requires-clause-sound : goal.act-requires-clause-sound
act-requires-clause-sound c =
    let world : World = record { nodes = c.self.inside.nodes.items; messages = c.self.inside.pool } in
    let within : c.args.number < length world.nodes = acts_there c.args.self.now world c.args.number c.args.event.now.command c.self.view_is c.requires.event.command (c.requires.own c.args.self.now) in
    let node : Node = c.index_mut-node.result.now in
    let there : slice_get world.nodes c.args.number ≡ Some node = slice_get_read world.nodes (length world.nodes) c.args.number node refl within c.index_mut-node.ensures.value in
    c.recall_nodes.ensures.sound c.args.number node (ap (λ (w : World). slice_get w.nodes c.args.number) (sym c.self.view_is) ∙ there)

pub returns-clause-answer : goal.returns-clause-answer
returns-clause-answer c =
    let world : World = record { nodes = c.self.inside.nodes.items; messages = c.self.inside.pool } in
    let within : c.args.number < length world.nodes = acts_there c.args.self.now world c.args.number c.args.event.now.command c.self.view_is c.requires.event.command (c.requires.own c.args.self.now) in
    let node : Node = c.index_mut-node.result.now in
    let there : slice_get world.nodes c.args.number ≡ Some node = slice_get_read world.nodes (length world.nodes) c.args.number node refl within c.index_mut-node.ensures.value in
    let own = c.requires.own world in
    let many : c.size-nodes.result ≡ length world.nodes = c.size-nodes.ensures ∙ ap (λ (w : World). length w.nodes) (sym c.self.view_is) in
    subst (λ (w : World). Acts w c.args.event.now c.act.new.failed c.in_ok-act.field-0 (record { nodes = slice_set world.nodes c.args.number c.act.new.node; messages = world.messages })) c.self.view_is
    (acts_own world c.args.event.now c.args.number own node there c.size-nodes.result c.len.result many c.len.ensures c.args.failed.now c.act.new.failed c.requires.failed
    c.in_ok-act.field-0 c.act.new.node c.in_ok-act.ensures
    (finds_doubt world c.args.event.now (acts c.args.number) own node there c.is_out_of_doubt.result c.is_out_of_doubt.ensures c.if-is_out_of_doubt.false))
