use Rattle.std.proofs.Common.{◌≡◌, ◌∙◌, ◌<◌, Some, ap, false, length, refl, rules, slice_get, slice_set, subst, sym}
use Rattle.std.specs.Prelude.{Contains}
use Rattle.std.proofs.lemmas.Option.{slice_get_read}
use Rattle.repl_msg.specs.declared.message.Message.{Message}
use Rattle.set_model.specs.Node.{Node}
use Rattle.set_model.specs.World.{World}
use Rattle.checker_machine.specs.Acting.{Acts}
use Rattle.checker_machine.proofs.ActingLemmas.{acts_delivered}
use Rattle.checker_machine.proofs.StepLemmas.{delivered_sent}
use Rattle.checker_machine.proofs.machine.Machine.deliver.Goals as goal

pub index_mut-node-requires : goal.index_mut-node-requires
index_mut-node-requires c =
    let world : World = record { nodes = c.self.inside.nodes.items; messages = c.self.inside.pool } in
    let message : Message = c.in-Some.message.now in
    let sent : Contains c.args.self.now.messages message =
    delivered_sent c.args.self.now c.args.event.now.command message (sym (c.in-Some.ensures c.args.self.now (ap (λ (w : World). w.messages) (sym c.self.view_is)))) in
    let within : message.to < length world.nodes = subst (λ (w : World). message.to < length w.nodes) (sym c.self.view_is) (c.recall_messages.ensures message sent).0 in
    search rules

pub deliver-requires-clause-sound : goal.deliver-requires-clause-sound
deliver-requires-clause-sound c =
    let world : World = record { nodes = c.self.inside.nodes.items; messages = c.self.inside.pool } in
    let message : Message = c.in-Some.message.now in
    let sent : Contains c.args.self.now.messages message =
    delivered_sent c.args.self.now c.args.event.now.command message (sym (c.in-Some.ensures c.args.self.now (ap (λ (w : World). w.messages) (sym c.self.view_is)))) in
    let within : message.to < length world.nodes = subst (λ (w : World). message.to < length w.nodes) (sym c.self.view_is) (c.recall_messages.ensures message sent).0 in
    let node : Node = c.index_mut-node.result.now in
    let there : slice_get world.nodes message.to ≡ Some node = slice_get_read world.nodes (length world.nodes) message.to node refl within c.index_mut-node.ensures.value in
    c.recall_nodes.ensures.sound message.to node (ap (λ (w : World). slice_get w.nodes message.to) (sym c.self.view_is) ∙ there)

pub deliver-requires-clause-message : goal.deliver-requires-clause-message
deliver-requires-clause-message c =
    let world : World = record { nodes = c.self.inside.nodes.items; messages = c.self.inside.pool } in
    let message : Message = c.in-Some.message.now in
    let sent : Contains c.args.self.now.messages message =
    delivered_sent c.args.self.now c.args.event.now.command message (sym (c.in-Some.ensures c.args.self.now (ap (λ (w : World). w.messages) (sym c.self.view_is)))) in
    let within : message.to < length world.nodes = subst (λ (w : World). message.to < length w.nodes) (sym c.self.view_is) (c.recall_messages.ensures message sent).0 in
    let node : Node = c.index_mut-node.result.now in
    let there : slice_get world.nodes message.to ≡ Some node = slice_get_read world.nodes (length world.nodes) message.to node refl within c.index_mut-node.ensures.value in
    (c.recall_messages.ensures message sent).1 node (ap (λ (w : World). slice_get w.nodes message.to) (sym c.self.view_is) ∙ there)

pub returns-clause-answer : goal.returns-clause-answer
returns-clause-answer c =
    let world : World = record { nodes = c.self.inside.nodes.items; messages = c.self.inside.pool } in
    let message : Message = c.in-Some.message.now in
    let sent : Contains c.args.self.now.messages message =
    delivered_sent c.args.self.now c.args.event.now.command message (sym (c.in-Some.ensures c.args.self.now (ap (λ (w : World). w.messages) (sym c.self.view_is)))) in
    let within : message.to < length world.nodes = subst (λ (w : World). message.to < length w.nodes) (sym c.self.view_is) (c.recall_messages.ensures message sent).0 in
    let node : Node = c.index_mut-node.result.now in
    let there : slice_get world.nodes message.to ≡ Some node = slice_get_read world.nodes (length world.nodes) message.to node refl within c.index_mut-node.ensures.value in
    let unkept : c.args.event.now.kept ≡ false = search rules in
    subst (λ (w : World). Acts w c.args.event.now c.deliver.new.failed c.in_ok-deliver.field-0 (record { nodes = slice_set world.nodes message.to c.deliver.new.node; messages = world.messages })) c.self.view_is
    (acts_delivered world c.args.event.now message (sym (c.in-Some.ensures world refl)) node there c.len-next.result c.len-next.ensures c.args.failed.now c.deliver.new.failed c.requires.failed
    c.in_ok-deliver.field-0 c.deliver.new.node c.in_ok-deliver.ensures unkept)
