use Rattle.std.proofs.Common.{◌∙◌, subst, sym}
use Rattle.std.proofs.lemmas.Option.{same_Some}
use Rattle.repl_msg.specs.declared.message.Message.{Message}
use Rattle.explore_steps.specs.Causes.{taken}
use Rattle.explore_steps.specs.Keeping.{IsGrown}
use Rattle.explore_steps.specs.Stepping.{IsStepOf}
use Rattle.explore_steps.specs.Tables.{tables_of}
use Rattle.explore_steps.proofs.Come.{come_sound, deed_after, handed_cell, handed_takes, step_done}
use Rattle.explore_steps.proofs.Growth.{has_cell_grows}
use Rattle.explore_steps.proofs.Keeping.{grown_on, grown_then}
use Rattle.explore_steps.proofs.Putting.{put_message_in}
use Rattle.explore_steps.proofs.Reading.{cell_within}
use Rattle.explore_steps.proofs.steps.Steps.of_message.Goals as goal

pub returns-in-Some-clause-step : goal.returns-in-Some-clause-step
returns-in-Some-clause-step c sent there =
    let was = c.requires.kept.messages_in c.args.cell c.args.message c.in-Some.step c.in-Some.ensures in
    subst (λ (m : Message). IsStepOf (tables_of c.args.self.now) c.args.question.now (taken m) c.args.cell c.in-Some.step) (same_Some was.0 sent (sym was.1 ∙ there)) was.2

pub node_number-node-requires : goal.node_number-node-requires
node_number-node-requires c =
    cell_within (tables_of c.args.self.now) c.args.cell (handed_cell (tables_of c.args.self.now) c.args.question.now c.args.message c.args.cell c.requires.handed.0 c.requires.handed.1)

pub message_at-requires-clause-node : goal.message_at-requires-clause-node
message_at-requires-clause-node c =
    let handed = c.requires.handed.1 in
    come_sound c.args.question.now (tables_of c.args.self.now) c.args.cell c.node_number-node.result c.node_number-node.ensures.0 c.node_number-node.ensures.1
    (λ world before. c.worlds_are_sound.ensures.nodes c.args.question.now 0 world c.requires.put.sizes before) (handed.world, c.requires.handed.0.to, handed.reached, handed.stands)

pub message_at-requires-clause-message : goal.message_at-requires-clause-message
message_at-requires-clause-message c =
    handed_takes c.args.question.now (tables_of c.args.self.now) c.args.cell c.node_number-node.result c.node_number-node.ensures.0 c.node_number-node.ensures.1
    (λ world before. c.worlds_are_sound.ensures.messages c.args.question.now 0 world c.requires.put.sizes before) c.args.message c.requires.handed.0 c.requires.handed.1

pub settle-requires-clause-cell : goal.settle-requires-clause-cell
settle-requires-clause-cell c =
    has_cell_grows (tables_of c.args.self.now) (tables_of c.message_at.new.self) c.in_ok-deed.ensures.grown.tables c.args.cell
    (handed_cell (tables_of c.args.self.now) c.args.question.now c.args.message c.args.cell c.requires.handed.0 c.requires.handed.1)

pub settle-requires-clause-deed : goal.settle-requires-clause-deed
settle-requires-clause-deed c =
    let sent = c.requires.handed.0 in
    deed_after (tables_of c.message_at.new.self) c.args.question.now (taken sent) c.node_number-node.result c.in_ok-deed.deed (c.in_ok-deed.ensures.deed sent c.requires.handed.1.message_is)

pub returns-clause-grown : goal.returns-clause-grown
returns-clause-grown c =
    let question = c.args.question.now in
    let own_tables = c.args.self.now in
    let mid = c.message_at.new.self in
    let later = c.settle.new.self in
    let sent = c.requires.handed.0 in
    let message_is = c.requires.handed.1.message_is in
    let has_cell = has_cell_grows (tables_of own_tables) (tables_of mid) c.in_ok-deed.ensures.grown.tables c.args.cell
    (handed_cell (tables_of own_tables) question c.args.message c.args.cell sent c.requires.handed.1) in
    let grown : IsGrown question own_tables later = grown_on question own_tables mid later c.in_ok-deed.ensures.grown c.in_ok-step.ensures.grown in
    let cell_there = c.in_ok-deed.ensures.grown.tables.cells c.args.cell (c.node_number-node.result, c.node_number-node.ensures.0) c.node_number-node.ensures.1 in
    grown_then question own_tables later _ grown
    (put_message_in question later grown.kept c.args.cell c.args.message c.in_ok-step.step c.put.new.self c.in_ok-put.ensures (
      sent,
      grown.tables.messages c.args.message sent message_is,
      step_done (tables_of mid) (tables_of later) c.in_ok-step.ensures.grown.tables question (taken sent) c.args.cell
          c.node_number-node.result c.node_number-node.ensures.0 c.in_ok-deed.deed c.in_ok-step.step cell_there has_cell (c.in_ok-deed.ensures.deed sent message_is) c.in_ok-step.ensures.step,
    ))

pub returns-clause-step : goal.returns-clause-step
returns-clause-step c sent message_is =
    let question = c.args.question.now in
    let own_tables = c.args.self.now in
    let mid = c.message_at.new.self in
    let later = c.settle.new.self in
    let has_cell = has_cell_grows (tables_of own_tables) (tables_of mid) c.in_ok-deed.ensures.grown.tables c.args.cell
    (handed_cell (tables_of own_tables) question c.args.message c.args.cell c.requires.handed.0 c.requires.handed.1) in
    let cell_there = c.in_ok-deed.ensures.grown.tables.cells c.args.cell (c.node_number-node.result, c.node_number-node.ensures.0) c.node_number-node.ensures.1 in
    step_done (tables_of mid) (tables_of later) c.in_ok-step.ensures.grown.tables question (taken sent) c.args.cell
    c.node_number-node.result c.node_number-node.ensures.0 c.in_ok-deed.deed c.in_ok-step.step cell_there has_cell (c.in_ok-deed.ensures.deed sent message_is) c.in_ok-step.ensures.step
