use Rattle.std.proofs.Common.{◌≡◌, ◌<◌, Some, length, refl, rules, slice_get, subst}
use Rattle.std.proofs.lemmas.Bool.{and_parts}
use Rattle.std.specs.Vec.{with_item}
use Rattle.safety_laws.proofs.Places.{get_in}
use Rattle.set_model.specs.declared.command.Command.{Command}
use Rattle.explore_steps.specs.Causes.{own}
use Rattle.explore_steps.specs.Keeping.{IsGrown}
use Rattle.explore_steps.specs.Stepping.{IsStepOf}
use Rattle.explore_steps.specs.Tables.{tables_of}
use Rattle.explore_steps.proofs.Come.{come_cell, come_sound, deed_after, step_done}
use Rattle.explore_steps.proofs.Growth.{has_cell_grows}
use Rattle.explore_steps.proofs.Keeping.{act_within, grown_on, grown_then, one_line, read_at}
use Rattle.explore_steps.proofs.Putting.{put_line_in}
use Rattle.explore_steps.proofs.Reading.{cell_within}
use Rattle.explore_steps.proofs.steps.Steps.of_line.Goals as goal

pub returns-in-Some-clause-step : goal.returns-in-Some-clause-step
returns-in-Some-clause-step c =
    let question = c.args.question.now in
    let steps = c.args.self.now in
    let within : c.args.act < length steps.lines_in.items = act_within question c.args.act c.args.line c.args.command.now steps.lines_in.items c.requires.kept.acts_in c.requires.line in
    let there : slice_get steps.lines_in.items c.args.act ≡ Some c.index.result.now = read_at steps.lines_in.items c.args.act c.index.result.now within c.index.ensures in
    let was = c.requires.kept.lines_in c.args.act c.args.cell c.args.line c.in-Some.step (c.index.result.now, there, c.in-Some.ensures) in
    subst (λ (command : Command). IsStepOf (tables_of steps) question (own command) c.args.cell c.in-Some.step)
    (one_line question c.args.act c.args.line was.0 c.args.command.now was.1 c.requires.line) was.2

pub node_number-node-requires : goal.node_number-node-requires
node_number-node-requires c = cell_within (tables_of c.args.self.now) c.args.cell (come_cell (tables_of c.args.self.now) c.args.question.now c.args.cell c.requires.come)

pub line_at-requires-clause-within : goal.line_at-requires-clause-within
line_at-requires-clause-within c =
    let question = c.args.question.now in
    let line = c.requires.line in
    (and_parts _ _ (c.requires.put.commands.acts line.0 (get_in question.acts c.args.act line.0 line.1) c.args.command.now (get_in line.0.commands c.args.line c.args.command.now line.2)).0).1

pub line_at-requires-clause-node : goal.line_at-requires-clause-node
line_at-requires-clause-node c =
    come_sound c.args.question.now (tables_of c.args.self.now) c.args.cell c.node_number-node.result c.node_number-node.ensures.0 c.node_number-node.ensures.1
    (λ world before. c.worlds_are_sound.ensures.nodes c.args.question.now 0 world c.requires.put.sizes before) c.requires.come

pub settle-requires-clause-cell : goal.settle-requires-clause-cell
settle-requires-clause-cell c =
    has_cell_grows (tables_of c.args.self.now) (tables_of c.line_at.new.self) c.in_ok-deed.ensures.grown.tables c.args.cell
    (come_cell (tables_of c.args.self.now) c.args.question.now c.args.cell c.requires.come)

pub settle-requires-clause-deed : goal.settle-requires-clause-deed
settle-requires-clause-deed c =
    deed_after (tables_of c.line_at.new.self) c.args.question.now (own c.args.command.now) c.node_number-node.result c.in_ok-deed.deed c.in_ok-deed.ensures.deed

pub index_mut-requires : goal.index_mut-requires
index_mut-requires c =
    let later = c.settle.new.self in
    let kept = c.in_ok-step.ensures.grown.kept c.args.question.now c.in_ok-deed.ensures.grown.kept in
    let within : c.args.act < length later.lines_in.items = act_within c.args.question.now c.args.act c.args.line c.args.command.now later.lines_in.items kept.acts_in c.requires.line in
    search rules

pub returns-clause-grown : goal.returns-clause-grown
returns-clause-grown c =
    let question = c.args.question.now in
    let own_tables = c.args.self.now in
    let mid = c.line_at.new.self in
    let later = c.settle.new.self in
    let has_cell = has_cell_grows (tables_of own_tables) (tables_of mid) c.in_ok-deed.ensures.grown.tables c.args.cell (come_cell (tables_of own_tables) question c.args.cell c.requires.come) in
    let grown : IsGrown question own_tables later = grown_on question own_tables mid later c.in_ok-deed.ensures.grown c.in_ok-step.ensures.grown in
    let within : c.args.act < length later.lines_in.items = act_within question c.args.act c.args.line c.args.command.now later.lines_in.items grown.kept.acts_in c.requires.line in
    let there : slice_get later.lines_in.items c.args.act ≡ Some c.index_mut.result.now = read_at later.lines_in.items c.args.act c.index_mut.result.now within c.index_mut.ensures.value in
    let cell_there = c.in_ok-deed.ensures.grown.tables.cells c.args.cell (c.node_number-node.result, c.node_number-node.ensures.0) c.node_number-node.ensures.1 in
    grown_then question own_tables later _ grown
    (put_line_in question later grown.kept (record later { lines_in = with_item later.lines_in c.args.act c.put.new.self }) c.args.act c.args.cell c.args.line c.in_ok-step.step
    c.index_mut.result.now c.put.new.self c.in_ok-put.ensures there refl (
      c.args.command.now,
      c.requires.line,
      step_done (tables_of mid) (tables_of later) c.in_ok-step.ensures.grown.tables question (own c.args.command.now) c.args.cell
          c.node_number-node.result c.node_number-node.ensures.0 c.in_ok-deed.deed c.in_ok-step.step cell_there has_cell c.in_ok-deed.ensures.deed c.in_ok-step.ensures.step,
    ))

pub returns-clause-step : goal.returns-clause-step
returns-clause-step c =
    let question = c.args.question.now in
    let own_tables = c.args.self.now in
    let mid = c.line_at.new.self in
    let later = c.settle.new.self in
    let has_cell = has_cell_grows (tables_of own_tables) (tables_of mid) c.in_ok-deed.ensures.grown.tables c.args.cell (come_cell (tables_of own_tables) question c.args.cell c.requires.come) in
    let cell_there = c.in_ok-deed.ensures.grown.tables.cells c.args.cell (c.node_number-node.result, c.node_number-node.ensures.0) c.node_number-node.ensures.1 in
    step_done (tables_of mid) (tables_of later) c.in_ok-step.ensures.grown.tables question (own c.args.command.now) c.args.cell
    c.node_number-node.result c.node_number-node.ensures.0 c.in_ok-deed.deed c.in_ok-step.step cell_there has_cell c.in_ok-deed.ensures.deed c.in_ok-step.ensures.step
