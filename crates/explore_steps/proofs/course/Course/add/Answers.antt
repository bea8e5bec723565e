use Rattle.std.proofs.Common.{◌∙◌, sym, subst, slice_set}
use Rattle.std.proofs.lemmas.Option.{same_Some, slice_get_within}
use Rattle.repl_msg.specs.declared.message.Message.{Message}
use Rattle.explore_steps.specs.Courses.{with_sent}
use Rattle.explore_steps.specs.Tables.{AreNoted, tables_of}
use Rattle.explore_steps.proofs.AddLemmas.{cell_at, cells_set, noted_more, to_within}
use Rattle.explore_steps.proofs.course.Course.add.Goals as goal

pub with_message-requires-clause-cell : goal.with_message-requires-clause-cell
with_message-requires-clause-cell c =
    c.requires.cells c.message.result.now.to c.index.result.now
    (cell_at c.args.self.now.cells.items c.message.result.now.to c.index.result.now (to_within c.args.steps.now.messages c.args.message _ c.message.result.now c.requires.message c.message.ensures) c.index.ensures)

pub with_message-requires-clause-message : goal.with_message-requires-clause-message
with_message-requires-clause-message c = slice_get_within c.args.steps.now.messages c.args.message c.message.result.now c.message.ensures

pub has_dead-self-requires-clause-cell : goal.has_dead-self-requires-clause-cell
has_dead-self-requires-clause-cell c =
    let adds = c.in_ok-cell.ensures.added c.message.result.now c.message.ensures in
    (adds.node, adds.more, adds.is)

pub has_dead-self-requires-clause-message : goal.has_dead-self-requires-clause-message
has_dead-self-requires-clause-message c =
    slice_get_within c.with_message.new.self.messages c.args.message c.message.result.now (c.in_ok-cell.ensures.grown.tables.messages c.args.message c.message.result.now c.message.ensures)

pub returns-clause-cells : goal.returns-clause-cells
returns-clause-cells c =
    let adds = c.in_ok-cell.ensures.added c.message.result.now c.message.ensures in
    cells_set (tables_of c.args.steps.now) (tables_of c.with_message.new.self) c.in_ok-cell.ensures.grown.tables c.args.self.now.cells.items c.message.result.now.to c.index.result.now c.in_ok-cell.cell
    (cell_at c.args.self.now.cells.items c.message.result.now.to c.index.result.now (to_within c.args.steps.now.messages c.args.message _ c.message.result.now c.requires.message c.message.ensures) c.index.ensures)
    c.requires.cells (adds.node, adds.more, adds.is)

pub returns-clause-adds : goal.returns-clause-adds
returns-clause-adds c sent world is noted =
    subst (λ (m : Message). AreNoted (tables_of c.with_message.new.self) c.args.self.now.notes_dead (slice_set c.args.self.now.cells.items c.message.result.now.to c.in_ok-cell.cell) c.has_dead-self.result (with_sent world m))
    (same_Some c.message.result.now sent (sym c.message.ensures ∙ is))
    (noted_more (tables_of c.args.steps.now) (tables_of c.with_message.new.self) c.in_ok-cell.ensures.grown.tables c.args.self.now.cells.items c.args.self.now.notes_dead c.args.self.now.dead world noted
    c.message.result.now c.index.result.now c.in_ok-cell.cell
    (cell_at c.args.self.now.cells.items c.message.result.now.to c.index.result.now (to_within c.args.steps.now.messages c.args.message _ c.message.result.now c.requires.message c.message.ensures) c.index.ensures)
    (c.in_ok-cell.ensures.added c.message.result.now c.message.ensures) c.has_dead-self.result
    (λ node messages is_cell alive. c.has_dead-self.ensures node messages c.message.result.now is_cell (c.in_ok-cell.ensures.grown.tables.messages c.args.message c.message.result.now c.message.ensures) alive))
