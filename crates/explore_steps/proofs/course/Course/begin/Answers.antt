use Rattle.std.proofs.Common.{◌∙◌, ap, refl, subst, Some, List, length, arith}
use Rattle.std.proofs.lemmas.List.{take_all}
use Rattle.std.proofs.lemmas.Option.{slice_get_read}
use Rattle.repl_msg.specs.declared.message.Message.{Message}
use Rattle.set_model.specs.World.{World}
use Rattle.explore_steps.specs.declared.course.Course.{Course}
use Rattle.explore_steps.specs.Courses.{IsNoted, of_nodes, with_all}
use Rattle.explore_steps.specs.Tables.{tables_of}
use Rattle.explore_steps.proofs.BeginLemmas.{all_cells, is_for, noted_none}
use Rattle.explore_steps.proofs.CourseLemmas.{sent_next}
use Rattle.explore_steps.proofs.Growth.{grow_on, noted_grows}
use Rattle.explore_steps.proofs.course.Course.begin.Goals as goal

pub loop-message-init : goal.loop-message-init
loop-message-init c = record {
  grown = c.in_ok-place_nodes.ensures.grown;
  same = record {
    met = ap (λ (s : Course). s.met) c.in_ok-place_nodes.ensures.same;
    notes = ap (λ (s : Course). s.notes_dead) c.in_ok-place_nodes.ensures.same;
    sent = ap (λ (s : Course). s.sent) c.in_ok-place_nodes.ensures.same;
  };
  noted = noted_none (tables_of c.place_nodes.new.steps) c.place_nodes.new.self.notes_dead c.place_nodes.new.self.dead c.place_nodes.new.self.cells.items c.args.machine.now.nodes
      (ap (λ (s : Course). s.dead) c.in_ok-place_nodes.ensures.same ∙ c.requires.dead) c.in_ok-place_nodes.ensures.placed;
}

pub add-requires-clause-kept : goal.add-requires-clause-kept
add-requires-clause-kept c = (c.args.question.now, c.in_ok-number.ensures.grown.kept c.args.question.now (c.loop-message.invariant.grown.kept c.args.question.now c.requires.kept))

pub add-requires-clause-cells : goal.add-requires-clause-cells
add-requires-clause-cells c =
    all_cells (tables_of c.loop-message.steps) (tables_of c.place_message.new.self) c.in_ok-number.ensures.grown.tables c.loop-message.self.cells.items _ c.loop-message.invariant.noted.cells_are

pub add-requires-clause-message : goal.add-requires-clause-message
add-requires-clause-message c =
    let items = c.messages-message-items.result.now in
    let there = slice_get_read items (length items) c.loop-message.message-index c.message-item.result refl c.loop-message-test.true c.message-item.is in (
      c.message-item.result,
      c.in_ok-number.ensures.there ∙ ap Some c.in_ok-copy.ensures,
      is_for c.numbers_stay_small.ensures c.args.question.now c.requires.put c.args.machine.now c.requires.reached items c.messages-message-items.ensures c.message-item.result
          c.loop-message.message-index (length c.loop-message.self.cells.items) there c.loop-message.invariant.noted.cells_are.count,
    )

pub loop-message-preserved : goal.loop-message-preserved
loop-message-preserved c =
    let items = c.messages-message-items.result.now in
    let there = slice_get_read items (length items) c.loop-message.message-index c.message-item.result refl c.loop-message-test.true c.message-item.is in
    let placed = c.in_ok-number.ensures.there ∙ ap Some c.in_ok-copy.ensures in
    let nodes = c.args.machine.now.nodes in
    record {
      grown = record {
        tables = grow_on (tables_of c.args.steps.now) (tables_of c.loop-message.steps) (tables_of c.add.new.steps) c.loop-message.invariant.grown.tables
            (grow_on (tables_of c.loop-message.steps) (tables_of c.place_message.new.self) (tables_of c.add.new.steps) c.in_ok-number.ensures.grown.tables c.in_ok-add.ensures.grown.tables);
        kept = λ question kept. c.in_ok-add.ensures.grown.kept question (c.in_ok-number.ensures.grown.kept question (c.loop-message.invariant.grown.kept question kept));
      };
      same = record {
        met = c.in_ok-add.ensures.same.met ∙ c.loop-message.invariant.same.met;
        notes = c.in_ok-add.ensures.same.notes ∙ c.loop-message.invariant.same.notes;
        sent = c.in_ok-add.ensures.same.sent ∙ c.loop-message.invariant.same.sent;
      };
      noted = subst (λ (w : World). IsNoted (tables_of c.add.new.steps) c.add.new.self w) (sent_next (of_nodes nodes) items c.loop-message.message-index c.message-item.result there)
          (c.in_ok-add.ensures.adds c.message-item.result _ placed
          (noted_grows (tables_of c.loop-message.steps) (tables_of c.place_message.new.self) c.in_ok-number.ensures.grown.tables c.loop-message.self.notes_dead c.loop-message.self.cells.items c.loop-message.self.dead _
          c.loop-message.invariant.noted));
    }

pub returns-clause-grown : goal.returns-clause-grown
returns-clause-grown c = record { tables = c.loop-message.invariant.grown.tables; kept = c.loop-message.invariant.grown.kept c.args.question.now c.requires.kept }

pub returns-clause-begun : goal.returns-clause-begun
returns-clause-begun c =
    subst (λ (messages : List Message). IsNoted (tables_of c.loop-message.steps) c.loop-message.self (with_all (of_nodes c.args.machine.now.nodes) messages))
    (take_all c.loop-message.message-index c.messages-message-items.result.now (omega arith) ∙ c.messages-message-items.ensures) c.loop-message.invariant.noted
