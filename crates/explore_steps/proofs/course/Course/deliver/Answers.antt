use Rattle.std.proofs.Common.{◌≡◌, ◌∙◌, ◌<◌, ap, subst, arith, length, Some, slice_get}
use Rattle.std.proofs.lemmas.Option.{slice_get_within}
use Rattle.std.proofs.lemmas.Result.{on_ok_weaker}
use Rattle.repl_msg.specs.declared.message.Message.{Message}
use Rattle.explore_steps.specs.Causes.{taken}
use Rattle.explore_steps.specs.Tables.{tables_of}
use Rattle.explore_steps.proofs.DeliverLemmas.{cell_of, dead_happens, dead_told, handed, may_grows, same_message, receiver_within}
use Rattle.explore_steps.proofs.TakeLemmas.{cells_of}
use Rattle.explore_steps.proofs.course.Course.deliver.Goals as goal

pub index-cell-requires : goal.index-cell-requires
index-cell-requires c =
    let m = c.requires.may in
    let within : c.message.result.now.to < length c.args.self.now.cells.items = subst (λ (s : Message). s.to < length c.args.self.now.cells.items)
    (same_message c.args.steps.now.messages c.args.message m.0 c.message.result.now m.4 c.message.ensures)
    (receiver_within c.numbers_stay_small.ensures c.args.question.now c.requires.put (tables_of c.args.steps.now) c.args.self.now m.0 m.0.to 0 m.2 m.1 m.3 m.5) in
    omega (arith, within)

pub is_dead-requires-clause-cell : goal.is_dead-requires-clause-cell
is_dead-requires-clause-cell c =
    let m = c.requires.may in
    let there_m = cell_of c.args.steps.now.messages c.args.message m.0 c.message.result.now c.args.self.now.cells.items c.index-cell.result.now m.4 c.message.ensures
    (receiver_within c.numbers_stay_small.ensures c.args.question.now c.requires.put (tables_of c.args.steps.now) c.args.self.now m.0 m.0.to 0 m.2 m.1 m.3 m.5) c.index-cell.ensures in
    cells_of (tables_of c.args.steps.now) c.args.self.now.cells.items m.1 m.5.stands.under_way.noted.cells_are m.0.to c.index-cell.result.now there_m

pub is_dead-requires-clause-message : goal.is_dead-requires-clause-message
is_dead-requires-clause-message c = slice_get_within c.args.steps.now.messages c.args.message c.message.result.now c.message.ensures

pub returns-then-is_dead-clause-goes : goal.returns-then-is_dead-clause-goes
returns-then-is_dead-clause-goes c sent there spare before world command may =
    let there_m = cell_of c.args.steps.now.messages c.args.message sent c.message.result.now c.args.self.now.cells.items c.index-cell.result.now there c.message.ensures
    (receiver_within c.numbers_stay_small.ensures c.args.question.now c.requires.put (tables_of c.args.steps.now) c.args.self.now sent sent.to spare before world command may) c.index-cell.ensures in
    dead_happens c.dead_messages_change_nothing.ensures.stays c.args.question.now c.requires.put (tables_of c.args.steps.now) c.args.self.now sent sent.to spare before world command may
    (dead_told c.numbers_stay_small.ensures c.args.question.now c.requires.put (tables_of c.args.steps.now) c.args.self.now sent sent.to spare before world command may c.index-cell.result.now there_m c.is_dead.result
    (λ node messages is_cell alive. c.is_dead.ensures node messages sent is_cell there alive) ∙ c.if-is_dead.true)

pub of_message-requires-clause-handed : goal.of_message-requires-clause-handed
of_message-requires-clause-handed c =
    let m = c.requires.may in
    let there_m = cell_of c.args.steps.now.messages c.args.message m.0 c.message.result.now c.args.self.now.cells.items c.index-cell.result.now m.4 c.message.ensures
    (receiver_within c.numbers_stay_small.ensures c.args.question.now c.requires.put (tables_of c.args.steps.now) c.args.self.now m.0 m.0.to 0 m.2 m.1 m.3 m.5) c.index-cell.ensures in
    (m.0, handed c.numbers_stay_small.ensures c.args.question.now c.requires.put (tables_of c.args.steps.now) c.args.self.now m.0 m.0.to 0 m.2 m.1 m.3 m.5 c.index-cell.result.now there_m c.args.message m.4)

pub take-requires-clause-may : goal.take-requires-clause-may
take-requires-clause-may c =
    let m = c.requires.may in
    let same : m.0 ≡ c.message.result.now = same_message c.args.steps.now.messages c.args.message m.0 c.message.result.now m.4 c.message.ensures in
    let there_m = cell_of c.args.steps.now.messages c.args.message m.0 c.message.result.now c.args.self.now.cells.items c.index-cell.result.now m.4 c.message.ensures
    (receiver_within c.numbers_stay_small.ensures c.args.question.now c.requires.put (tables_of c.args.steps.now) c.args.self.now m.0 m.0.to 0 m.2 m.1 m.3 m.5) c.index-cell.ensures in (
      taken m.0,
      c.index-cell.result.now,
      m.1,
      m.2,
      m.3,
      subst (λ (s : Message). slice_get c.args.self.now.cells.items s.to ≡ Some c.index-cell.result.now) same there_m,
      c.in_ok-step.ensures.step m.0 m.4,
      may_grows (tables_of c.args.steps.now) (tables_of c.of_message.new.self) c.in_ok-step.ensures.grown.tables c.args.question.now c.args.self.now (taken m.0) m.0.to c.message.result.now.to 0 m.2 m.1 m.3
          (ap (λ (s : Message). s.to) same) m.5,
    )

pub returns-clause-goes : goal.returns-clause-goes
returns-clause-goes c = on_ok_weaker c.take.result
    (λ goes sent there spare before world command may.
    (let same : sent ≡ c.message.result.now = same_message c.args.steps.now.messages c.args.message sent c.message.result.now there c.message.ensures in
    let there_m = cell_of c.args.steps.now.messages c.args.message sent c.message.result.now c.args.self.now.cells.items c.index-cell.result.now there c.message.ensures
    (receiver_within c.numbers_stay_small.ensures c.args.question.now c.requires.put (tables_of c.args.steps.now) c.args.self.now sent sent.to spare before world command may) c.index-cell.ensures in
    goes (taken sent) c.index-cell.result.now (subst (λ (s : Message). slice_get c.args.self.now.cells.items s.to ≡ Some c.index-cell.result.now) same there_m) (c.in_ok-step.ensures.step sent there) spare before world command
    (may_grows (tables_of c.args.steps.now) (tables_of c.of_message.new.self) c.in_ok-step.ensures.grown.tables c.args.question.now c.args.self.now (taken sent) sent.to c.message.result.now.to spare before world command
    (ap (λ (s : Message). s.to) same) may)))
    c.take.ensures.goes
