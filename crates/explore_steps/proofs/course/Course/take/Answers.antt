use Rattle.std.proofs.Common.{◌≡◌, ◌∙◌, ◌<◌, ◌≤◌, ◌+◌, ◌++◌, ap, refl, subst, length, List, ℕ, Bool, arith, slice_set, if◌then◌else◌}
use Rattle.set_model.specs.World.{World, step}
use Rattle.question_laws.specs.Doing.{event_of}
use Rattle.question_laws.specs.Meeting.{unseen}
use Rattle.explore_steps.specs.declared.course.Course.{Course}
use Rattle.explore_steps.specs.declared.deed.Step.{Step}
use Rattle.explore_steps.specs.Courses.{left_after}
use Rattle.explore_steps.specs.Tables.{tables_of}
use Rattle.explore_steps.proofs.AddLemmas.{cells_set}
use Rattle.explore_steps.proofs.Growth.{grow_itself, grow_on, under_way_grows}
use Rattle.explore_steps.proofs.Reach.{reached_less}
use Rattle.explore_steps.proofs.TakeLemmas.{after_noted, after_reached, after_under_way, cells_of, deed_there, added, happens_seen, last_numbers, met_fits, sent_within, step_cell, step_same, still_left, taken}
use Rattle.explore_steps.proofs.course.Course.take.Goals as goal

-- the number of the step, and what is known of the world in which it is taken
pub add_from-requires-clause-cells : goal.add_from-requires-clause-cells
add_from-requires-clause-cells c =
    let m = c.requires.may in
    let tables = tables_of c.args.steps.now in
    cells_set tables tables (grow_itself tables) c.args.self.now.cells.items c.args.node m.1 c.step-step.result.cell m.5
    (cells_of tables c.args.self.now.cells.items m.2 m.7.stands.under_way.noted.cells_are) (step_cell tables c.args.question.now m.0 m.1 c.args.step m.6 c.step-step.result c.step-step.ensures)

pub add_from-requires-clause-messages : goal.add_from-requires-clause-messages
add_from-requires-clause-messages c =
    let m = c.requires.may in
    let tables = tables_of c.args.steps.now in
    let on = taken c.numbers_stay_small.ensures c.args.question.now c.requires.put tables c.args.self.now m.0 c.args.node m.1 c.args.step m.5 m.6 0 m.3 m.2 m.4 m.7 in
    let count : c.len-before.result ≡ length c.args.self.now.sent.items = omega arith in (
      on.sent,
      last_numbers tables c.args.self.now.sent.items m.6.deed.sent.items c.extend_from_slice.new.self.items c.sent.result.now c.len-before.result on.sent count c.in_ok-extend_from_slice.ensures.items
          (c.sent.ensures m.6.deed (deed_there tables c.args.question.now m.0 m.1 c.args.step m.6 c.step-step.result c.step-step.ensures)) on.sent_are,
      λ message there. subst (λ (s : Step). message.to < length (slice_set c.args.self.now.cells.items c.args.node s.cell)) (step_same tables c.args.question.now m.0 m.1 c.args.step m.6 c.step-step.result c.step-step.ensures)
          (sent_within c.numbers_stay_small.ensures c.args.question.now c.requires.put tables c.args.self.now m.0 c.args.node m.1 c.args.step m.5 m.6 0 m.3 m.2 m.4 m.7 message there),
    )

pub met_more-self-requires : goal.met_more-self-requires
met_more-self-requires c is_true =
    let m = c.requires.may in
    let tables = tables_of c.args.steps.now in
    let within : c.args.self.now.met < length c.args.question.now.wants = m.6.does.within c.args.self.now.met
    ((c.meets-meets.ensures m.6.deed (deed_there tables c.args.question.now m.0 m.1 c.args.step m.6 c.step-step.result c.step-step.ensures)).0 is_true) in
    let few : length c.args.question.now.wants ≤ 100 = c.requires.put.few in
    let same : c.add_from.new.self.met ≡ c.args.self.now.met = c.in_ok-add_from.ensures.same.met in
    omega (arith, within, few, same)

pub see-requires-clause-come : goal.see-requires-clause-come
see-requires-clause-come c =
    let m = c.requires.may in
    let tables = tables_of c.args.steps.now in
    let count : c.len-before.result ≡ length c.args.self.now.sent.items = omega arith in
    let found : c.sent.result.now ≡ m.6.deed.sent.items = c.sent.ensures m.6.deed (deed_there tables c.args.question.now m.0 m.1 c.args.step m.6 c.step-step.result c.step-step.ensures) in
    let noted = added c.numbers_stay_small.ensures c.args.question.now c.requires.put tables c.args.self.now m.0 c.args.node m.1 c.args.step m.5 m.6 0 m.3 m.2 m.4 m.7 c.step-step.result c.step-step.ensures c.with_death-self.result c.with_death-self.ensures
    c.extend_from_slice.new.self.items c.sent.result.now c.len-before.result count c.in_ok-extend_from_slice.ensures.items found (tables_of c.add_from.new.steps) c.add_from.new.self c.in_ok-add_from.ensures.adds in
    let sent_are : c.add_from.new.self.sent.items ≡ c.args.self.now.sent.items ++ m.6.deed.sent.items =
    ap (λ v. v.items) c.in_ok-add_from.ensures.same.sent ∙ c.in_ok-extend_from_slice.ensures.items ∙ ap (λ (l : List ℕ). c.args.self.now.sent.items ++ l) found in (
      (step m.2 (event_of m.4)).world,
      after_reached c.numbers_stay_small.ensures c.args.question.now c.requires.put tables c.args.self.now m.0 c.args.node m.1 c.args.step m.5 m.6 0 m.3 m.2 m.4 m.7,
      (after_noted c.numbers_stay_small.ensures c.args.question.now c.requires.put tables c.args.self.now m.0 c.args.node m.1 c.args.step m.5 m.6 0 m.3 m.2 m.4 m.7 (tables_of c.add_from.new.steps) c.in_ok-add_from.ensures.grown.tables c.add_from.new.self c.in_ok-add_from.ensures.same.notes sent_are noted).cells_are,
    )

pub see-requires-clause-met : goal.see-requires-clause-met
see-requires-clause-met c =
    let m = c.requires.may in
    let tables = tables_of c.args.steps.now in
    met_fits c.meets-meets.result c.args.self.now.met c.met_more-self.result (length c.args.question.now.wants)
    (λ is_true. m.6.does.within c.args.self.now.met ((c.meets-meets.ensures m.6.deed (deed_there tables c.args.question.now m.0 m.1 c.args.step m.6 c.step-step.result c.step-step.ensures)).0 is_true))
    m.7.stands.met (c.met_more-self.ensures ∙ ap (λ (k : ℕ). if c.meets-meets.result then k + 1 else k) c.in_ok-add_from.ensures.same.met)

pub returns-in_ok-see-clause-grown : goal.returns-in_ok-see-clause-grown
returns-in_ok-see-clause-grown c = record {
  tables = grow_on (tables_of c.args.steps.now) (tables_of c.add_from.new.steps) (tables_of c.see.new.steps) c.in_ok-add_from.ensures.grown.tables c.in_ok-see.ensures.grown.tables;
  kept = c.in_ok-see.ensures.grown.kept;
}

pub returns-in_ok-see-clause-goes : goal.returns-in_ok-see-clause-goes
returns-in_ok-see-clause-goes c cause cell there is spare before world command may =
    let tables = tables_of c.args.steps.now in
    let count : c.len-before.result ≡ length c.args.self.now.sent.items = omega arith in
    let found : c.sent.result.now ≡ is.deed.sent.items = c.sent.ensures is.deed (deed_there tables c.args.question.now cause cell c.args.step is c.step-step.result c.step-step.ensures) in
    let noted = added c.numbers_stay_small.ensures c.args.question.now c.requires.put tables c.args.self.now cause c.args.node cell c.args.step there is spare before world command may c.step-step.result c.step-step.ensures c.with_death-self.result c.with_death-self.ensures
    c.extend_from_slice.new.self.items c.sent.result.now c.len-before.result count c.in_ok-extend_from_slice.ensures.items found (tables_of c.add_from.new.steps) c.add_from.new.self c.in_ok-add_from.ensures.adds in
    let sent_are : c.add_from.new.self.sent.items ≡ c.args.self.now.sent.items ++ is.deed.sent.items =
    ap (λ v. v.items) c.in_ok-add_from.ensures.same.sent ∙ c.in_ok-extend_from_slice.ensures.items ∙ ap (λ (l : List ℕ). c.args.self.now.sent.items ++ l) found in
    let after : World = (step world (event_of command)).world in
    let under_way = after_under_way c.numbers_stay_small.ensures c.args.question.now c.requires.put tables c.args.self.now cause c.args.node cell c.args.step there is spare before world command may (tables_of c.add_from.new.steps) c.in_ok-add_from.ensures.grown.tables c.add_from.new.self c.in_ok-add_from.ensures.same.notes sent_are noted in
    happens_seen c.numbers_stay_small.ensures c.args.question.now c.requires.put tables c.args.self.now cause c.args.node cell c.args.step there is spare before world command may (tables_of c.add_from.new.steps) c.in_ok-add_from.ensures.grown.tables c.add_from.new.self c.in_ok-add_from.ensures.same.notes sent_are noted
    c.meets-meets.result (λ is_true. (c.meets-meets.ensures is.deed (deed_there tables c.args.question.now cause cell c.args.step is c.step-step.result c.step-step.ensures)).0 is_true) (λ is_false listed. cc (is_false, (c.meets-meets.ensures is.deed (deed_there tables c.args.question.now cause cell c.args.step is c.step-step.result c.step-step.ensures)).1 listed))
    c.see.new.self (ap (λ (s : Course). s.notes_dead) c.in_ok-see.ensures.same) (ap (λ (s : Course). s.cells) c.in_ok-see.ensures.same) (ap (λ (s : Course). s.sent) c.in_ok-see.ensures.same) (ap (λ (s : Course). s.dead) c.in_ok-see.ensures.same)
    c.in_ok-see.ensures.met (tables_of c.see.new.steps)
    (under_way_grows (tables_of c.add_from.new.steps) (tables_of c.see.new.steps) c.in_ok-see.ensures.grown.tables c.add_from.new.self.notes_dead c.add_from.new.self.cells.items c.add_from.new.self.sent.items c.add_from.new.self.dead after before under_way)
    (c.in_ok-see.ensures.seen after (reached_less c.args.question.now spare 0 after (omega arith) (after_reached c.numbers_stay_small.ensures c.args.question.now c.requires.put tables c.args.self.now cause c.args.node cell c.args.step there is spare before world command may)) under_way.noted.cells_are
    ∙ ap (λ (k : ℕ). unseen after (left_after c.args.question.now k)) (c.met_more-self.ensures ∙ ap (λ (k : ℕ). if c.meets-meets.result then k + 1 else k) c.in_ok-add_from.ensures.same.met))

pub returns-else-step-clause-goes : goal.returns-else-step-clause-goes
returns-else-step-clause-goes c cause cell there is spare before world command may =
    let tables = tables_of c.args.steps.now in
    let count : c.len-before.result ≡ length c.args.self.now.sent.items = omega arith in
    let found : c.sent.result.now ≡ is.deed.sent.items = c.sent.ensures is.deed (deed_there tables c.args.question.now cause cell c.args.step is c.step-step.result c.step-step.ensures) in
    let noted = added c.numbers_stay_small.ensures c.args.question.now c.requires.put tables c.args.self.now cause c.args.node cell c.args.step there is spare before world command may c.step-step.result c.step-step.ensures c.with_death-self.result c.with_death-self.ensures
    c.extend_from_slice.new.self.items c.sent.result.now c.len-before.result count c.in_ok-extend_from_slice.ensures.items found (tables_of c.add_from.new.steps) c.add_from.new.self c.in_ok-add_from.ensures.adds in
    let sent_are : c.add_from.new.self.sent.items ≡ c.args.self.now.sent.items ++ is.deed.sent.items =
    ap (λ v. v.items) c.in_ok-add_from.ensures.same.sent ∙ c.in_ok-extend_from_slice.ensures.items ∙ ap (λ (l : List ℕ). c.args.self.now.sent.items ++ l) found in
    let under_way = after_under_way c.numbers_stay_small.ensures c.args.question.now c.requires.put tables c.args.self.now cause c.args.node cell c.args.step there is spare before world command may (tables_of c.add_from.new.steps) c.in_ok-add_from.ensures.grown.tables c.add_from.new.self c.in_ok-add_from.ensures.same.notes sent_are noted in
    let met_is : c.met_more-self.result ≡ (if c.meets-meets.result then c.args.self.now.met + 1 else c.args.self.now.met) = c.met_more-self.ensures ∙ ap (λ (k : ℕ). if c.meets-meets.result then k + 1 else k) c.in_ok-add_from.ensures.same.met in
    happens_seen c.numbers_stay_small.ensures c.args.question.now c.requires.put tables c.args.self.now cause c.args.node cell c.args.step there is spare before world command may (tables_of c.add_from.new.steps) c.in_ok-add_from.ensures.grown.tables c.add_from.new.self c.in_ok-add_from.ensures.same.notes sent_are noted
    c.meets-meets.result (λ is_true. (c.meets-meets.ensures is.deed (deed_there tables c.args.question.now cause cell c.args.step is c.step-step.result c.step-step.ensures)).0 is_true) (λ is_false listed. cc (is_false, (c.meets-meets.ensures is.deed (deed_there tables c.args.question.now cause cell c.args.step is c.step-step.result c.step-step.ensures)).1 listed))
    (record c.add_from.new.self { met = c.met_more-self.result }) refl refl refl refl
    (met_fits c.meets-meets.result c.args.self.now.met c.met_more-self.result (length c.args.question.now.wants)
    (λ is_true. is.does.within c.args.self.now.met ((c.meets-meets.ensures is.deed (deed_there tables c.args.question.now cause cell c.args.step is c.step-step.result c.step-step.ensures)).0 is_true)) may.stands.met met_is)
    (tables_of c.add_from.new.steps) under_way
    (ap (left_after c.args.question.now) (met_is ∙ ap (λ (b : Bool). if b then c.args.self.now.met + 1 else c.args.self.now.met) c.if-meets.false)
    ∙ still_left c.numbers_stay_small.ensures c.args.question.now c.requires.put tables c.args.self.now cause c.args.node cell c.args.step there is spare before world command may (tables_of c.add_from.new.steps) c.in_ok-add_from.ensures.grown.tables c.add_from.new.self c.in_ok-add_from.ensures.same.notes sent_are noted
    c.meets-meets.result (λ is_true. (c.meets-meets.ensures is.deed (deed_there tables c.args.question.now cause cell c.args.step is c.step-step.result c.step-step.ensures)).0 is_true) (λ is_false listed. cc (is_false, (c.meets-meets.ensures is.deed (deed_there tables c.args.question.now cause cell c.args.step is c.step-step.result c.step-step.ensures)).1 listed)) c.if-meets.false (ap (λ (s : Step). s.moves) (step_same tables c.args.question.now cause cell c.args.step is c.step-step.result c.step-step.ensures) ∙ c.if-step.false))
