use Rattle.std.proofs.Common.{◌≡◌, ◌∙◌, ◌∷◌, ◌++◌, ◌+◌, [], List, ℕ, Some, ap, length, refl, subst, sym}
use Rattle.explore_tables.specs.Rows.{Rows}
use Rattle.explore_words.specs.declared.question.Question.{Question}
use Rattle.question_laws.specs.Following.{begun}
use Rattle.question_laws.specs.Meeting.{unseen}
use Rattle.explore_steps.specs.declared.course.Course.{Course}
use Rattle.explore_steps.specs.Courses.{left_after}
use Rattle.explore_steps.specs.Tables.{AreNoted, tables_of}
use Rattle.explore_steps.proofs.Growth.{noted_grows}
use Rattle.explorer.specs.declared.search.Search.{Search}
use Rattle.explorer.proofs.FirstState.{IsFirst, begins_at, first_begun, first_width, one_there}
use Rattle.explorer.proofs.search.Search.begin.Goals as goal

pub begin-requires-clause-reached : goal.begin-requires-clause-reached
begin-requires-clause-reached c = begins_at c.args.question.now c.requires.asked c.args.machine.now c.requires.begun

pub see-requires-clause-come : goal.see-requires-clause-come
see-requires-clause-come c = (c.args.machine.now, begins_at c.args.question.now c.requires.asked c.args.machine.now c.requires.begun, c.in_ok-begin.ensures.begun.cells_are)

pub add-requires-clause-width : goal.add-requires-clause-width
add-requires-clause-width c =
    let same : c.see.new.self.cells.items ≡ c.begin.new.self.cells.items = ap (λ (course : Course). course.cells.items) c.see.ensures.same in
    first_width c.args.question.now c.requires.asked c.args.machine.now c.requires.begun c.see.new.self.cells.items (ap length same ∙ c.in_ok-begin.ensures.begun.cells_are.count) _ _ c.deref.result.now
    (c.deref.ensures.value ∙ c.in_ok-set_row.ensures) ∙ sym (ap (λ (t : Rows). t.width) c.requires.new.states)

pub returns-clause-begun : goal.returns-clause-begun
returns-clause-begun c = λ depth asked.
    (let question : Question = c.args.question.now in
    let old : Search = c.args.self.now in
    let search : Search = record old { steps = c.see.new.steps; used = c.place.new.self; states = c.add.new.self; origins = c.push.new.self; course = c.see.new.self; row = c.set_row.new.row } in
    let before : AreNoted (tables_of c.begin.new.steps) c.begin.new.self.notes_dead c.begin.new.self.cells.items c.begin.new.self.dead (begun question) =
    subst (AreNoted (tables_of c.begin.new.steps) c.begin.new.self.notes_dead c.begin.new.self.cells.items c.begin.new.self.dead) c.requires.begun c.in_ok-begin.ensures.begun in
    let noted : AreNoted (tables_of c.see.new.steps) c.begin.new.self.notes_dead c.begin.new.self.cells.items c.begin.new.self.dead (begun question) =
    noted_grows (tables_of c.begin.new.steps) (tables_of c.see.new.steps) c.in_ok-see.ensures.grown.tables c.begin.new.self.notes_dead c.begin.new.self.cells.items c.begin.new.self.dead (begun question) before in
    let is : IsFirst question search = record {
      used = c.in_ok-used.used;
      kept = c.in_ok-see.ensures.grown.kept;
      notes = c.requires.new.notes;
      course = ap (λ (course : Course). course.notes_dead) c.see.ensures.same ∙ c.begin.ensures.same.notes ∙ c.requires.new.course;
      noted = subst (λ (course : Course). AreNoted (tables_of c.see.new.steps) course.notes_dead course.cells.items course.dead (begun question)) (sym c.see.ensures.same) noted;
      within = c.see.ensures.met;
      left = c.in_ok-see.ensures.seen (begun question) (begins_at question c.requires.asked (begun question) refl) before.cells_are
          ∙ ap (λ met. unseen (begun question) (left_after question met)) (c.begin.ensures.same.met ∙ c.requires.new.unmet);
      acts = c.in_ok-used.ensures.there ∙ ap Some c.new.ensures.items;
      states = c.in_ok-add.ensures ∙ ap (λ (t : Rows). record { width = t.width; rows = t.rows ++ c.deref.result.now ∷ [] }) c.requires.new.states
          ∙ ap (λ (row : List ℕ). record { width = question.sizes.nodes + 2; rows = row ∷ [] }) (c.deref.ensures.value ∙ c.in_ok-set_row.ensures);
      origins = one_there old.origins.items c.push.new.self.items _ c.requires.new.origins c.in_ok-push.ensures.items;
      most = c.requires.most;
    } in
    first_begun question depth search asked is c.is_met.result c.is_met.ensures)
