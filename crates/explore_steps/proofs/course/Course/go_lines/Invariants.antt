use Rattle.std.proofs.Common.{◌≡◌, Some, slice_get}
use Rattle.explore_words.specs.declared.question.Act.{Act}
use Rattle.explore_steps.specs.Keeping.{IsGrown}
use Rattle.explore_steps.specs.Tables.{tables_of}
use Rattle.explore_steps.proofs.LineLemmas.{GoesTo}
use Rattle.explore_steps.proofs.course.Course.go_lines.Given as goal

abbrev pub invariant-loop-line : goal.invariant-loop-line
invariant-loop-line l = record {
  grown : IsGrown l.question l.fn.steps l.steps;
  notes : l.self.notes_dead ≡ l.fn.self.notes_dead;
  goes : (of : Act) → slice_get l.question.acts l.act ≡ Some of → GoesTo l.line (tables_of l.fn.steps) (tables_of l.steps) l.question l.fn.self l.self of.commands;
}
