use Rattle.std.proofs.Common.{◌≡◌, false}
use Rattle.std.specs.List.{list_all}
use Rattle.question_laws.specs.Meeting.{any_below}
use Rattle.explore_steps.specs.Keeping.{IsGrown}
use Rattle.explore_steps.specs.Seeing.{is_met_in}
use Rattle.explore_steps.specs.Tables.{tables_of}
use Rattle.explore_steps.proofs.steps.Steps.is_seen.Given as goal

abbrev pub invariant-loop-any : goal.invariant-loop-any
invariant-loop-any l = record {
  grown : IsGrown l.question l.fn.self l.self;
  none : any_below (λ any. list_all (is_met_in (tables_of l.fn.self) l.question.sizes.nodes l.cells any) l.looks) l.any ≡ false;
}
