use Rattle.std.proofs.Common.{◌≡◌, take, true}
use Rattle.std.specs.List.{list_all}
use Rattle.explore_steps.specs.Keeping.{IsGrown}
use Rattle.explore_steps.specs.Seeing.{is_met_in}
use Rattle.explore_steps.specs.Tables.{tables_of}
use Rattle.explore_steps.proofs.steps.Steps.are_met.Given as goal

abbrev pub invariant-loop-place : goal.invariant-loop-place
invariant-loop-place l = record {
  grown : IsGrown l.question l.fn.self l.self;
  met : list_all (is_met_in (tables_of l.fn.self) l.question.sizes.nodes l.cells l.any) (take l.place l.looks) ≡ true;
}
