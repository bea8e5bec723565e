use Rattle.std.proofs.Common.{◌≡◌, []}
use Rattle.turn_board.specs.Passes.{view, IsPassOf, IsFree}
use Rattle.checks_stores.proofs.turns.meet.Given as goal

abbrev pub invariant-loop : goal.invariant-loop
invariant-loop g l = IsPassOf (λ m. m.marks.items) (λ m. []) l.board l.pass × IsFree l.pass × ((view l.pass).parts ≡ (view l.initial.pass).parts)
